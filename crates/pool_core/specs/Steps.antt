-- One step on the state of the pool apart from its journal.
use Rattle.std.specs.Prelude.{◌≡◌, ℕ, ◌+◌, ◌<◌, ◌^◌, ◌||◌, Bool, true, false, List, Option, Some, unwrap_or, IsSome, IsSomeAnd, ⊤}
use Rattle.std.specs.List.{AllByRecursion}
use Rattle.pool_journal.specs.declared.record.Record.{Record}
use Rattle.pool_journal.specs.declared.input.Input.{Input}
use Rattle.pool_journal.specs.declared.answer.Answer.{Answer}
use Rattle.pool_journal.specs.declared.answer.Answer.TheVariants as answers
use Rattle.pool_journal.specs.declared.record.Phase.{Phase}
use Rattle.pool_journal.specs.declared.record.Phase.TheVariants as phases
use Rattle.pool_journal.specs.Entries.{id_of, is_borrow, made_to, is_closing, examined_by}
use Rattle.pool_journal.specs.Carrying.{carries}
use Rattle.pool_journal.specs.OneMore.{stays, records_after, next_after}
use Rattle.pool_journal.specs.Queue.{record_in}
use Rattle.pool_journal.specs.Known.{place_known}
use Rattle.pool_places.specs.Changes.{IsInPhase}
use Rattle.pool_places.specs.PlacesModel.{records_in}
use Rattle.pool_stats.specs.Ended.{ended_after}
use Rattle.pool_core.specs.Legal.{entry_of}
use Rattle.pool_core.specs.Reply.{reply_from_records}
use Rattle.pool_core.specs.declared.state.StepContext.{StepContext}
use Rattle.pool_core.specs.declared.state.State.{State}

-- the records after a step, by any caller
abbrev pub known_after : StepContext → Input → Answer → ℕ → List Record → List Record
known_after now input answer next rs = records_after now.position (entry_of 0 now.at input answer) next rs

-- whether the pool is closed after a step
abbrev pub closed_after : Answer → Input → Bool → Bool
closed_after answer input shut = shut || is_closing answer input

-- the cursor after a step
abbrev pub cursor_after : Answer → Input → List Record → Option ℕ → Option ℕ
cursor_after answer input rs cursor = unwrap_or (place_known (examined_by answer input) rs) cursor

-- the new state has taken the step that the input asks for, with the expected answer
pub record TakesStep {T : Type 0} (now : StepContext) (input : Input) (old new : State T) (answer : Answer) : Type 0 where
  pub due : answer ≡ reply_from_records old.settings (records_in old.places.objects) old.next old.closed old.cursor now.at input
  pub known : records_in new.places.objects ≡ known_after now input answer old.next (records_in old.places.objects)
  pub next_is : new.next ≡ next_after (entry_of 0 now.at input answer) old.next
  pub closed_is : new.closed ≡ closed_after answer input old.closed
  pub cursor_is : new.cursor ≡ cursor_after answer input (records_in old.places.objects) old.cursor
  pub ended_is : new.ended ≡ ended_after answer input old.ended
  pub settings_stay : new.settings ≡ old.settings

-- each record is that of a present object
abbrev pub AllStay : List Record → Type 0
AllStay rs = AllByRecursion (λ r. stays r ≡ true) rs

-- the facts about the records and the next id before the entry at a position: each record is that of a present object, found
-- under its id, created before and parked before; and there are ids left
pub record IsBefore (position : ℕ) (rs : List Record) (next : ℕ) : Type 0 where
  pub stay : AllStay rs
  pub found : AllByRecursion (λ r. record_in rs r.id ≡ Some r) rs
  pub below : AllByRecursion (λ r. r.id < next) rs
  pub parked : AllByRecursion (λ r. r.parked < position) rs
  pub bounded : next + 1 < 2 ^ 64

-- the phases from which an answer moves the object that the input names
abbrev pub comes_from : Answer → Phase → Bool
comes_from answers.Lent phases.Readying = true
comes_from answers.Check phases.Lent = true
comes_from answers.Parked phases.Returning = true
comes_from answers.Parked phases.Adding = true
comes_from answers.Kept phases.Testing = true
comes_from answers.Destroy phases.Readying = true
comes_from answers.Destroy phases.Lent = true
comes_from answers.Destroy phases.Returning = true
comes_from answers.Destroy phases.Adding = true
comes_from answers.Destroy phases.Testing = true
comes_from answers.Freed phases.Readying = true
comes_from answers.Freed phases.Adding = true
comes_from answers.Freed phases.Destroying = true
comes_from answers.Noted phases.Lent = true
comes_from _ _ = false

-- the object that the input names is present, in a phase from which the answer moves it
abbrev pub MovesInputObject : Input → Answer → List Record → Type 0
MovesInputObject input a rs = IsSomeAnd (id_of input) (λ i. IsSomeAnd (record_in rs i) (λ r. comes_from a r.phase ≡ true))

-- the object that the input names becomes idle, with its value
abbrev pub keeps_value : Answer → Bool
keeps_value answers.Parked = true
keeps_value answers.Kept = true
keeps_value _ = false

-- the condition of an answer: an idle object that it takes, a lent one that it reclaims, the next id, or the object that the
-- input names, in a phase from which the answer moves it; and a value with the input, if the object keeps one
abbrev pub IsEnabled : Input → Answer → List Record → ℕ → Type 0
IsEnabled input (answers.Take i) rs next = IsInPhase rs i phases.Idle × (is_borrow input ≡ true)
IsEnabled input (answers.Test i) rs next = IsInPhase rs i phases.Idle × (carries input ≡ false)
IsEnabled input (answers.DestroyIdle i) rs next = IsInPhase rs i phases.Idle × (carries input ≡ false)
IsEnabled input (answers.Reclaimed i) rs next = IsInPhase rs i phases.Lent
IsEnabled input (answers.Make i) rs next = (i ≡ next) × IsSome (made_to input i)
IsEnabled input answers.Parked rs next = MovesInputObject input answers.Parked rs × (carries input ≡ true)
IsEnabled input answers.Kept rs next = MovesInputObject input answers.Kept rs × (carries input ≡ true)
IsEnabled input answers.Lent rs next = MovesInputObject input answers.Lent rs
IsEnabled input answers.Check rs next = MovesInputObject input answers.Check rs
IsEnabled input answers.Destroy rs next = MovesInputObject input answers.Destroy rs
IsEnabled input answers.Freed rs next = MovesInputObject input answers.Freed rs
IsEnabled input answers.Noted rs next = MovesInputObject input answers.Noted rs
IsEnabled input _ rs next = ⊤
