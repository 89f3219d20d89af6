-- Which caller continues an object, and with which outcomes.
use Rattle.std.specs.Prelude.{◌≡◌, ◌≢◌, ℕ, ◌==◌, Bool, false, List, take, slice_get, Option, Some, None, IsSomeAnd}
use Rattle.pool_journal.specs.Latest.{last_some, some_if}
use Rattle.pool_journal.specs.Entries.{Move, move_of_entry}
use Rattle.pool_journal.specs.Journal.{phase, is_new}
use Rattle.pool_journal.specs.declared.answer.Answer.TheVariants as answers
use Rattle.pool_journal.specs.declared.answer.Cause.TheVariants as causes
use Rattle.pool_journal.specs.declared.input.Outcome.{Outcome}
use Rattle.pool_journal.specs.declared.input.Outcome.TheVariants as outcomes
use Rattle.pool_journal.specs.declared.entry.Entry.{Entry}
use Rattle.pool_journal.specs.declared.input.Input.{Input}
use Rattle.pool_journal.specs.declared.input.Input.TheVariants.{Ready, Park, Added, Tested, Destroyed}
use Rattle.pool_journal.specs.declared.record.Phase.{Phase}
use Rattle.pool_journal.specs.declared.record.Phase.TheVariants as phases

-- the entry, if it moves i
abbrev pub told_mover : {X : Type 0} → ℕ → Option Move → X → Option X
told_mover i None x = None
told_mover i (Some (j, p)) x = some_if (j == i) x

-- the last entry that moves i
unfoldable pub last_move : ℕ → List Entry → Option Entry
last_move i J = last_some (λ e. told_mover i (move_of_entry e) (Some e)) None J

-- caller n owns object i, which it moved last, and which is in this phase
abbrev pub IsOwnedBy : List Entry → ℕ → ℕ → Phase → Type 0
IsOwnedBy J n i p = IsSomeAnd (last_move i J) (λ e. e.caller ≡ n) × (phase i J ≡ p)

-- readying an object, a new one or not, can have this outcome
abbrev pub IsReadyOutcome : Bool → Outcome → Type 0
IsReadyOutcome new outcomes.PassivateFailed = ⊥
IsReadyOutcome false outcomes.MakeFailed = ⊥
IsReadyOutcome false outcomes.CreateTestFailed = ⊥
IsReadyOutcome new o = Unit {0}

-- checking a returned object can have this outcome
abbrev pub IsParkOutcome : Outcome → Type 0
IsParkOutcome outcomes.Good = Unit {0}
IsParkOutcome outcomes.TestFailed = Unit {0}
IsParkOutcome outcomes.PassivateFailed = Unit {0}
IsParkOutcome o = ⊥

-- making an object for the idle queue can have this outcome
abbrev pub IsAddOutcome : Outcome → Type 0
IsAddOutcome outcomes.ActivateFailed = ⊥
IsAddOutcome outcomes.TestFailed = ⊥
IsAddOutcome o = Unit {0}

-- testing an idle object can have this outcome
abbrev pub IsTestOutcome : Outcome → Type 0
IsTestOutcome outcomes.MakeFailed = ⊥
IsTestOutcome outcomes.CreateTestFailed = ⊥
IsTestOutcome o = Unit {0}

-- an input that continues an object comes from the caller that owns it, finds it in the phase that it needs, and reports an
-- outcome that is possible in that phase
abbrev pub IsOwnerRespectingAfter : List Entry → ℕ → Input → Type 0
IsOwnerRespectingAfter J n (Ready i o) = IsOwnedBy J n i phases.Readying × IsReadyOutcome (is_new i J) o
IsOwnerRespectingAfter J n (Park i o) = IsOwnedBy J n i phases.Returning × IsParkOutcome o
IsOwnerRespectingAfter J n (Added i o) = IsOwnedBy J n i phases.Adding × IsAddOutcome o
IsOwnerRespectingAfter J n (Tested i o) = IsOwnedBy J n i phases.Testing × IsTestOutcome o
IsOwnerRespectingAfter J n (Destroyed i) = IsOwnedBy J n i phases.Destroying
IsOwnerRespectingAfter J n _ = Unit {0}

-- each entry of a journal respects the owners of objects after the entries before it
abbrev pub IsOwnerRespecting : List Entry → Type 0
IsOwnerRespecting J = (k : ℕ) (e : Entry) → slice_get J k ≡ Some e → IsOwnerRespectingAfter (take k J) e.caller e.input

-- no entry has the answer Refused NotHeld or Refused BadOutcome
abbrev pub NoneMisused : List Entry → Type 0
NoneMisused J = (k : ℕ) (e : Entry) → slice_get J k ≡ Some e → (e.answer ≢ answers.Refused causes.NotHeld) × (e.answer ≢ answers.Refused causes.BadOutcome)
