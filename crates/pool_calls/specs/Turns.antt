-- The steps that a call has taken, each with its answer, and what is common to the rules of all calls.
use Rattle.std.specs.Prelude.{◌≡◌, Bool, true, false, List, [], ◌∷◌, ◌++◌, Option, Some, None}
use Rattle.pool_journal.specs.declared.input.Input.{Input}
use Rattle.pool_journal.specs.declared.answer.Answer.{Answer}
use Rattle.pool_calls.specs.declared.action.Action.{Action}
use Rattle.pool_calls.specs.declared.action.Action.TheVariants as actions
use Rattle.pool_calls.specs.declared.action.Event.{Event}
use Rattle.pool_calls.specs.declared.action.Event.TheVariants as events
use Rattle.pool_calls.specs.declared.action.StepFailure.TheVariants as failures

pub record Turn : Type 0 where
  pub input : Input
  pub answer : Answer

-- the stage of a call after its turns
abbrev pub run_stages : {Stage : Type 0} → (Stage → Turn → Stage) → Stage → List Turn → Stage
run_stages next stage [] = stage
run_stages next stage (t ∷ ts) = run_stages next (next stage t) ts

-- each input is expected at the stage before it
abbrev pub AllExpected : {Stage : Type 0} → (Stage → Input → Type 0) → (Stage → Turn → Stage) → Stage → List Turn → Type 0
AllExpected Expects next stage [] = Unit {0}
AllExpected Expects next stage (t ∷ ts) = Expects stage t.input × AllExpected Expects next (next stage t) ts

-- the step that an action asks for
abbrev pub step_of : Action → Option Input
step_of (actions.Step input) = Some input
step_of _ = None

-- the turns after an answer to this step, if one was asked for
abbrev pub add_turn : Option Input → Answer → List Turn → List Turn
add_turn (Some input) a turns = turns ++ record { input = input; answer = a } ∷ []
add_turn None a turns = turns

-- the turns after an event: an answer adds one
abbrev pub turns_after : Option Input → Event → List Turn → List Turn
turns_after step (events.Answered a) turns = add_turn step a turns
turns_after step _ turns = turns

-- the work after the first of it
abbrev pub but_first : List Action → List Action
but_first [] = []
but_first (a ∷ rest) = rest

-- the first of the work is what the host does
abbrev pub IsFirst : List Action → Action → Type 0
IsFirst [] action = Unit {0}
IsFirst (a ∷ rest) action = action ≡ a

-- ---- pauses
-- the host is asked to make an object
abbrev pub asks_make : Action → Bool
asks_make (actions.Make i) = true
asks_make _ = false

-- the host is asked to make room
abbrev pub asks_room : Action → Bool
asks_room actions.MakeRoom = true
asks_room _ = false

-- the host is asked to sleep
abbrev pub asks_wait : Action → Bool
asks_wait actions.Wait = true
asks_wait _ = false

-- the call is over
abbrev pub is_done : Action → Bool
is_done (actions.Done e) = true
is_done _ = false

-- a step was not taken, since the journal has no room
abbrev pub is_full : Event → Bool
is_full (events.NotTaken failures.JournalFull) = true
is_full _ = false
