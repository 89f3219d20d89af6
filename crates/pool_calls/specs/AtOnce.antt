-- The usual course of a borrow and of a return: an answer, and two steps one after the other.
use Rattle.std.specs.Prelude.{◌≡◌, ℕ, false, Some}
use Rattle.pool_journal.specs.declared.answer.Answer.{Answer}
use Rattle.pool_journal.specs.declared.answer.Answer.TheVariants as answers
use Rattle.pool_journal.specs.declared.input.Input.{Input}
use Rattle.pool_journal.specs.declared.input.Input.TheVariants as inputs
use Rattle.pool_journal.specs.declared.input.Outcome.TheVariants as outcomes
use Rattle.pool_calls.specs.declared.action.Event.TheVariants as events
use Rattle.pool_calls.specs.declared.operation.Operation.{Operation}
use Rattle.pool_calls.specs.Operations.{ComesOn, Proceeds, lacks_room, step_at}

-- a call comes on with this answer to its step
pub record Goes (answer : Answer) (before after : Operation) : Type 0 where
  pub comes : ComesOn (events.Answered answer) before after
  pub proceeds : Proceeds (events.Answered answer) before after
  pub room : lacks_room after ≡ false

-- a call comes on with this answer, asks for this step at once, and comes on with that answer to it
pub record GoesTwice (first : Answer) (step : Input) (second : Answer) (before after : Operation) : Type 0 where
  pub between : Operation
  pub begins : Goes first before between
  pub asks : step_at between ≡ Some step
  pub ends : Goes second between after

-- a borrow takes this object, reports it as good, and is lent it
abbrev pub IsLent : ℕ → Operation → Operation → Type 0
IsLent i = GoesTwice (answers.Take i) (inputs.Ready i outcomes.Good) answers.Lent

-- a return of this object has it checked, reports it as good, and it is idle
abbrev pub IsParked : ℕ → Operation → Operation → Type 0
IsParked i = GoesTwice answers.Check (inputs.Park i outcomes.Good) answers.Parked
