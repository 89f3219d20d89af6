-- The rules of a call.
use Rattle.std.specs.Prelude.{◌≡◌, ℕ, Bool, List, Option, Some, None}
use Rattle.pool_journal.specs.declared.input.Input.{Input}
use Rattle.pool_calls.specs.declared.action.Action.{Action}
use Rattle.pool_calls.specs.declared.action.Event.{Event}
use Rattle.pool_calls.specs.declared.kind.Kind.{Kind}
use Rattle.pool_calls.specs.declared.kind.Kind.TheVariants as kinds
use Rattle.pool_calls.specs.declared.hook_plan.HookPlan.{HookPlan}
use Rattle.pool_calls.specs.declared.stage.Stage.{Stage}
use Rattle.pool_calls.specs.declared.operation.Operation.{Operation}
use Rattle.pool_calls.specs.Progress.{Takes, is_given_up}
use Rattle.pool_calls.specs.Rules as rules
use Rattle.pool_calls.specs.Counting.{counts_of}
use Rattle.pool_calls.specs.Turns.{Turn, AllExpected, run_stages, turns_after}

-- the stage of a call after these turns
abbrev pub stage_of : Operation → List Turn → Stage
stage_of op turns = run_stages (rules.next op.kind) (rules.first_stage op.plan op.kind) turns

-- what holds of a call after its turns: each was expected when it was taken
pub record Reached (op : Operation) (turns : List Turn) : Type 0 where
  pub expected : AllExpected (rules.IsExpected op.plan op.kind) (rules.next op.kind) (rules.first_stage op.plan op.kind) turns
  pub at : rules.IsAt op.plan op.kind op.place (stage_of op turns)
  pub counts : op.counts ≡ counts_of op.kind turns

-- after these turns a call has come so far
unfoldable pub HasCome : Operation → List Turn → Type 0
HasCome op turns = Reached op turns

-- the step that it asks for
abbrev pub step_at : Operation → Option Input
step_at op = rules.step_at op.kind op.place

-- a call that has come so far comes on with this event
abbrev pub ComesOn : Event → Operation → Operation → Type 0
ComesOn event before after = (turns : List Turn) → HasCome before turns → HasCome after (turns_after (step_at before) event turns)

-- an action is right after these turns
unfoldable pub IsRight : Operation → List Turn → Action → Type 0
IsRight op turns action = rules.IsRight op.plan op.kind (stage_of op turns) action

-- an event fits what the host was asked to do
abbrev pub fits : Operation → Event → Bool
fits op event = rules.fits op.kind op.given_up op.place event

-- the journal has no room for its step
abbrev pub lacks_room : Operation → Bool
lacks_room op = rules.lacks_room op.place

-- it has an object made
abbrev pub is_making : Operation → Bool
is_making op = rules.is_making op.place

-- it waits, as only a borrow does
abbrev pub is_waiting : Operation → Bool
is_waiting op = rules.is_waiting op.place

-- it is over
abbrev pub is_over : Operation → Bool
is_over op = rules.is_over op.place

-- it comes to wait with this event
abbrev pub comes_to_wait : Event → Operation → Bool
comes_to_wait event op = rules.comes_to_wait op.kind event op.place

abbrev pub beginning : Kind → Option ℕ
beginning (kinds.Borrow began) = Some began
beginning _ = None

-- the time at which a borrow began
abbrev pub began_of : Operation → Option ℕ
began_of op = beginning op.kind

-- it follows this plan
abbrev pub Follows : HookPlan → Operation → Type 0
Follows p op = op.plan ≡ p

-- what an event changes, and what it leaves
pub record Changes (event : Event) (before after : Operation) : Type 0 where
  pub kind : after.kind ≡ before.kind
  pub plan : after.plan ≡ before.plan
  pub given_up : after.given_up ≡ is_given_up before.given_up event
  pub takes : Takes before.plan before.kind before.given_up event before.place after.place

-- a call proceeds with an event
unfoldable pub Proceeds : Event → Operation → Operation → Type 0
Proceeds event before after = Changes event before after
