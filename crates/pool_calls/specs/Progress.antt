-- What an event does to a call, and how near its end the call comes.
use Rattle.std.specs.Prelude.{◌≡◌, ◌<◌, ◌≤◌, Bool, true, false, ◌||◌, ◌⊎◌}
use Rattle.pool_calls.specs.declared.action.End.TheVariants as ends
use Rattle.pool_calls.specs.declared.action.Event.{Event}
use Rattle.pool_calls.specs.declared.action.Event.TheVariants as events
use Rattle.pool_calls.specs.declared.kind.Kind.{Kind}
use Rattle.pool_calls.specs.declared.kind.Kind.TheVariants as kinds
use Rattle.pool_calls.specs.declared.hook_plan.HookPlan.{HookPlan}
use Rattle.pool_calls.specs.declared.stage.Request.TheVariants as requests
use Rattle.pool_calls.specs.declared.stage.Stage.{Stage}
use Rattle.pool_calls.specs.declared.stage.Stage.TheVariants as stages
use Rattle.pool_calls.specs.declared.stage.Place.{Place}
use Rattle.pool_calls.specs.declared.stage.Place.TheVariants as places
use Rattle.pool_calls.specs.Left.{reports_left, events_left, steps_left}
use Rattle.pool_calls.specs.Rules.{GoesOn, Pauses, Works, is_asking, is_waiting, stage_after}

-- ---- calls that are given up
abbrev pub is_given_up : Bool → Event → Bool
is_given_up given_up events.Cancelled = true
is_given_up given_up _ = given_up

-- an answer ends a call as the table says, or as given up if it is
abbrev pub EndsBy : Bool → Stage → Place → Type 0
EndsBy given_up s (places.Ended e) = (s ≡ stages.Ends e) ⊎ ((given_up ≡ true) × (e ≡ ends.Cancelled))
EndsBy given_up s _ = Unit {0}

-- a call that is given up ends after three more events at most
abbrev pub Ends : Kind → Bool → Event → Place → Place → Type 0
Ends k given_up events.Cancelled before after = reports_left after ≤ 3
Ends k given_up (events.Answered a) before after =
    (given_up ≡ true → reports_left after < reports_left before) × EndsBy given_up (stage_after k before a) after
Ends k given_up _ before after = given_up ≡ true → reports_left after < reports_left before

-- ---- calls that go on
-- a borrow asks again, or waits until it may
abbrev pub asks_again : Kind → Place → Bool
asks_again k place = is_asking k place || is_waiting place

-- a fill that parked an object asks for the next
abbrev pub goes_on_filling : Kind → Place → Bool
goes_on_filling kinds.Fill (places.Asks requests.Ask) = true
goes_on_filling k place = asks_again k place

-- each answer and each report of the factory brings the end nearer, unless a borrow or a fill asks again
abbrev pub Nears : HookPlan → Kind → Event → Place → Place → Type 0
Nears p k (events.Answered a) before after = goes_on_filling k after ≡ false → events_left p k after < events_left p k before
Nears p k events.Succeeded before after = events_left p k after < events_left p k before
Nears p k events.Failed before after = events_left p k after < events_left p k before
Nears p k _ before after = Unit {0}

-- each answer brings the factory's next call or the end nearer, unless a borrow asks again
abbrev pub Steps : Kind → Event → Place → Place → Type 0
Steps k (events.Answered a) before after = asks_again k after ≡ false → steps_left k after < steps_left k before
Steps k _ before after = Unit {0}

-- what an event does to a call
pub record Takes (p : HookPlan) (k : Kind) (given_up : Bool) (event : Event) (before after : Place) : Type 0 where
  pub goes : GoesOn p k event before after
  pub works : Works p k event before after
  pub ends : Ends k given_up event before after
  pub pauses : Pauses k event before after
  pub nears : Nears p k event before after
  pub steps : Steps k event before after
