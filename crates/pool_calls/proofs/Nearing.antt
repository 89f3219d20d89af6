-- Each answer brings a call nearer to its end, and to its factory's next call: the places.
use Rattle.std.proofs.Common.{◌≡◌, refl, ℕ, ◌<◌, ◌≤◌, Bool, true, false, cond}
use Rattle.std.proofs.Common.{List, [], ◌∷◌, length, map, ap, sym, ◌∙◌, subst, arith}
use Rattle.std.proofs.lemmas.List.{length-map}
use Rattle.pool_journal.specs.declared.answer.Answer.{Answer}
use Rattle.pool_calls.specs.declared.action.Action.{Action}
use Rattle.pool_calls.specs.declared.action.Action.TheVariants as actions
use Rattle.pool_calls.specs.declared.action.Event.TheVariants as events
use Rattle.pool_calls.specs.declared.kind.Kind.{Kind}
use Rattle.pool_calls.specs.declared.kind.Kind.TheVariants as kinds
use Rattle.pool_calls.specs.declared.hook_plan.HookPlan.{HookPlan}
use Rattle.pool_calls.specs.declared.work.Task.{Task}
use Rattle.pool_calls.specs.declared.stage.Request.TheVariants as requests
use Rattle.pool_calls.specs.declared.stage.Stage.{Stage}
use Rattle.pool_calls.specs.declared.stage.Stage.TheVariants as stages
use Rattle.pool_calls.specs.declared.stage.Place.{Place}
use Rattle.pool_calls.specs.declared.stage.Place.TheVariants as places
use Rattle.pool_calls.specs.Left.{CountFits, events_left}
use Rattle.pool_calls.specs.Left.{freeing_steps, reporting_steps, steps_left}
use Rattle.pool_calls.specs.Progress.{Nears, Steps, goes_on_filling, asks_again}
use Rattle.pool_calls.specs.Rules.{IsAt, has_step, is_over, lacks_room, stage_after, work_due, work_left}
use Rattle.pool_calls.specs.Steps.{destroys}
use Rattle.pool_calls.specs.Tasks.{action_of, in_order, rest_after, work_of}
use Rattle.pool_calls.proofs.Answering.{fills_at, borrows_at, left_of, unless_any, steps_of, answered}

-- ---- what is left at a place, and at its stage
same_length : (f : Task → Action) (ts us : List Task) → map f ts ≡ map f us → length ts ≡ length us
same_length f ts us e = sym (length-map ts f) ∙ ap length e ∙ length-map us f

none_then : (b : Bool) (action : Action) (n : ℕ) → [] ≡ cond b (action ∷ []) [] → n ≤ cond b 0 n
none_then true action n is = absurd (cc is)
none_then false action n is = omega arith

none_due : (f : Task → Action) (ts : List Task) (n : ℕ) → [] ≡ map f ts → n ≤ unless_any ts n
none_due f [] n is = omega arith
none_due f (t ∷ ts) n is = absurd (cc is)

module _ (p : HookPlan) (k : Kind) where
  -- no more is left at a place than at its stage
  abbrev Within : Place → Stage → Type 0
  Within place s = (events_left p k place ≤ left_of p k s) × (steps_left k place ≤ steps_of p k s)

  within : (place : Place) (s : Stage) → IsAt p k place s → work_left p k place ≡ work_due p k s → Within place s
  within (places.Asks request) s at works = subst (Within (places.Asks request)) (sym at) (omega arith, omega arith)
  within (places.LacksRoom request) s at works = subst (Within (places.LacksRoom request)) (sym at) (omega arith, omega arith)
  within places.Waits s at works = subst (Within places.Waits) (sym at) (omega arith, omega arith)
  within (places.Works t object) s at works =
      let due = works ∙ ap (work_due p k) at.0 in
      let w = work_of p k object.is_new in
      let same = same_length (action_of object.id) (t ∷ rest_after w t) (in_order w) due in
      subst (Within (places.Works t object)) (sym at.0) (omega (arith, same), omega arith)
  within (places.Reports o object) s at works =
      let due = works ∙ ap (work_due p k) at.0 in
      let ts = in_order (work_of p k object.is_new) in
      let none = none_due (action_of object.id) ts (reporting_steps k object.left) due in
      subst (Within (places.Reports o object)) (sym at.0) (omega arith, none)
  within (places.Destroys o object) s at works = subst (Within (places.Destroys o object)) (sym at) (omega arith, omega arith)
  within (places.Frees o object) s at works =
      let due = works ∙ ap (work_due p k) at in
      let none = none_then (destroys k) (actions.Destroy object.id) (freeing_steps k object.left) due in
      subst (Within (places.Frees o object)) (sym at) (omega arith, none)
  within (places.DestroysGone i) s at works = subst (Within (places.DestroysGone i)) (sym at) (omega arith, omega arith)
  within (places.Ended e) s at works = (omega arith, omega arith)

-- the stage of a place where the call is not over
abbrev stage_at : Place → Stage
stage_at (places.Asks request) = stages.Asks request
stage_at (places.LacksRoom request) = stages.Asks request
stage_at places.Waits = stages.Asks requests.Ask
stage_at (places.Works t object) = stages.Works object
stage_at (places.Reports o object) = stages.Works object
stage_at (places.Destroys o object) = stages.Removes object o
stage_at (places.Frees o object) = stages.Removes object o
stage_at (places.DestroysGone i) = stages.Gone i
stage_at (places.Ended e) = stages.Ends e

is_stage : (p : HookPlan) (k : Kind) (place : Place) (s : Stage) → is_over place ≡ false → IsAt p k place s → s ≡ stage_at place
is_stage p k (places.Asks request) s goes at = at
is_stage p k (places.LacksRoom request) s goes at = at
is_stage p k places.Waits s goes at = at
is_stage p k (places.Works t object) s goes at = at.0
is_stage p k (places.Reports o object) s goes at = at.0
is_stage p k (places.Destroys o object) s goes at = at
is_stage p k (places.Frees o object) s goes at = at
is_stage p k (places.DestroysGone i) s goes at = at
is_stage p k (places.Ended e) s goes at = absurd (cc goes)

-- a call asks again at a place if it does at its stage
fills : (k : Kind) (place : Place) → lacks_room place ≡ false → goes_on_filling k place ≡ false → fills_at k (stage_at place) ≡ false
fills kinds.Fill (places.Asks requests.Ask) room asks = absurd (cc asks)
fills (kinds.Borrow b) (places.Asks requests.Ask) room asks = absurd (cc asks)
fills kinds.Fill places.Waits room asks = absurd (cc asks)
fills (kinds.Borrow b) places.Waits room asks = absurd (cc asks)
fills k (places.LacksRoom request) room asks = absurd (cc room)
fills _ (places.Asks requests.Begin) room asks = refl
fills _ (places.Asks requests.Ask) room asks = refl
fills _ (places.Asks (requests.Next left)) room asks = refl
fills _ _ room asks = refl

borrows : (k : Kind) (place : Place) → lacks_room place ≡ false → asks_again k place ≡ false → borrows_at k (stage_at place) ≡ false
borrows (kinds.Borrow b) (places.Asks requests.Ask) room asks = absurd (cc asks)
borrows (kinds.Borrow b) places.Waits room asks = absurd (cc asks)
borrows k (places.LacksRoom request) room asks = absurd (cc room)
borrows _ (places.Asks requests.Begin) room asks = refl
borrows _ (places.Asks requests.Ask) room asks = refl
borrows _ (places.Asks (requests.Next left)) room asks = refl
borrows _ _ room asks = refl

some_left : (p : HookPlan) (k : Kind) (place : Place) → has_step place ≡ true → (0 < events_left p k place) × (0 < steps_left k place)
some_left p (kinds.Borrow b) (places.Asks requests.Begin) is = (omega arith, omega arith)
some_left p (kinds.Borrow b) (places.Asks requests.Ask) is = (omega arith, omega arith)
some_left p (kinds.Borrow b) (places.Asks (requests.Next left)) is = (omega arith, omega arith)
some_left p (kinds.Borrow b) (places.Reports o object) is = (omega arith, omega arith)
some_left p (kinds.Borrow b) (places.Frees o object) is = (omega arith, omega arith)
some_left p _ (places.Asks requests.Begin) is = (omega arith, omega arith)
some_left p _ (places.Asks requests.Ask) is = (omega arith, omega arith)
some_left p _ (places.Asks (requests.Next left)) is = (omega arith, omega arith)
some_left p _ (places.Reports o object) is = (omega arith, omega arith)
some_left p _ (places.Frees o object) is = (omega arith, omega arith)
some_left p _ _ is = absurd (cc is)

module _ (p : HookPlan) (k : Kind) where
  near_on : (a : Answer) (before after : Place) → CountFits a → has_step before ≡ true → is_over after ≡ false → lacks_room after ≡ false
      → IsAt p k after (stage_after k before a) → work_left p k after ≡ work_due p k (stage_after k before a)
      → Nears p k (events.Answered a) before after × Steps k (events.Answered a) before after
  near_on a before after fits is goes room at works =
      let s : Stage = stage_after k before a in
      let e = is_stage p k after s goes at in
      let here = within p k after s at works in
      let there = answered p k before a fits is in
      let few = λ (asks : goes_on_filling k after ≡ false). there.left (ap (fills_at k) e ∙ fills k after room asks) in
      let short = λ (asks : asks_again k after ≡ false). there.steps (ap (borrows_at k) e ∙ borrows k after room asks) in
      (λ asks. omega (arith, here.0, few asks), λ asks. omega (arith, here.1, short asks))

  -- an answer brings the end nearer
  pub answer_nears : (a : Answer) (before after : Place) (s : Stage) → CountFits a → has_step before ≡ true → lacks_room after ≡ false
      → s ≡ stage_after k before a → IsAt p k after s → work_left p k after ≡ work_due p k s
      → Nears p k (events.Answered a) before after × Steps k (events.Answered a) before after
  answer_nears a before (places.Ended end) s fits is room e at works = (λ asks. (some_left p k before is).0, λ asks. (some_left p k before is).1)
  answer_nears a before after s fits is room e at works =
      let P : Stage → Type 0 = IsAt p k after in
      near_on a before after fits is refl room (subst P e at) (works ∙ ap (work_due p k) e)
