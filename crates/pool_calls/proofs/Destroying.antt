-- The place of an object is freed only after the factory destroyed it.
use Rattle.std.proofs.Common.{◌≡◌, cond, true, [], ◌∷◌, ap, sym, ◌∙◌, subst}
use Rattle.pool_journal.specs.declared.input.Outcome.{Outcome}
use Rattle.pool_calls.specs.declared.action.Action.TheVariants as actions
use Rattle.pool_calls.specs.declared.action.Event.TheVariants as events
use Rattle.pool_calls.specs.declared.action.StepFailure.TheVariants as failures
use Rattle.pool_calls.specs.declared.kind.Kind.{Kind}
use Rattle.pool_calls.specs.declared.hook_plan.HookPlan.{HookPlan}
use Rattle.pool_calls.specs.declared.stage.Object.{Object}
use Rattle.pool_calls.specs.declared.stage.Stage.{Stage}
use Rattle.pool_calls.specs.declared.stage.Stage.TheVariants as stages
use Rattle.pool_calls.specs.declared.stage.Place.{Place}
use Rattle.pool_calls.specs.declared.stage.Place.TheVariants as places
use Rattle.pool_calls.specs.Rules as rules
use Rattle.pool_calls.specs.Rules.{IsAt, work_due, work_left}
use Rattle.pool_calls.specs.Runs.{FreesOnlyDestroyed, HasDestroyed}
use Rattle.pool_calls.specs.Operations.{HasCome, Proceeds, fits, stage_of}
use Rattle.pool_calls.specs.Steps.{destroys}

module _ (p : HookPlan) (k : Kind) (object : Object) (o : Outcome) where
  -- an answer does not lead there
  not_at_once : (s : Stage) (A : Type 0) → destroys k ≡ true → s ≡ stages.Removes object o → [] ≡ work_due p k s → A
  not_at_once s A does is none =
      let due : [] ≡ cond (destroys k) (actions.Destroy object.id ∷ []) [] = none ∙ ap (work_due p k) is in
      let some : [] ≡ actions.Destroy object.id ∷ [] = due ∙ ap (λ b. cond b (actions.Destroy object.id ∷ []) []) does in
      absurd (cc some)

  answered : (s : Stage) (after : Place) (A : Type 0) → destroys k ≡ true → IsAt p k after s → work_left p k after ≡ work_due p k s → after ≡ places.Frees o object → A
  answered s after A does at works is =
      let P : Place → Type 0 = λ x. IsAt p k x s in
      not_at_once s A does (subst P is at) (sym (ap (work_left p k) is) ∙ works)

  succeeded : (s : Stage) (before after : Place) → rules.has_work before ≡ true → IsAt p k before s → IsAt p k after s → after ≡ places.Frees o object → HasDestroyed object before
  succeeded s (places.Works t same) after fit at goes is =
      let P : Place → Type 0 = λ x. IsAt p k x s in
      let there : s ≡ stages.Removes object o = subst P is goes in
      let clash : stages.Works same ≡ stages.Removes object o = sym at.0 ∙ there in
      absurd (cc clash)
  succeeded s (places.Destroys x same) after fit at goes is =
      let P : Place → Type 0 = λ x. IsAt p k x s in
      let there : s ≡ stages.Removes object o = subst P is goes in
      let both : stages.Removes same x ≡ stages.Removes object o = sym at ∙ there in
      cc both
  succeeded s (places.DestroysGone i) after fit at goes is =
      let P : Place → Type 0 = λ x. IsAt p k x s in
      let there : s ≡ stages.Removes object o = subst P is goes in
      let clash : stages.Gone i ≡ stages.Removes object o = sym at ∙ there in
      absurd (cc clash)
  succeeded s _ after fit at goes is = absurd (cc fit)

  given_up : (before : Place) → rules.given_up_at before ≡ places.Frees o object → HasDestroyed object before
  given_up (places.Frees x same) is = cc is
  given_up (places.Destroys x same) is = absurd (cc is)
  given_up (places.Reports x same) is = absurd (cc is)
  given_up (places.DestroysGone i) is = absurd (cc is)
  given_up (places.Ended e) is = absurd (cc is)
  given_up (places.Asks request) is = absurd (cc is)
  given_up (places.LacksRoom request) is = absurd (cc is)
  given_up places.Waits is = absurd (cc is)
  given_up (places.Works t same) is = absurd (cc is)

  paused : (before : Place) (A : Type 0) → rules.has_first_step before ≡ true → rules.paused before ≡ places.Frees o object → A
  paused (places.Asks request) A fit is = absurd (cc is)
  paused _ A fit is = absurd (cc fit)

  resumed : (before : Place) (A : Type 0) → rules.lacks_room before ≡ true → rules.resumed before ≡ places.Frees o object → A
  resumed (places.LacksRoom request) A fit is = absurd (cc is)
  resumed _ A fit is = absurd (cc fit)

  ended : (after was : Place) (A : Type 0) → after ≡ was → after ≡ places.Frees o object → (was ≡ places.Frees o object → A) → A
  ended after was A e is never = never (sym e ∙ is)

pub frees_only_destroyed : FreesOnlyDestroyed
unfolding HasCome Proceeds fits
frees_only_destroyed (events.Answered a) b c turns object o come fit goes does is =
    answered b.plan b.kind object o (rules.stage_after b.kind b.place a) c.place _ does goes.takes.goes goes.takes.works is
frees_only_destroyed events.Succeeded b c turns object o come fit goes does is =
    succeeded b.plan b.kind object o (stage_of b turns) b.place c.place fit come.at (goes.takes.goes (stage_of b turns) come.at) is
frees_only_destroyed events.Failed b c turns object o come fit goes does is =
    succeeded b.plan b.kind object o (stage_of b turns) b.place c.place fit come.at (goes.takes.goes (stage_of b turns) come.at) is
frees_only_destroyed events.Cancelled b c turns object o come fit goes does is =
    given_up b.plan b.kind object o b.place (sym goes.takes.works ∙ is)
frees_only_destroyed (events.NotTaken failures.JournalFull) b c turns object o come fit goes does is =
    paused b.plan b.kind object o b.place _ fit (sym goes.takes.pauses.2 ∙ is)
frees_only_destroyed events.RoomMade b c turns object o come fit goes does is =
    resumed b.plan b.kind object o b.place _ fit (sym goes.takes.pauses.2 ∙ is)
frees_only_destroyed (events.NotTaken failures.OutOfMemory) b c turns object o come fit goes does is = ended b.plan b.kind object o c.place _ _ goes.takes.pauses.2 is (λ e. absurd (cc e))
frees_only_destroyed events.NoRoom b c turns object o come fit goes does is = ended b.plan b.kind object o c.place _ _ goes.takes.pauses.2 is (λ e. absurd (cc e))
frees_only_destroyed events.Queued b c turns object o come fit goes does is = ended b.plan b.kind object o c.place _ _ goes.takes.pauses.2 is (λ e. absurd (cc e))
frees_only_destroyed events.Woken b c turns object o come fit goes does is = ended b.plan b.kind object o c.place _ _ goes.takes.pauses.2 is (λ e. absurd (cc e))
frees_only_destroyed events.TimeOver b c turns object o come fit goes does is = ended b.plan b.kind object o c.place _ _ goes.takes.pauses.2 is (λ e. absurd (cc e))
