-- The traces of a return, of an invalidation and of a note of a use.
use Rattle.std.proofs.Common.{◌≡◌, ℕ, true, false, true≢false, List, None, Ok, Err, refl, sym, ap, ◌∙◌}
use Rattle.pool_journal.specs.Journal.{phase}
use Rattle.pool_journal.specs.declared.entry.Entry.{Entry}
use Rattle.pool_journal.specs.declared.record.Phase.{Phase}
use Rattle.pool_journal.specs.declared.record.Phase.TheVariants as phases
use Rattle.pool_journal.specs.declared.input.Input.{Input}
use Rattle.pool_journal.specs.declared.input.Input.TheVariants.{GiveBack, Invalidate, Use, Park, Destroyed}
use Rattle.pool_journal.specs.declared.input.Outcome.{Outcome}
use Rattle.pool_journal.specs.declared.input.Outcome.TheVariants as outcomes
use Rattle.pool_journal.specs.declared.answer.Answer.{Answer}
use Rattle.pool_journal.specs.declared.answer.Answer.TheVariants as answers
use Rattle.pool_journal.specs.declared.answer.Cause.TheVariants as causes
use Rattle.pool_settings.specs.declared.settings.Settings.{Settings}
use Rattle.pool_core.specs.declared.step_fault.StepFault.{StepFault}
use Rattle.pool_core.specs.declared.step_fault.StepFault.TheVariants.{JournalFull, OutOfMemory}
use Rattle.pool_core.specs.Completion.{is_completing}
use Rattle.pool_core.specs.Legal.{IsLegal}
use Rattle.pool_core.specs.Reply.{reply, lent_reply}
use Rattle.pool_core.proofs.Whole.{lent_whole}
use Rattle.pool_history.specs.CallerStates.{CallerState}
use Rattle.pool_shared.specs.declared.faults.ReturnFault.TheVariants as faults
use Rattle.pool_shared.specs.declared.faults.Returned.{Returned}
use Rattle.pool_shared.specs.declared.faults.Returned.TheVariants as returned
use Rattle.pool_shared.specs.declared.lent.Lent.{Lent}
use Rattle.pool_lock.specs.Sections.{AppendsAnswer, Refuses}
use Rattle.pool_shared.specs.Traces.{Trace, EndsWithOwn}
use Rattle.pool_shared.specs.Faults.{return_fault}
use Rattle.pool_calls.specs.declared.action.End.TheVariants as ends
use Rattle.pool_calls.specs.declared.kind.Kind.TheVariants as kinds
use Rattle.pool_calls.specs.declared.stage.Stage.{Stage}
use Rattle.pool_calls.specs.declared.stage.Stage.TheVariants as stages
use Rattle.pool_calls.specs.Table.{works, after_invalidating}
use Rattle.pool_shared.specs.Stages.{asks}
use Rattle.pool_shared.specs.Returns.{done, IsPossibleOutcome, ReturnEnds, ReturnSpec}
use Rattle.pool_shared.specs.Invalidates.{InvalidateEnds, InvalidateSpec}
use Rattle.pool_shared.specs.Touches.{TouchEnds, TouchSpec}
use Rattle.pool_shared.proofs.Traces.{trace_by, trace_on, trace_destroyed, ends_of}
use Rattle.pool_shared.proofs.TracesToResults.{row_at, row_none}

-- a returned object is destroyed
pub destroyed : (s : Settings) (i : ℕ) (o : Outcome) (x : Answer) (a b c : CallerState) → IsPossibleOutcome s i o → x ≡ answers.Destroy → AppendsAnswer (Park i o) x a b → AppendsAnswer (Destroyed i) answers.Freed b c
    → Trace s (kinds.Return i) (works i false 0) a c (done i returned.Destroyed)
destroyed s i outcomes.MakeFailed x a b c may is made freed = absurd (true≢false (sym may))
destroyed s i outcomes.Good x a b c may is made freed = trace_destroyed s (kinds.Return i) (works i false 0) (done i returned.Destroyed) i (Park i outcomes.Good) x answers.Destroy a b c is made freed (refl, may) refl refl
destroyed s i _ x a b c may is made freed = trace_destroyed s (kinds.Return i) (works i false 0) (done i returned.Destroyed) i (Park i _) x answers.Destroy a b c is made freed (refl, may) refl refl

-- a return whose object was checked
pub checked : {T : Type 0} (s : Settings) (number : ℕ) (l : Lent T) (q : Returned) (x : Answer) (a b c : CallerState) → l.pool ≡ number → x ≡ answers.Check → AppendsAnswer (GiveBack l.id) x a b
    → Trace s (kinds.Return l.id) (works l.id false 0) b c (done l.id q) → EndsWithOwn c → ReturnSpec s number l (Ok q) a c
checked s number l q x a b c pool is made w own = (
  pool,
  row_at s (kinds.Return l.id) (ReturnEnds s l.id) asks (done l.id q) (Ok q) a c
      (trace_on s (kinds.Return l.id) asks (works l.id false 0) (done l.id q) a b c (trace_by s (kinds.Return l.id) asks (works l.id false 0) (GiveBack l.id) x answers.Check a b is made refl refl) w) (refl, own),
)

-- an input that would complete a step if the object were lent
not_lent : (s : Settings) (at i : ℕ) (input : Input) (a : Answer) (observed : List Entry) → lent_reply s.abandoned (phase i observed) a ≡ reply s observed at input → is_completing a input ≡ true → is_completing (reply s observed at input) input ≡ false
    → phase i observed ≡ phases.Lent → ⊥
not_lent s at i input a observed whole finished unfinished lent =
    let due : reply s observed at input ≡ a = sym whole ∙ ap (λ (p : Phase). lent_reply s.abandoned p a) lent in
    true≢false (sym (ap (λ x. is_completing x input) due ∙ finished) ∙ unfinished)

module _ {T : Type 0} (s : Settings) (number : ℕ) (l : Lent T) (before after : CallerState) where
  -- a return that failed
  pub return_refused : (f : StepFault T) → l.pool ≡ number → IsLegal s after.observed → Refuses s (GiveBack l.id) None f before after → ReturnSpec s number l (Err (return_fault f, l)) before after
  return_refused (JournalFull out) pool legal refuses =
      let why = refuses.error.0 in
      let none = not_lent s why.0 l.id (GiveBack l.id) answers.Check after.observed (lent_whole s after.observed legal l.id answers.Check) refl why.1.unfinished in
      (pool, row_none s (kinds.Return l.id) (ReturnEnds s l.id) asks (Err (faults.JournalFull, l)) before after refuses.same (refl, why, none))
  return_refused (OutOfMemory out) pool legal refuses =
      let why = refuses.error.0 in
      let none = not_lent s why.0 l.id (GiveBack l.id) answers.Check after.observed (lent_whole s after.observed legal l.id answers.Check) refl why.1.unfinished in
      (pool, row_none s (kinds.Return l.id) (ReturnEnds s l.id) asks (Err (faults.OutOfMemory, l)) before after refuses.same (refl, why, none))

  -- an invalidation that failed
  pub invalidate_refused : (f : StepFault T) → l.pool ≡ number → IsLegal s after.observed → Refuses s (Invalidate l.id) None f before after → InvalidateSpec s number l (Err (return_fault f, l)) before after
  invalidate_refused (JournalFull out) pool legal refuses =
      let why = refuses.error.0 in
      let none = not_lent s why.0 l.id (Invalidate l.id) answers.Destroy after.observed (lent_whole s after.observed legal l.id answers.Destroy) refl why.1.unfinished in
      (pool, row_none s (kinds.Invalidate l.id) (InvalidateEnds s l.id) asks (Err (faults.JournalFull, l)) before after refuses.same (refl, why, none))
  invalidate_refused (OutOfMemory out) pool legal refuses =
      let why = refuses.error.0 in
      let none = not_lent s why.0 l.id (Invalidate l.id) answers.Destroy after.observed (lent_whole s after.observed legal l.id answers.Destroy) refl why.1.unfinished in
      (pool, row_none s (kinds.Invalidate l.id) (InvalidateEnds s l.id) asks (Err (faults.OutOfMemory, l)) before after refuses.same (refl, why, none))

  -- a note of a use that failed
  pub touch_refused : (f : StepFault T) → l.pool ≡ number → Refuses s (Use l.id) None f before after → TouchSpec s number l.pool l.id (Err (return_fault f)) before after
  touch_refused (JournalFull out) pool refuses = (pool, row_none s (kinds.Touch l.id) (TouchEnds s l.id) asks (Err faults.JournalFull) before after refuses.same (refl, refuses.error.0))
  touch_refused (OutOfMemory out) pool refuses = (pool, row_none s (kinds.Touch l.id) (TouchEnds s l.id) asks (Err faults.OutOfMemory) before after refuses.same (refl, refuses.error.0))

-- an invalidation of an object of this pool that ended
module _ {T : Type 0} (s : Settings) (number : ℕ) (l : Lent T) (x : Answer) (a b : CallerState) (pool : l.pool ≡ number) (goes : b.number ≡ a.number) (made : AppendsAnswer (Invalidate l.id) x a b) where
  pub invalidated : (c : CallerState) → x ≡ answers.Destroy → c.number ≡ b.number → AppendsAnswer (Destroyed l.id) answers.Freed b c → InvalidateSpec s number l (Ok returned.Destroyed) a c
  invalidated c is on freed = (
    pool,
    row_at s (kinds.Invalidate l.id) (InvalidateEnds s l.id) asks (stages.Ends ends.Destroyed) (Ok returned.Destroyed) a c
        (trace_destroyed s (kinds.Invalidate l.id) asks (stages.Ends ends.Destroyed) l.id (Invalidate l.id) x answers.Destroy a b c is made freed refl refl refl)
        (refl, (_, _, ends_of _ _ b c on freed)),
  )

  found : (to : Stage) (y : Answer) → x ≡ y → after_invalidating l.id y ≡ to → Trace s (kinds.Invalidate l.id) asks a b to
  found to y is comes = trace_by s (kinds.Invalidate l.id) asks to (Invalidate l.id) x y a b is made refl comes

  pub found_gone : x ≡ answers.Gone → InvalidateSpec s number l (Ok returned.Gone) a b
  found_gone is = (
    pool,
    row_at s (kinds.Invalidate l.id) (InvalidateEnds s l.id) asks (stages.Gone l.id) (Ok returned.Gone) a b (found (stages.Gone l.id) answers.Gone is refl) (refl, (_, _, ends_of _ _ a b goes made)),
  )

  pub found_unlent : x ≡ answers.Refused causes.NotLent → InvalidateSpec s number l (Err (faults.NotLent, l)) a b
  found_unlent is = (
    pool,
    row_at s (kinds.Invalidate l.id) (InvalidateEnds s l.id) asks (stages.Ends ends.NotLent) (Err (faults.NotLent, l)) a b (found (stages.Ends ends.NotLent) (answers.Refused causes.NotLent) is refl)
        (refl, (_, _, ends_of _ _ a b goes made)),
  )
