-- Traces of borrows and returns make rounds.
use Rattle.std.proofs.Common.{◌≡◌, ◌≢◌, ◌⊎◌, inl, inr, ℕ, zero, suc, ◌+◌, ◌<◌, Bool, true, false, List, [], ◌∷◌, ◌++◌, Ok, Err, append_assoc, append-nil, refl, sym, ap, ◌∙◌, subst, arith}
use Rattle.pool_journal.specs.declared.entry.Entry.{Entry}
use Rattle.pool_journal.specs.declared.answer.Answer.{Answer}
use Rattle.pool_journal.specs.declared.answer.Answer.TheVariants as answers
use Rattle.pool_journal.specs.declared.answer.Cause.TheVariants as causes
use Rattle.pool_settings.specs.declared.settings.Settings.{Settings}
use Rattle.pool_history.specs.CallerStates.{CallerState, Advances}
use Rattle.pool_shared.specs.declared.faults.BorrowFault.{BorrowFault}
use Rattle.pool_shared.specs.declared.faults.BorrowFault.TheVariants as faults
use Rattle.pool_shared.specs.declared.faults.PoolFault.{PoolFault}
use Rattle.pool_shared.specs.declared.faults.PoolFault.TheVariants as pool_faults
use Rattle.pool_shared.specs.declared.faults.ReturnFault.{ReturnFault}
use Rattle.pool_shared.specs.declared.faults.ReturnFault.TheVariants as refusals
use Rattle.pool_shared.specs.declared.faults.Returned.{Returned}
use Rattle.pool_shared.specs.declared.faults.Returned.TheVariants as returned
use Rattle.pool_shared.specs.declared.lent.Lent.{Lent}
use Rattle.pool_shared.specs.Traces.{turn_of, run_stages}
use Rattle.pool_shared.specs.TraceToResult.{IsRoomFault}
use Rattle.pool_journal.specs.Journal.{phase}
use Rattle.pool_journal.specs.declared.record.Phase.TheVariants as phases
use Rattle.pool_journal.specs.declared.input.Input.TheVariants as inputs
use Rattle.pool_journal.specs.declared.input.Outcome.{Outcome}
use Rattle.pool_journal.specs.declared.input.Outcome.TheVariants as outcomes
use Rattle.pool_calls.specs.declared.kind.Kind.TheVariants as kinds
use Rattle.pool_calls.specs.declared.stage.Object.{Object}
use Rattle.pool_calls.specs.declared.stage.Stage.{Stage}
use Rattle.pool_calls.specs.declared.stage.Stage.TheVariants as stages
use Rattle.pool_calls.specs.Rules.{next}
use Rattle.pool_calls.specs.Steps.{outcome_of}
use Rattle.pool_calls.specs.Table.{after_returning, after_report, after_freeing, after_parking, after_failure}
use Rattle.pool_calls.specs.Turns.{Turn}
use Rattle.pool_shared.specs.Stages.{asks}
use Rattle.pool_shared.specs.Borrows.{BorrowEnds, BorrowSpec}
use Rattle.pool_shared.specs.Returns.{done, ReturnSpec}
use Rattle.pool_engines.specs.declared.load_fault.LoadFault.{LoadFault}
use Rattle.pool_engines.specs.declared.load_fault.LoadFault.TheVariants as stops
use Rattle.pool_load.specs.Rounds.{IsRefusal, IsThrough, borrowed_to, ReturnDone, Round, lends, refuses, IsWorked, MakesRound, MakesRounds, IsNonResourceError, StopsFor, borrowing, returning, StopsOneRound, StopsRound, StopsInRounds, Stops}
use Rattle.pool_shared.proofs.Sweeping.{goes_then}

-- a borrow that failed with an error of its own
refusal_is : (T : Type 0) {E : Type 0} (s : Settings) (number began : ℕ) (st : Stage) (f : BorrowFault E) (me : CallerState) → IsNonResourceError f → BorrowEnds {T = T} s number began st (Err f) me → IsRefusal st
refusal_is T s number began st faults.Closed me own is = subst IsRefusal (sym is.0) tt
refusal_is T s number began st faults.Exhausted me own is = subst IsRefusal (sym is.0) tt
refusal_is T s number began st faults.TimedOut me own is = subst IsRefusal (sym is.0) tt
refusal_is T s number began st (faults.MakeFailed g) me own is = subst IsRefusal (sym is.0) tt
refusal_is T s number began st faults.CreateTestFailed me own is = subst IsRefusal (sym is.0) tt
refusal_is T s number began st (faults.ActivateFailed g) me own is = subst IsRefusal (sym is.0) tt
refusal_is T s number began st faults.BorrowTestFailed me own is = subst IsRefusal (sym is.0) tt
refusal_is T s number began st faults.JournalFull me own is = absurd own
refusal_is T s number began st faults.OutOfMemory me own is = absurd own

pub refused_round : (T : Type 0) {E : Type 0} (s : Settings) (number : ℕ) (f : BorrowFault E) (before after : CallerState) → IsNonResourceError f → BorrowSpec {T = T} s number (Err f) before after → MakesRound s 1 before after
refused_round T s number f before after own row =
    let r = row.1 in
    (r.es, r.made, refuses refl (record { began = row.0; due = r.due; ends = refusal_is T s number row.0 (borrowed_to s row.0 r.es) f after own r.ends }))

-- a borrow and a return
both : (E : Type 0) {T : Type 0} (s : Settings) (number : ℕ) (l : Lent T) (a b c : CallerState) → BorrowSpec {T = T} {E = E} s number (Ok l) a b → (gs : List Entry) → c.appended ≡ b.appended ++ gs → ReturnDone s l.id gs → MakesRound s 0 a c
both E s number l a b c row gs made done =
    let r = row.1 in (
      r.es ++ gs,
      made ∙ ap (λ x. x ++ gs) r.made ∙ append_assoc a.appended r.es gs,
      lends l.id r.es gs refl refl (record { began = row.0; due = r.due; ends = r.ends.0 }) done,
    )

through_done : (i : ℕ) (q : Returned) → IsThrough i (done i q)
through_done i returned.Parked = tt
through_done i returned.Destroyed = tt
through_done i returned.Gone = refl

pub returned_round : (E : Type 0) {T : Type 0} (s : Settings) (number : ℕ) (l : Lent T) (q : Returned) (a b c : CallerState) → BorrowSpec {T = T} {E = E} s number (Ok l) a b → ReturnSpec s number l (Ok q) b c → MakesRound s 0 a c
returned_round E s number l q a b c row back =
    both E s number l a b c row back.1.es back.1.made (record { due = back.1.due; ends = subst (IsThrough l.id) (sym back.1.ends.0) (through_done l.id q) })

pub kept_round : (E : Type 0) {T : Type 0} (s : Settings) (number : ℕ) (l m : Lent T) (f : ReturnFault) (a b c : CallerState) → f ≡ refusals.NotLent → BorrowSpec {T = T} {E = E} s number (Ok l) a b → ReturnSpec s number l (Err (f, m)) b c → MakesRound s 0 a c
kept_round E s number l m f a b c is row back =
    let there : ReturnSpec s number l (Err (refusals.NotLent, m)) b c = subst (λ x. ReturnSpec s number l (Err (x, m)) b c) is back in
    both E s number l a b c row there.1.es there.1.made (record { due = there.1.due; ends = subst (IsThrough l.id) (sym there.1.ends.0) tt })

-- a borrow that failed for lack of room or memory
pub stopped_borrow : (T : Type 0) {E : Type 0} (s : Settings) (number : ℕ) (f : BorrowFault E) (stop : LoadFault) (before after : CallerState) → StopsFor stop f → BorrowSpec {T = T} s number (Err f) before after → StopsRound s stop before after
stopped_borrow T s number faults.JournalFull stops.JournalFull before after is row = (row.1.es, row.1.made, borrowing (record { began = row.0; due = row.1.due; fails = row.1.ends }))
stopped_borrow T s number faults.OutOfMemory stops.OutOfMemory before after is row = (row.1.es, row.1.made, borrowing (record { began = row.0; due = row.1.due; fails = row.1.ends }))
stopped_borrow T s number _ stops.JournalFull before after is row = absurd is
stopped_borrow T s number _ stops.OutOfMemory before after is row = absurd is
stopped_borrow T s number f _ before after is row = absurd is

-- a return asks only at first
abbrev pub is_asking : Stage → Bool
is_asking (stages.Asks request) = true
is_asking _ = false

pub giving_not : (i : ℕ) (a : Answer) → is_asking (after_returning i a) ≡ false
giving_not i answers.Check = refl
giving_not i answers.Gone = refl
giving_not i (answers.Refused causes.NotLent) = refl
giving_not i (answers.Refused _) = refl
giving_not i _ = refl

freeing_not : (i : ℕ) (object : Object) (o : Outcome) (a : Answer) → is_asking (after_freeing (kinds.Return i) object o a) ≡ false
freeing_not i object o answers.Freed = refl
freeing_not i object o _ = refl

parking_not : (i : ℕ) (object : Object) (a : Answer) → is_asking (after_parking (kinds.Return i) object a) ≡ false
parking_not i object answers.Parked = refl
parking_not i object answers.Destroy = refl
parking_not i object _ = refl

failing_not : (object : Object) (o : Outcome) (a : Answer) → is_asking (after_failure object o a) ≡ false
failing_not object o answers.Destroy = refl
failing_not object o _ = refl

reporting_not : (i : ℕ) (object : Object) (o : Outcome) (a : Answer) → is_asking (after_report (kinds.Return i) object o a) ≡ false
reporting_not i object outcomes.Good a = parking_not i object a
reporting_not i object outcomes.MakeFailed a = freeing_not i object outcomes.MakeFailed a
reporting_not i object _ a = failing_not object _ a

pub not_again : (i : ℕ) (st : Stage) (t : Turn) → is_asking st ≡ false → is_asking (next (kinds.Return i) st t) ≡ false
not_again i (stages.Asks request) t not = absurd (cc not)
not_again i (stages.Works object) t not = reporting_not i object (outcome_of t.input) t.answer
not_again i (stages.Removes object o) t not = freeing_not i object o t.answer
not_again i _ t not = refl

never_again : (i : ℕ) (st : Stage) (es : List Entry) → is_asking st ≡ false → is_asking (run_stages (kinds.Return i) st es) ≡ false
never_again i st [] not = not
never_again i st (e ∷ es) not = never_again i (next (kinds.Return i) st (turn_of e)) es (not_again i st (turn_of e) not)

none_given : (i : ℕ) (es : List Entry) → run_stages (kinds.Return i) asks es ≡ asks → es ≡ []
none_given i [] is = refl
none_given i (e ∷ es) is = absurd (cc (sym (never_again i (after_returning i e.answer) es (giving_not i e.answer)) ∙ ap is_asking is))

-- a return that failed for lack of room or memory
returned_none : (E : Type 0) {T : Type 0} (s : Settings) (number : ℕ) (l : Lent T) (f : PoolFault) (a b c : CallerState) → BorrowSpec {T = T} {E = E} s number (Ok l) a b → (gs : List Entry) → c.appended ≡ b.appended ++ gs
    → run_stages (kinds.Return l.id) asks gs ≡ asks → phase l.id c.observed ≢ phases.Lent → IsRoomFault s (inputs.GiveBack l.id) f c → StopsOneRound s f a c
returned_none E s number l f a b c row gs made ends not_lent fails =
    let r = row.1 in
    let none = none_given l.id gs ends in (
      r.es,
      made ∙ ap (λ x. b.appended ++ x) none ∙ append-nil b.appended ∙ r.made,
      returning l.id (record { borrowed = record { began = row.0; due = r.due; ends = r.ends.0 }; not_lent = not_lent; fails = fails }),
    )

pub full_return : (E : Type 0) {T : Type 0} (s : Settings) (number : ℕ) (l m : Lent T) (f : ReturnFault) (a b c : CallerState) → f ≡ refusals.JournalFull → BorrowSpec {T = T} {E = E} s number (Ok l) a b → ReturnSpec s number l (Err (f, m)) b c
    → StopsRound s stops.JournalFull a c
full_return E s number l m f a b c is row back =
    let there : ReturnSpec s number l (Err (refusals.JournalFull, m)) b c = subst (λ x. ReturnSpec s number l (Err (x, m)) b c) is back in
    returned_none E s number l pool_faults.JournalFull a b c row there.1.es there.1.made there.1.ends.0 there.1.ends.2 there.1.ends.1

pub short_return : (E : Type 0) {T : Type 0} (s : Settings) (number : ℕ) (l m : Lent T) (f : ReturnFault) (a b c : CallerState) → f ≡ refusals.OutOfMemory → BorrowSpec {T = T} {E = E} s number (Ok l) a b → ReturnSpec s number l (Err (f, m)) b c
    → StopsRound s stops.OutOfMemory a c
short_return E s number l m f a b c is row back =
    let there : ReturnSpec s number l (Err (refusals.OutOfMemory, m)) b c = subst (λ x. ReturnSpec s number l (Err (x, m)) b c) is back in
    returned_none E s number l pool_faults.OutOfMemory a b c row there.1.es there.1.made there.1.ends.0 there.1.ends.2 there.1.ends.1

worked_more : (s : Settings) (r f g : ℕ) (es xs : List Entry) → IsWorked s r f es → Round s g xs → IsWorked s (suc r) (f + g) (es ++ xs)
worked_more s zero f g es xs w round =
    let none : f ≡ 0 = w.0 in
    (xs, [], g, 0, ap (λ l. l ++ xs) w.1 ∙ sym (append-nil xs), omega (arith, none), round, (refl, refl))
worked_more s (suc r) f g es xs w round =
    let is : f ≡ w.2 + w.3 = w.5 in
    (w.0, w.1 ++ xs, w.2, w.3 + g, ap (λ l. l ++ xs) w.4 ∙ append_assoc w.0 w.1 xs, omega (arith, is), w.6, worked_more s r w.3 g w.1 xs w.7 round)

pub rounds_none : (s : Settings) (a : CallerState) → MakesRounds s 0 0 a a
rounds_none s a = ([], sym (append-nil a.appended), (refl, refl))

pub rounds_more : (s : Settings) (r f g : ℕ) (a b c : CallerState) → MakesRounds s r f a b → MakesRound s g b c → MakesRounds s (r + 1) (f + g) a c
rounds_more s r f g a b c w x =
    let one : suc r ≡ r + 1 = omega arith in
    (w.0 ++ x.0, x.1 ∙ ap (λ l. l ++ x.0) w.1 ∙ append_assoc a.appended w.0 x.0, subst (λ n. IsWorked s n (f + g) (w.0 ++ x.0)) one (worked_more s r f g w.0 x.0 w.2 x.2))

-- the caller is in the state in which it was, or advanced from it
abbrev pub GoesOn : Settings → CallerState → CallerState → Type 0
GoesOn s a b = (b ≡ a) ⊎ Advances s a b

pub goes_on : (s : Settings) (a b c : CallerState) → GoesOn s a b → Advances s b c → Advances s a c
goes_on s a b c so_far next = elim so_far [
  | inl same ↦ subst (λ x. Advances s x c) same next
  | inr before ↦ goes_then s a b c before next
]

-- a round that stopped after whole ones
stopped_by : (s : Settings) (rounds done g : ℕ) (f : PoolFault) (a b c : CallerState) → done < rounds → GoesOn s a b → MakesRounds s done g a b → Advances s b c → StopsOneRound s f b c → StopsInRounds s rounds f a c
stopped_by s rounds done g f a b c fewer so_far w next x =
    record {
      goes = goes_on s a b c so_far next;
      done = done;
      fewer = fewer;
      refused = g;
      whole = w.0;
      part = x.0;
      made = x.1 ∙ ap (λ l. l ++ x.0) w.1 ∙ append_assoc a.appended w.0 x.0;
      worked = w.2;
      stopped = x.2;
    }

pub stopped_after : (s : Settings) (rounds done g : ℕ) (fault : LoadFault) (a b c : CallerState) → done < rounds → GoesOn s a b → MakesRounds s done g a b → Advances s b c → StopsRound s fault b c → Stops s rounds fault a c
stopped_after s rounds done g stops.JournalFull a b c fewer so_far w next x = stopped_by s rounds done g pool_faults.JournalFull a b c fewer so_far w next x
stopped_after s rounds done g stops.OutOfMemory a b c fewer so_far w next x = stopped_by s rounds done g pool_faults.OutOfMemory a b c fewer so_far w next x
stopped_after s rounds done g _ a b c fewer so_far w next x = absurd x
