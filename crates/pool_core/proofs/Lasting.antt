-- What lasts in legal entries that continue a base, also if the settings change from entry to entry: a pool stays closed, and an id is
-- made once, and its place freed once and for all.
use Rattle.std.proofs.Common.{◌≡◌, ◌≢◌, ℕ, ◌+◌, ◌<◌, ◌≤◌, ◌==◌, Bool, true, false, if◌then◌else◌, List, [], ◌∷◌, ◌++◌, Option, Some}
use Rattle.std.proofs.Common.{None, refl, ap, sym, ◌∙◌, arith, subst}
use Rattle.std.specs.Prelude.{◌||◌, unwrap_or, take}
use Rattle.std.proofs.Math.Bool.{or-true}
use Rattle.std.proofs.lemmas.Bool.Decides.{nat_tests}
use Rattle.pool_journal.specs.Latest.{some_if}
use Rattle.pool_journal.specs.Entries.{Move, id_of, is_borrow, made_to, named_to, move_of, move_of_entry, phase_after_move, is_present, is_make_answer, is_closing}
use Rattle.pool_journal.specs.Base.{phase_from, drawn_from, records_from, closed_from, cursor_from}
use Rattle.pool_journal.specs.Sound.{IsWellFormed}
use Rattle.pool_journal.specs.declared.base.Base.{Base}
use Rattle.pool_journal.specs.declared.entry.Entry.{Entry}
use Rattle.pool_journal.specs.declared.record.Record.{Record}
use Rattle.pool_journal.specs.declared.record.Phase.{Phase}
use Rattle.pool_journal.specs.declared.record.Phase.TheVariants as phases
use Rattle.pool_journal.specs.declared.input.Input.{Input}
use Rattle.pool_journal.specs.declared.input.Input.TheVariants.{Borrow, Add, Fill}
use Rattle.pool_journal.specs.declared.answer.Answer.{Answer}
use Rattle.pool_journal.specs.declared.answer.Answer.TheVariants as answers
use Rattle.pool_journal.proofs.Found.{each_found_from}
use Rattle.pool_journal.proofs.Pushed.{phase_from-push, drawn_from-push, closed_from-push}
use Rattle.pool_journal.proofs.Starting.{closed_from-none}
use Rattle.pool_core.specs.Laws.{EachTwo, NoneIdleAfterClose, NoneIdleAfterClosedBase, IdsUsedOnce, MadeAnew}
use Rattle.pool_core.specs.Legal.{IsLegalBySome}
use Rattle.pool_core.specs.Steps.{IsEnabled, keeps_value}
use Rattle.pool_core.proofs.Closing.{closed_keeps_none}
use Rattle.pool_core.proofs.Fronts.{IsDueBySome, SomeKeepsFrom, front_with, some_due_at, kept_on_from}
use Rattle.pool_core.proofs.Legality.{some_reaches}
use Rattle.pool_core.proofs.Lives.{Acts, still, makes, brings, acts, some_finds, move, phase_moved}

-- two equal moves have one object, and one phase
same_object : (i j : ℕ) (p q : Phase) → move i p ≡ move j q → i ≡ j
same_object i j p q is = ap (λ (m : Option Move). (unwrap_or m (i, p)).0) is

same_phase : (i j : ℕ) (p q : Phase) → move i p ≡ move j q → p ≡ q
same_phase i j p q is = ap (λ (m : Option Move). (unwrap_or m (i, p)).1) is

-- the phase of the object that an input names
phase_named : (o : Option ℕ) (p q : Phase) (i : ℕ) → named_to o p ≡ Some (i, q) → p ≡ q
phase_named None p q i is = absurd (cc is)
phase_named (Some j) p q i is = same_phase j i p q is

not_taken_to_idle : (b : Bool) (i j : ℕ) → (if b then move j phases.Readying else None) ≡ move i phases.Idle → ⊥
not_taken_to_idle true i j is = absurd (cc (same_phase j i phases.Readying phases.Idle is))
not_taken_to_idle false i j is = absurd (cc is)

not_made_to_idle : (input : Input) (i j : ℕ) → made_to input j ≡ Some (i, phases.Idle) → ⊥
not_made_to_idle (Borrow began) i j is = absurd (cc (same_phase j i phases.Readying phases.Idle is))
not_made_to_idle Add i j is = absurd (cc (same_phase j i phases.Adding phases.Idle is))
not_made_to_idle Fill i j is = absurd (cc (same_phase j i phases.Adding phases.Idle is))
not_made_to_idle _ i j is = absurd (cc is)

-- an object that becomes Idle keeps a value
idle_keeps : (a : Answer) (input : Input) (i : ℕ) → move_of a input ≡ Some (i, phases.Idle) → keeps_value a ≡ true
idle_keeps answers.Parked input i is = refl
idle_keeps answers.Kept input i is = refl
idle_keeps (answers.Take j) input i is = absurd (not_taken_to_idle (is_borrow input) i j is)
idle_keeps (answers.Make j) input i is = absurd (not_made_to_idle input i j is)
idle_keeps answers.Lent input i is = absurd (cc (phase_named (id_of input) phases.Lent phases.Idle i is))
idle_keeps answers.Check input i is = absurd (cc (phase_named (id_of input) phases.Returning phases.Idle i is))
idle_keeps answers.Destroy input i is = absurd (cc (phase_named (id_of input) phases.Destroying phases.Idle i is))
idle_keeps answers.Freed input i is = absurd (cc (phase_named (id_of input) phases.Gone phases.Idle i is))
idle_keeps (answers.Test j) input i is = absurd (cc (same_phase j i phases.Testing phases.Idle is))
idle_keeps (answers.DestroyIdle j) input i is = absurd (cc (same_phase j i phases.Destroying phases.Idle is))
idle_keeps (answers.Reclaimed j) input i is = absurd (cc (same_phase j i phases.Gone phases.Idle is))
idle_keeps _ input i is = absurd (cc is)

-- in a closed pool no object becomes Idle
idles_none_from : (b : Base) (J : List Entry) (e : Entry) → IsDueBySome b J e → closed_from b J ≡ true → (i : ℕ) → move_of_entry e ≢ Some (i, phases.Idle)
idles_none_from b J e due shut i to =
    let none = closed_keeps_none due.settings (records_from b J) (drawn_from b J) (closed_from b J) (cursor_from b J) e.at e.input e.answer (each_found_from b J) due.is shut in
    absurd (cc (none, idle_keeps e.answer e.input i to))

closed_by_from : (b : Base) (J : List Entry) (e : Entry) → is_closing e.answer e.input ≡ true → closed_from b (J ++ e ∷ []) ≡ true
closed_by_from b J e closes = closed_from-push b J e ∙ ap (λ (t : Bool). closed_from b J || t) closes ∙ or-true (closed_from b J)

stays_closed_from : (b : Base) → SomeKeepsFrom b (λ J. closed_from b J ≡ true)
stays_closed_from b J e due shut = closed_from-push b J e ∙ ap (λ (t : Bool). t || is_closing e.answer e.input) shut

pub closed_parks_none_from : (b : Base) (J : List Entry) → IsWellFormed b → IsLegalBySome b J → NoneIdleAfterClose J
closed_parks_none_from b J sound legal k l e f before at_k at_l closes =
    let here = ap (closed_from b) (front_with J k e at_k) ∙ closed_by_from b (take k J) e closes in
    let shut = kept_on_from b (λ K. closed_from b K ≡ true) (stays_closed_from b) J sound legal (k + 1) l (omega (arith, before)) here in
    idles_none_from b (take l J) f (some_due_at b J l f sound legal at_l) shut

pub closed_base_parks_none : (b : Base) (J : List Entry) → IsWellFormed b → IsLegalBySome b J → NoneIdleAfterClosedBase b J
closed_base_parks_none b J sound legal closed k e at_k =
    let shut = kept_on_from b (λ K. closed_from b K ≡ true) (stays_closed_from b) J sound legal 0 k (omega arith) (closed_from-none b ∙ closed) in
    idles_none_from b (take k J) e (some_due_at b J k e sound legal at_k) shut

-- an entry that makes an object makes the next one
made_is_next_from : (b : Base) (J : List Entry) (e : Entry) (i : ℕ) → IsDueBySome b J e → e.answer ≡ answers.Make i → i ≡ drawn_from b J
made_is_next_from b J e i due is = (subst (λ (a : Answer). IsEnabled e.input a (records_from b J) (drawn_from b J)) is (some_finds b J e due)).0

drawn_by_from : (b : Base) (J : List Entry) (e : Entry) (i : ℕ) → e.answer ≡ answers.Make i → drawn_from b (J ++ e ∷ []) ≡ drawn_from b J + 1
drawn_by_from b J e i is = drawn_from-push b J e ∙ ap (λ (a : Answer). drawn_from b J + (if is_make_answer a then 1 else 0)) is

stays_drawn_from : (b : Base) (i : ℕ) → SomeKeepsFrom b (λ J. i < drawn_from b J)
stays_drawn_from b i J e due below = omega (arith, below, drawn_from-push b J e)

made_once_from : (b : Base) (J : List Entry) → IsWellFormed b → IsLegalBySome b J
    → EachTwo J (λ e f. (i : ℕ) → e.answer ≡ answers.Make i → f.answer ≢ answers.Make i)
made_once_from b J sound legal k l e f before at_k at_l i first second =
    let more = ap (drawn_from b) (front_with J k e at_k) ∙ drawn_by_from b (take k J) e i first in
    let here : i < drawn_from b (take (k + 1) J) = omega (arith, more, made_is_next_from b (take k J) e i (some_due_at b J k e sound legal at_k) first) in
    let below = kept_on_from b (λ K. i < drawn_from b K) (stays_drawn_from b i) J sound legal (k + 1) l (omega (arith, before)) here in
    omega (arith, below, made_is_next_from b (take l J) f i (some_due_at b J l f sound legal at_l) second)

drawn_from-ge : (b : Base) (J : List Entry) → b.drawn ≤ drawn_from b J
unfolding drawn_from
drawn_from-ge b J = omega arith

pub made_anew : (b : Base) (J : List Entry) → IsWellFormed b → IsLegalBySome b J → MadeAnew b J
made_anew b J sound legal k e at_k i is =
    omega (arith, made_is_next_from b (take k J) e i (some_due_at b J k e sound legal at_k) is, drawn_from-ge b (take k J))

-- an object that is gone is not moved
gone_unmoved_from : (b : Base) (J : List Entry) (e : Entry) (i : ℕ) (p : Phase) → IsDueBySome b J e → phase_from b i J ≡ phases.Gone
    → move_of_entry e ≢ Some (i, p)
gone_unmoved_from b J e i p due gone to = by_act (acts b J e due)
  where
    by_act : Acts b J e → ⊥
    by_act (still s) = absurd (cc (sym s.none ∙ to))
    by_act (makes m) =
        let same : drawn_from b J ≡ i = same_object (drawn_from b J) i m.p p (sym m.to ∙ to) in
        let fresh = (some_reaches b J due.sound due.legal).fresh i (omega (arith, same)) in
        absurd (cc (sym gone ∙ ap (λ (r : Record). r.phase) fresh))
    by_act (brings m) =
        let same : m.i ≡ i = same_object m.i i m.p p (sym m.to ∙ to) in
        absurd (cc (sym m.was_there ∙ ap (λ (j : ℕ). is_present (phase_from b j J)) same ∙ ap is_present gone))

stays_gone_from : (b : Base) (i : ℕ) → SomeKeepsFrom b (λ J. phase_from b i J ≡ phases.Gone)
stays_gone_from b i J e due gone = phase_from-push b i J e ∙ by_move (move_of_entry e) refl
  where
    by_test : (j : ℕ) (p : Phase) → move_of_entry e ≡ Some (j, p) → (t : Bool) → (j == i) ≡ t
        → unwrap_or (some_if t p) (phase_from b i J) ≡ phases.Gone
    by_test j p is true same =
        let equal : j ≡ i = grind (arith, nat_tests) in
        absurd (gone_unmoved_from b J e i p due gone (is ∙ ap (λ (n : ℕ). move n p) equal))
    by_test j p is false other = gone

    by_move : (m : Option Move) → move_of_entry e ≡ m → unwrap_or (phase_after_move i m) (phase_from b i J) ≡ phases.Gone
    by_move None is = gone
    by_move (Some (j, p)) is = by_test j p is (j == i) refl

gone_stays_from : (b : Base) (J : List Entry) → IsWellFormed b → IsLegalBySome b J
    → EachTwo J (λ e f. (i : ℕ) (p : Phase) → move_of_entry e ≡ Some (i, phases.Gone) → move_of_entry f ≢ Some (i, p))
gone_stays_from b J sound legal k l e f before at_k at_l i p to =
    let here = ap (phase_from b i) (front_with J k e at_k) ∙ phase_moved b (take k J) e i phases.Gone to in
    let gone = kept_on_from b (λ K. phase_from b i K ≡ phases.Gone) (stays_gone_from b i) J sound legal (k + 1) l (omega (arith, before)) here in
    gone_unmoved_from b (take l J) f i p (some_due_at b J l f sound legal at_l) gone

pub made_and_gone_once_from : (b : Base) (J : List Entry) → IsWellFormed b → IsLegalBySome b J → IdsUsedOnce J
made_and_gone_once_from b J sound legal =
    record {
      made_once = made_once_from b J sound legal;
      gone_once = λ k l e f before at_k at_l i. gone_stays_from b J sound legal k l e f before at_k at_l i phases.Gone;
      gone_stays = gone_stays_from b J sound legal;
    }
