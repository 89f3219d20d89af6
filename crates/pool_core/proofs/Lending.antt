-- An object is lent again only after it left Lent.
use Rattle.std.proofs.Common.{◌≡◌, ◌≢◌, ℕ, zero, suc, ◌+◌, ◌-◌, ◌<◌, ◌≤◌, ◌==◌, Bool, true, false, List, Option, Some, None, refl}
use Rattle.std.proofs.Common.{ap, sym, ◌∙◌, arith}
use Rattle.std.specs.Prelude.{◌&&◌, IsSomeAnd, take}
use Rattle.std.proofs.lemmas.Bool.Decides.{nat_tests}
use Rattle.pool_journal.specs.Entries.{id_of, is_of, named_to, move_of, is_lent_answer}
use Rattle.pool_journal.specs.Queue.{record_in}
use Rattle.pool_journal.specs.Base.{phase_from, drawn_from, records_from}
use Rattle.pool_journal.specs.Sound.{IsWellFormed}
use Rattle.pool_journal.specs.declared.base.Base.{Base}
use Rattle.pool_journal.specs.declared.entry.Entry.{Entry}
use Rattle.pool_journal.specs.declared.record.Record.{Record}
use Rattle.pool_journal.specs.declared.record.Phase.{Phase}
use Rattle.pool_journal.specs.declared.record.Phase.TheVariants as phases
use Rattle.pool_journal.specs.declared.input.Input.{Input}
use Rattle.pool_journal.specs.declared.answer.Answer.{Answer}
use Rattle.pool_journal.specs.declared.answer.Answer.TheVariants as answers
use Rattle.pool_journal.proofs.Found.{found_from}
use Rattle.pool_places.specs.Overdue.{is_lent}
use Rattle.pool_core.specs.Laws.{LeavesLentFrom, ExclusiveLoansFrom}
use Rattle.pool_core.specs.Legal.{IsLegalBySome}
use Rattle.pool_core.specs.Steps.{IsEnabled, comes_from}
use Rattle.pool_core.proofs.Fronts.{front_with, some_due_at}
use Rattle.pool_core.proofs.Lives.{some_finds, move, phase_moved}

-- the index at which a test changes from true to false
record Turns (test : ℕ → Bool) (a b : ℕ) : Type 0 where
  m : ℕ
  from : a ≤ m
  below : m < b
  before : test m ≡ true
  after : test (m + 1) ≡ false

-- a test that is true at first and false at last changes in between
turns : (test : ℕ → Bool) (n a b : ℕ) → a + n ≡ b → test a ≡ true → test b ≡ false → Turns test a b
turns test zero a b is first last = let same : a ≡ b = omega (arith, is) in absurd (cc (sym first ∙ ap test same ∙ last))
turns test (suc n) a b is first last =
    by_test (test (a + 1)) refl (λ next. turns test n (a + 1) b (omega (arith, is)) next last)
  where
    by_test : (t : Bool) → test (a + 1) ≡ t → (test (a + 1) ≡ true → Turns test (a + 1) b) → Turns test a b
    by_test false next on = record { m = a; from = omega arith; below = omega (arith, is); before = first; after = next }
    by_test true next on =
        let later = on next in
        record { m = later.m; from = omega (arith, later.from); below = later.below; before = later.before; after = later.after }

same_id : (i j : ℕ) → (j == i) ≡ true → j ≡ i
same_id i j same = grind (arith, nat_tests)

-- an entry that lends an object moves it to Lent
lends_to : (a : Answer) (input : Input) (i : ℕ) → (is_lent_answer a && is_of i (id_of input)) ≡ true
    → move_of a input ≡ Some (i, phases.Lent)
lends_to answers.Lent input i is = by_id (id_of input) is
  where
    by_id : (o : Option ℕ) → is_of i o ≡ true → named_to o phases.Lent ≡ Some (i, phases.Lent)
    by_id None is = absurd (cc is)
    by_id (Some j) is = ap (λ (n : ℕ). move n phases.Lent) (same_id i j is)
lends_to _ input i is = absurd (cc is)

lent_from : (p : Phase) → comes_from answers.Lent p ≡ true → is_lent p ≡ false
lent_from phases.Readying is = refl
lent_from _ is = absurd (cc is)

-- the answer moves an object out of the phase of the record
abbrev Leaves : Answer → Record → Type 0
Leaves a r = comes_from a r.phase ≡ true

-- the object that is about to be lent isn't lent yet
found_not_lent_from : (b : Base) (J : List Entry) (j : ℕ) → IsSomeAnd (record_in (records_from b J) j) (Leaves answers.Lent) → is_lent (phase_from b j J) ≡ false
found_not_lent_from b J j leaves = by_record (record_in (records_from b J) j) refl leaves
  where
    by_record : (o : Option Record) → record_in (records_from b J) j ≡ o → IsSomeAnd o (Leaves answers.Lent) → is_lent (phase_from b j J) ≡ false
    by_record None none is = absurd is
    by_record (Some r) some is =
        let at = found_from b J j r some in
        lent_from (phase_from b j J) (ap (λ (r : Record). comes_from answers.Lent r.phase) (sym at.is) ∙ is)

was_not_lent_from : (b : Base) (J : List Entry) (a : Answer) (input : Input) (i : ℕ) → (is_lent_answer a && is_of i (id_of input)) ≡ true
    → IsEnabled input a (records_from b J) (drawn_from b J) → is_lent (phase_from b i J) ≡ false
was_not_lent_from b J answers.Lent input i is finds = by_id (id_of input) is finds
  where
    by_id : (o : Option ℕ) → is_of i o ≡ true → IsSomeAnd o (λ j. IsSomeAnd (record_in (records_from b J) j) (Leaves answers.Lent))
        → is_lent (phase_from b i J) ≡ false
    by_id None is named = absurd named
    by_id (Some j) is named = ap (λ (n : ℕ). is_lent (phase_from b n J)) (sym (same_id i j is)) ∙ found_not_lent_from b J j named
was_not_lent_from b J _ input i is finds = absurd (cc is)

lent_is : (p : Phase) → is_lent p ≡ true → p ≡ phases.Lent
lent_is phases.Lent is = refl
lent_is _ is = absurd (cc is)

lent_is_not : (p : Phase) → is_lent p ≡ false → p ≢ phases.Lent
lent_is_not p other is = absurd (cc (sym other ∙ ap is_lent is))

-- whether i is lent before the entry at position m of the segment
abbrev lent_at_from : Base → List Entry → ℕ → ℕ → Bool
lent_at_from b J i m = is_lent (phase_from b i (take m J))

pub lent_in_turn_from : (b : Base) (J : List Entry) → IsWellFormed b → IsLegalBySome b J → ExclusiveLoansFrom b J
lent_in_turn_from b J sound legal i k l e f before at_k at_l first second =
    let to = phase_moved b (take k J) e i phases.Lent (lends_to e.answer e.input i first) in
    let lent_then : lent_at_from b J i (k + 1) ≡ true = ap (λ K. is_lent (phase_from b i K)) (front_with J k e at_k) ∙ ap is_lent to in
    let finds = some_finds b (take l J) f (some_due_at b J l f sound legal at_l) in
    let not_at_last : lent_at_from b J i l ≡ false = was_not_lent_from b (take l J) f.answer f.input i second finds in
    let t = turns (lent_at_from b J i) (l - (k + 1)) (k + 1) l (omega (arith, before)) lent_then not_at_last in
    let leaves : LeavesLentFrom b J i t.m = record {
      lent_before = lent_is (phase_from b i (take t.m J)) t.before;
      not_after = lent_is_not (phase_from b i (take (t.m + 1) J)) t.after;
    } in
    (t.m, omega (arith, t.from), t.below, leaves)
