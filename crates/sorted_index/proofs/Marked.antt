-- A stored pair that is marked.
use Rattle.std.proofs.Common.{◌≡◌, ℕ, zero, suc, ◌+◌, ◌<◌, eqb, Bool, true, false, not, ◌||◌, cond, List, [], ◌∷◌, length, get_or, set, refl, ap, sym, ◌∙◌, arith, subst}
use Rattle.std.specs.Prelude.{filter}
use Rattle.std.specs.List.{AllByRecursion}
use Rattle.std.proofs.lemmas.List.Sums.{sum_by-set}
use Rattle.sorted_index.specs.declared.pair.Pair.{Pair}
use Rattle.sorted_index.specs.declared.stored.Stored.{Stored}
use Rattle.sorted_index.specs.Pairs.{has_id, without, IsAscending}
use Rattle.sorted_index.specs.Marks.{all_in, pairs_in, is_there, IsThereAt, IsCounted}
use Rattle.sorted_index.proofs.There.{all_there, weighs_one, weighs_none}
use Rattle.sorted_index.proofs.Found.{other_is, same_is, id_above}

-- ids above i are not i
without_above : (i : ℕ) (ps : List Pair) → AllByRecursion (λ q. i < q.id) ps → without i ps ≡ ps
without_above i [] all = refl
without_above i (p ∷ ps) all = rw (other_is i p.id (λ same. omega (arith, all.0))) (ap (λ qs. p ∷ qs) (without_above i ps all.1))

pub without_none : (i : ℕ) (ps : List Pair) → has_id i ps ≡ false → without i ps ≡ ps
without_none i [] none = refl
without_none i (p ∷ ps) none = by_test (eqb i p.id) none (without_none i ps)
  where
    by_test : (b : Bool) → (b || has_id i ps) ≡ false → (has_id i ps ≡ false → without i ps ≡ ps) → cond (not b) (p ∷ without i ps) (without i ps) ≡ p ∷ ps
    by_test true out rest = absurd (cc)
    by_test false out rest = ap (λ qs. p ∷ qs) (rest out)

all_in-set : (k : ℕ) (s d : Stored) (ss : List Stored) → s.pair ≡ (get_or ss k d).pair → all_in (set ss k s) ≡ all_in ss
all_in-set k s d [] same = refl
all_in-set zero s d (t ∷ ss) same = ap (λ p. p ∷ all_in ss) same
all_in-set (suc k) s d (t ∷ ss) same = ap (λ ps. t.pair ∷ ps) (all_in-set k s d ss same)

mark_first : (i : ℕ) (t : Stored) (ss : List Stored) (b : Bool) → eqb i t.pair.id ≡ true → pairs_in ss ≡ without i (pairs_in ss)
    → pairs_in ss ≡ without i (all_in (cond b (t ∷ filter is_there ss) (filter is_there ss)))
mark_first i t ss true same rest = rw same rest
mark_first i t ss false same rest = rest

mark_later : (i : ℕ) (t : Stored) (ss ts : List Stored) (b : Bool) → eqb i t.pair.id ≡ false → pairs_in ts ≡ without i (pairs_in ss)
    → all_in (cond b (t ∷ filter is_there ts) (filter is_there ts)) ≡ without i (all_in (cond b (t ∷ filter is_there ss) (filter is_there ss)))
mark_later i t ss ts true other rest = rw other (ap (λ ps. t.pair ∷ ps) rest)
mark_later i t ss ts false other rest = rest

-- a mark at the position of i removes the pair of i
pairs_in-set : (i k : ℕ) (s d : Stored) (ss : List Stored) → IsAscending (all_in ss) → k < length ss → (get_or ss k d).pair.id ≡ i → s.is_gone ≡ true → pairs_in (set ss k s) ≡ without i (pairs_in ss)
pairs_in-set i k s d [] up lt here gone = absurd (omega arith)
pairs_in-set i zero s d (t ∷ ss) up lt here gone =
    let above : AllByRecursion (λ q. i < q.id) (all_in ss) = subst (λ (n : ℕ). AllByRecursion (λ q. n < q.id) (all_in ss)) here up.0 in
    rw gone (mark_first i t ss (is_there t) (same_is i t.pair.id (sym here)) (sym (without_above i (pairs_in ss) (all_there (λ q. i < q.id) ss above))))
pairs_in-set i (suc k) s d (t ∷ ss) up lt here gone =
    let below = id_above t.pair.id k d ss up.0 (omega arith) in
    mark_later i t ss (set ss k s) (is_there t) (other_is i t.pair.id (λ same. omega (arith, below, here))) (pairs_in-set i k s d ss up.1 (omega arith) here gone)

-- t was read at the position of i, and s is t with a mark
pub mark_pairs : (i k : ℕ) (s t : Stored) (ss : List Stored) → IsAscending (all_in ss) → IsThereAt ss i k → s.is_gone ≡ true → pairs_in (set ss k s) ≡ without i (pairs_in ss)
mark_pairs i k s t ss up at gone = pairs_in-set i k s t ss up at.stored.in_range (at.stored.has_id t) gone

pub mark_counted : (i k n : ℕ) (s t : Stored) (ss : List Stored) → IsCounted ss n → IsThereAt ss i k → t ≡ get_or ss k t → s.pair ≡ t.pair → s.is_gone ≡ true → IsCounted (set ss k s) (n + 1)
mark_counted i k n s t ss old at read same gone = record {
  ascending = subst IsAscending (sym (all_in-set k s t ss (same ∙ ap (λ (x : Stored). x.pair) read))) old.ascending;
  counted = omega (arith, sum_by-set (λ (x : Stored). cond x.is_gone 1 0) ss k s t at.stored.in_range, weighs_one s.is_gone gone, weighs_none (get_or ss k t).is_gone (at.is_there t), old.counted);
}
