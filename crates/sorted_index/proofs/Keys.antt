-- The keys of the ids after a pair is added or removed, and the order of those that are left.
use Rattle.std.proofs.Common.{◌≡◌, ◌≢◌, ℕ, ◌<◌, eqb, Bool, true, false, not, cond, List, [], ◌∷◌, ◌++◌, Some, None, refl, arith}
use Rattle.std.specs.Prelude.{find, filter}
use Rattle.std.specs.List.{AllByRecursion}
use Rattle.std.specs.Option.{option_map}
use Rattle.std.proofs.lemmas.Bool.Decides.{nat_tests}
use Rattle.sorted_index.specs.declared.pair.Pair.{Pair}
use Rattle.sorted_index.specs.Pairs.{key_of, without, IdsBelow, IsAscending}
use Rattle.sorted_index.proofs.Found.{other_is, same_is}

pub key_pushed : (ps : List Pair) (p : Pair) → IdsBelow p.id ps → key_of (ps ++ p ∷ []) p.id ≡ Some p.key
key_pushed [] p below = rw (same_is p.id p.id refl) refl
key_pushed (q ∷ ps) p below = rw (other_is p.id q.id (λ same. omega (arith, below.0))) (key_pushed ps p below.1)

pub key_push_other : (j : ℕ) (ps : List Pair) (p : Pair) → j ≢ p.id → key_of (ps ++ p ∷ []) j ≡ key_of ps j
key_push_other j [] p other = rw (other_is j p.id other) refl
key_push_other j (q ∷ ps) p other = by_test (eqb j q.id) (key_push_other j ps p other)
  where
    by_test : (b : Bool) → key_of (ps ++ p ∷ []) j ≡ key_of ps j → option_map (λ r. r.key) (cond b (Some q) (find (λ r. eqb j r.id) (ps ++ p ∷ []))) ≡ option_map (λ r. r.key) (cond b (Some q) (find (λ r. eqb j r.id) ps))
    by_test true rest = refl
    by_test false rest = rest

key_none : (i : ℕ) (p : Pair) (ps : List Pair) (b : Bool) → eqb i p.id ≡ b → key_of (without i ps) i ≡ None → key_of (cond (not b) (p ∷ without i ps) (without i ps)) i ≡ None
key_none i p ps true is rest = rest
key_none i p ps false is rest = rw is rest

pub key_without : (i : ℕ) (ps : List Pair) → key_of (without i ps) i ≡ None
key_without i [] = refl
key_without i (p ∷ ps) = key_none i p ps (eqb i p.id) refl (key_without i ps)

key_kept : (i j : ℕ) (p : Pair) (ps : List Pair) (a b : Bool) → eqb i p.id ≡ a → eqb j p.id ≡ b → j ≢ i → key_of (without i ps) j ≡ key_of ps j
    → key_of (cond (not a) (p ∷ without i ps) (without i ps)) j ≡ key_of (p ∷ ps) j
key_kept i j p ps true true is this other rest = absurd (other (grind (arith, nat_tests)))
key_kept i j p ps true false is this other rest = rw this rest
key_kept i j p ps false true is this other rest = rw this refl
key_kept i j p ps false false is this other rest = rw this rest

pub key_without_other : (i j : ℕ) (ps : List Pair) → j ≢ i → key_of (without i ps) j ≡ key_of ps j
key_without_other i j [] other = refl
key_without_other i j (p ∷ ps) other = key_kept i j p ps (eqb i p.id) (eqb j p.id) refl refl other (key_without_other i j ps other)

-- ---- pairs of which some are left out
pub all_filter : (P : Pair → Type 0) (test : Pair → Bool) (ps : List Pair) → AllByRecursion P ps → AllByRecursion P (filter test ps)
all_filter P test [] all = tt
all_filter P test (p ∷ ps) all = by_test (test p) all.0 (all_filter P test ps all.1)
  where
    by_test : (b : Bool) → P p → AllByRecursion P (filter test ps) → AllByRecursion P (cond b (p ∷ filter test ps) (filter test ps))
    by_test true here rest = (here, rest)
    by_test false here rest = rest

pub ascending_filter : (test : Pair → Bool) (ps : List Pair) → IsAscending ps → IsAscending (filter test ps)
ascending_filter test [] up = tt
ascending_filter test (p ∷ ps) up = by_test (test p) (all_filter (λ q. p.id < q.id) test ps up.0) (ascending_filter test ps up.1)
  where
    by_test : (b : Bool) → AllByRecursion (λ q. p.id < q.id) (filter test ps) → IsAscending (filter test ps) → IsAscending (cond b (p ∷ filter test ps) (filter test ps))
    by_test true here rest = (here, rest)
    by_test false here rest = rest
