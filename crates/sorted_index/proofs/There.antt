-- The present pairs among the stored ones.
use Rattle.std.proofs.Common.{◌≡◌, ◌==◌, ℕ, suc, ◌+◌, ◌<◌, Bool, true, false, not, cond, List, [], ◌∷◌, ◌++◌, length, refl, ap, sym, ◌∙◌, arith}
use Rattle.std.specs.Prelude.{count_by, filter, map}
use Rattle.std.specs.List.{AllByRecursion}
use Rattle.std.proofs.lemmas.Bool.Decides.{nat_tests}
use Rattle.std.proofs.lemmas.List.{length-map, map-append}
use Rattle.std.proofs.lemmas.List.Sums.{length-filter, sum_by-cons}
use Rattle.std.proofs.lemmas.List.Filters.{length-filter_both}
use Rattle.std.proofs.lemmas.List.Elements.{filter-append}
use Rattle.sorted_index.specs.declared.pair.Pair.{Pair}
use Rattle.sorted_index.specs.declared.stored.Stored.{Stored}
use Rattle.sorted_index.specs.Pairs.{IsAscending}
use Rattle.sorted_index.specs.Marks.{all_in, pairs_in, is_there, starts_gone}

pub all_there : (P : Pair → Type 0) (ss : List Stored) → AllByRecursion P (all_in ss) → AllByRecursion P (pairs_in ss)
all_there P [] all = tt
all_there P (s ∷ ss) all = by_test (is_there s) all.0 (all_there P ss all.1)
  where
    by_test : (b : Bool) → P s.pair → AllByRecursion P (pairs_in ss) → AllByRecursion P (all_in (cond b (s ∷ filter is_there ss) (filter is_there ss)))
    by_test true here rest = (here, rest)
    by_test false here rest = rest

pub ascending_there : (ss : List Stored) → IsAscending (all_in ss) → IsAscending (pairs_in ss)
ascending_there [] up = tt
ascending_there (s ∷ ss) up = by_test (is_there s) (all_there (λ q. s.pair.id < q.id) ss up.0) (ascending_there ss up.1)
  where
    by_test : (b : Bool) → AllByRecursion (λ q. s.pair.id < q.id) (pairs_in ss) → IsAscending (pairs_in ss) → IsAscending (all_in (cond b (s ∷ filter is_there ss) (filter is_there ss)))
    by_test true here rest = (here, rest)
    by_test false here rest = rest

pub length_there : (ss : List Stored) → length (pairs_in ss) + count_by (λ s. s.is_gone) ss ≡ length ss
length_there ss =
    omega (arith, length-map (filter is_there ss) (λ (s : Stored). s.pair), length-filter_both (λ (s : Stored). s.is_gone) is_there (λ s. refl) ss, length-filter (λ (s : Stored). s.is_gone) ss)

pub pairs_in-append : (ss ts : List Stored) → pairs_in (ss ++ ts) ≡ pairs_in ss ++ pairs_in ts
pairs_in-append ss ts = ap all_in (filter-append is_there ss ts) ∙ map-append (λ s. s.pair) (filter is_there ss) (filter is_there ts)

pub push_pairs : (ss : List Stored) (s : Stored) → s.is_gone ≡ false → pairs_in (ss ++ s ∷ []) ≡ pairs_in ss ++ s.pair ∷ []
push_pairs ss s there = pairs_in-append ss (s ∷ []) ∙ ap (λ g. pairs_in ss ++ all_in (cond (not g) (s ∷ []) [])) there

-- a mark counts as one
pub weighs_one : (b : Bool) → b ≡ true → ◌≡◌ {A = ℕ} (cond b 1 0) 1
weighs_one true is = refl
weighs_one false is = absurd (cc is)

pub weighs_none : (b : Bool) → b ≡ false → ◌≡◌ {A = ℕ} (cond b 1 0) 0
weighs_none true is = absurd (cc is)
weighs_none false is = refl

pub weighed : (b : Bool) → ◌≡◌ {A = ℕ} (cond b 1 0) 0 → b ≡ false
weighed true none = absurd (omega arith)
weighed false none = refl

-- if no pair is marked, all are present
pub none_marked : (ss : List Stored) → count_by (λ s. s.is_gone) ss ≡ 0 → filter is_there ss ≡ ss
none_marked [] none = refl
none_marked (s ∷ ss) none = by_mark s.is_gone refl (none_marked ss)
  where
    by_mark : (b : Bool) → s.is_gone ≡ b → (count_by (λ s. s.is_gone) ss ≡ 0 → filter is_there ss ≡ ss) → filter is_there (s ∷ ss) ≡ s ∷ ss
    by_mark true is later = absurd (omega (arith, none, sum_by-cons (λ (t : Stored). cond t.is_gone 1 0) s ss, weighs_one s.is_gone is))
    by_mark false is later = ap (λ b. cond (not b) (s ∷ filter is_there ss) (filter is_there ss)) is ∙ ap (λ ts. s ∷ ts) (later (omega (arith, none, sum_by-cons (λ (t : Stored). cond t.is_gone 1 0) s ss)))

some_left : (n : ℕ) → (suc n == 0) ≡ false
some_left n = grind (arith, nat_tests)

-- a queue whose first pair is present has one exactly if some are stored
pub empty_alike : (ss : List Stored) → starts_gone ss ≡ false → (length ss == 0) ≡ (length (pairs_in ss) == 0)
empty_alike [] first = refl
empty_alike (s ∷ ss) first = by_test s.is_gone first
  where
    by_test : (b : Bool) → b ≡ false → (length (s ∷ ss) == 0) ≡ (length (map (λ (t : Stored). t.pair) (cond (not b) (s ∷ filter is_there ss) (filter is_there ss))) == 0)
    by_test true is = absurd (cc is)
    by_test false is = some_left (length ss) ∙ sym (some_left (length (pairs_in ss)))
