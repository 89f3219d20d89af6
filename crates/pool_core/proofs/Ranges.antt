-- How many numbers of a range pass a test.
use Rattle.std.proofs.Common.{◌≡◌, ◌≢◌, ℕ, zero, suc, ◌+◌, ◌<◌, ◌≤◌, ◌==◌, Bool, true, false, List, []}
use Rattle.std.proofs.Common.{◌∷◌, ◌++◌, refl, ap, ◌∙◌, arith, zero-add}
use Rattle.std.specs.Prelude.{count_by}
use Rattle.std.specs.List.{range_with_len}
use Rattle.std.proofs.lemmas.Bool.Decides.{nat_tests}
use Rattle.std.proofs.lemmas.List.Sums.{sum_by_push}
use Rattle.pool_journal.proofs.Filtered.{range-more}
use Rattle.pool_core.proofs.Counted.{one_if, count_cons}

pub count_push : {A : Type 0} (p : A → Bool) (xs : List A) (x : A) → count_by p (xs ++ x ∷ []) ≡ count_by p xs + one_if (p x)
count_push p xs x = sum_by_push (λ y. one_if (p y)) xs x

-- how many numbers of a range pass a test
abbrev pub count_range : (ℕ → Bool) → ℕ → ℕ → ℕ
count_range p a n = count_by p (range_with_len a n)

pub count_first : (p : ℕ → Bool) (a n : ℕ) → count_range p a (suc n) ≡ one_if (p a) + count_range p (a + 1) n
count_first p a n = count_cons p a (range_with_len (a + 1) n)

pub count_last : (p : ℕ → Bool) (n : ℕ) → count_range p 0 (suc n) ≡ count_range p 0 n + one_if (p n)
count_last p n =
    ap (count_by p) (range-more 0 n) ∙ ap (λ (j : ℕ). count_by p (range_with_len 0 n ++ j ∷ [])) (zero-add n)
    ∙ count_push p (range_with_len 0 n) n

-- two tests that agree on a range
pub same_count : (p q : ℕ → Bool) (a n : ℕ) → ((j : ℕ) → a ≤ j → j < a + n → p j ≡ q j) → count_range p a n ≡ count_range q a n
same_count p q a zero same = refl
same_count p q a (suc n) same =
    let rest = same_count p q (a + 1) n (λ j above below. same j (omega (arith, above)) (omega (arith, below))) in
    omega (arith, count_first p a n, count_first q a n, ap one_if (same a (omega arith) (omega arith)), rest)

-- two tests that agree except at one number
pub one_changed : (p q : ℕ → Bool) (i a n : ℕ) → a ≤ i → i < a + n → ((j : ℕ) → j ≢ i → q j ≡ p j)
    → count_range q a n + one_if (p i) ≡ count_range p a n + one_if (q i)
one_changed p q i a zero from below same = absurd (omega (arith, from, below))
one_changed p q i a (suc n) from below same =
    by_test (a == i) refl (λ above. one_changed p q i (a + 1) n above (omega (arith, below)) same)
  where
    by_test : (t : Bool) → (a == i) ≡ t → (a + 1 ≤ i → count_range q (a + 1) n + one_if (p i) ≡ count_range p (a + 1) n + one_if (q i))
        → count_range q a (suc n) + one_if (p i) ≡ count_range p a (suc n) + one_if (q i)
    by_test true is later =
        let e : a ≡ i = grind (arith, nat_tests) in
        let q_at : one_if (q a) ≡ one_if (q i) = ap (λ (j : ℕ). one_if (q j)) e in
        let p_at : one_if (p a) ≡ one_if (p i) = ap (λ (j : ℕ). one_if (p j)) e in
        let others = same_count q p (a + 1) n (λ j above under. same j (λ equal. omega (arith, above, equal, e))) in
        omega (arith, count_first p a n, count_first q a n, q_at, p_at, others)
    by_test false is later =
        let e : a ≢ i = grind (arith, nat_tests) in
        let at : one_if (q a) ≡ one_if (p a) = ap one_if (same a e) in
        let above : a + 1 ≤ i = omega (arith, e, from) in
        omega (arith, count_first p a n, count_first q a n, at, later above)
