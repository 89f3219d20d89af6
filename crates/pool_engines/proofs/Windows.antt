-- The part of a buffer that holds the bytes.
use Rattle.std.proofs.Common.{◌≡◌, ℕ, ◌+◌, ◌-◌, ◌≤◌, List, ◌++◌, length, take, drop, slice_range, sym, ap, ◌∙◌, arith, length-drop, length-take, zero-add}
use Rattle.std.specs.List.{copy_within}
use Rattle.std.proofs.lemmas.List.{drop-take, drop-drop}
use Rattle.std.proofs.lemmas.List.Edits.{take-paste}
use Rattle.std.proofs.Math.Seq.{take-add}

-- the part without its first n bytes
pub slice_range-drop : (xs : List ℕ) (a n b : ℕ) → a + n ≤ b → slice_range xs (a + n) b ≡ drop n (slice_range xs a b)
slice_range-drop xs a n b h =
    let m = b - (a + n) in
    let whole : b - a ≡ n + m = omega arith in
    ap (take m) (sym (drop-drop n a xs)) ∙ sym (drop-take n m (drop a xs)) ∙ ap (λ k. drop n (take k (drop a xs))) (sym whole)

-- the part, once it is moved to the start
pub take-copy_within : (xs : List ℕ) (a b : ℕ) → a ≤ b → b ≤ length xs → take (b - a) (copy_within xs a b 0) ≡ slice_range xs a b
take-copy_within xs a b ordered within =
    ap (λ n. take n (copy_within xs a b 0)) (sym (zero-add (b - a)))
    ∙ take-paste xs 0 (drop a xs) (b - a) (omega arith) (omega (arith, length-drop a xs))

-- what is at the start, and what was read after it
pub take-grown : (xs front : List ℕ) (n more : ℕ) → take n xs ≡ front → take (n + more) xs ≡ front ++ slice_range xs n (n + more)
take-grown xs front n more h =
    let rest : (n + more) - n ≡ more = omega arith in
    take-add n more xs ∙ ap (λ l. l ++ take more (drop n xs)) h ∙ ap (λ k. front ++ take k (drop n xs)) (sym rest)

pub slice_range-grown : (xs front : List ℕ) (n more : ℕ) → take n xs ≡ front → slice_range xs 0 (n + more) ≡ front ++ slice_range xs n (n + more)
slice_range-grown xs front n more h =
    let here : (n + more) - 0 ≡ n + more = omega arith in
    ap (λ k. take k xs) here ∙ take-grown xs front n more h

pub length-slice_range : (xs : List ℕ) (n more : ℕ) → n + more ≤ length xs → length (slice_range xs n (n + more)) ≡ more
length-slice_range xs n more h = omega (arith, length-take ((n + more) - n) (drop n xs), length-drop n xs)
