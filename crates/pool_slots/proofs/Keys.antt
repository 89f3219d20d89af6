-- Lists of keys.
use Rattle.std.proofs.Common.{◌≡◌, ◌⊎◌, ℕ, ◌+◌, ◌<◌, ◌≤◌, Bool, true, false, eqb, ◌||◌, if◌then◌else◌, List, [], ◌∷◌, ◌++◌, length, Option, refl, sym, ap, ◌∙◌, inl, inr, arith}
use Rattle.std.specs.List.{AllByRecursion, IsDistinct, range_with_len}
use Rattle.std.specs.Cmp.{IsEquivalence}
use Rattle.std.proofs.lemmas.Bool.{eqb-true, eq-eqb, eqb-false, ne_eqb}
use Rattle.std.proofs.lemmas.List.Folds.{list_any-append, list_any_at}
use Rattle.std.proofs.lemmas.List.FromFn.{length-range_with_len, get_or-range_with_len}
use Rattle.std.proofs.lemmas.Map.Made.{length-le_from_is_member}
use Rattle.pool_slots.specs.SlotsModel.{is_in, is_key, without, put_before, AreDistinct}

-- neither is true
pub neither : (a b : Bool) → (a || b) ≡ false → (a ≡ false) × (b ≡ false)
neither true b none = absurd (cc)
neither false b none = (refl, none)

-- one of two is true
pub either : (a b : Bool) → (a || b) ≡ true → (a ≡ true) ⊎ (b ≡ true)
either true b some = inl refl
either false b some = inr some

or_true : (a b : Bool) → b ≡ true → (a || b) ≡ true
or_true true b holds = refl
or_true false b holds = holds

-- a test is true or false
pub true_or_false : (a : Bool) → (a ≡ true) ⊎ (a ≡ false)
true_or_false true = inl refl
true_or_false false = inr refl

pub is_in_first : (key : ℕ) (keys : List ℕ) → is_in key (key ∷ keys) ≡ true
is_in_first key keys = rw (eq-eqb key key refl) refl

pub is_in_later : (key first : ℕ) (keys : List ℕ) → is_in key keys ≡ true → is_in key (first ∷ keys) ≡ true
is_in_later key first keys found = or_true (eqb key first) (is_in key keys) found

pub eqb_apart : (x y : ℕ) → eqb x y ≡ false → eqb y x ≡ false
eqb_apart x y apart = ne_eqb y x (λ same. eqb-false x y apart (sym same))

pub without_none : (key : ℕ) (keys : List ℕ) → is_in key keys ≡ false → without key keys ≡ keys
without_none key [] out = refl
without_none key (x ∷ xs) out =
    let apart = neither (eqb key x) (is_in key xs) out in
    rw apart.0 (ap (λ ys. x ∷ ys) (without_none key xs apart.1))

pub out_of_without : (other key : ℕ) (keys : List ℕ) → is_in other keys ≡ false → is_in other (without key keys) ≡ false
out_of_without other key [] out = refl
out_of_without other key (x ∷ xs) out =
    let apart = neither (eqb other x) (is_in other xs) out in
    let later = out_of_without other key xs apart.1 in
    elim (true_or_false (eqb key x)) [
      | inl same ↦ rw same later
      | inr differs ↦ rw (differs, apart.0) later
    ]

pub in_without : (other key : ℕ) (keys : List ℕ) → is_in other (without key keys) ≡ true → is_in other keys ≡ true
in_without other key keys found =
    elim (true_or_false (is_in other keys)) [
      | inl here ↦ here
      | inr out ↦ absurd (cc (out_of_without other key keys out))
    ]

pub distinct_without : (key : ℕ) (keys : List ℕ) → AreDistinct keys → AreDistinct (without key keys)
distinct_without key [] distinct = distinct
distinct_without key (x ∷ xs) distinct =
    elim (true_or_false (eqb key x)) [
      | inl same ↦ rw same (distinct_without key xs distinct.1)
      | inr differs ↦ rw differs (out_of_without x key xs distinct.0, distinct_without key xs distinct.1)
    ]

pub distinct_push : (key : ℕ) (keys : List ℕ) → is_in key keys ≡ false → AreDistinct keys → AreDistinct (keys ++ key ∷ [])
distinct_push key [] out distinct = (refl, distinct)
distinct_push key (x ∷ xs) out distinct =
    let apart = neither (eqb key x) (is_in key xs) out in
    (rw (list_any-append (eqb x) xs (key ∷ []), distinct.0, eqb_apart key x apart.0) refl, distinct_push key xs apart.1 distinct.1)

pub in_push : (other key : ℕ) (keys : List ℕ) → is_in other (keys ++ key ∷ []) ≡ true → (is_in other keys ≡ true) ⊎ (other ≡ key)
in_push other key [] found =
    elim (either (eqb other key) false found) [
      | inl same ↦ inr (eqb-true other key same)
      | inr none ↦ absurd (cc)
    ]
in_push other key (x ∷ xs) found =
    elim (either (eqb other x) (is_in other (xs ++ key ∷ [])) found) [
      | inl same ↦ inl (rw same refl)
      | inr later ↦
          elim (in_push other key xs later) [
            | inl there ↦ inl (is_in_later other x xs there)
            | inr same ↦ inr same
          ]
    ]

-- ---- distinct keys below a number are no more than it
eqb_refl : (x : ℕ) → eqb x x ≡ true
eqb_refl x = eq-eqb x x refl

eqb_flips : (x y : ℕ) → eqb x y ≡ eqb y x
eqb_flips x y =
    elim (true_or_false (eqb x y)) [
      | inl same ↦ same ∙ sym (eq-eqb y x (sym (eqb-true x y same)))
      | inr apart ↦ apart ∙ sym (eqb_apart x y apart)
    ]

eqb_laws : IsEquivalence eqb
eqb_laws = record {
  refl = eqb_refl;
  symm = eqb_flips;
  congr = λ x y z same. ap (λ w. eqb w z) (eqb-true x y same);
}

all_apart : (x : ℕ) (keys : List ℕ) → is_in x keys ≡ false → AllByRecursion (λ y. eqb x y ≡ false) keys
all_apart x [] out = _
all_apart x (y ∷ ys) out = let apart = neither (eqb x y) (is_in x ys) out in (apart.0, all_apart x ys apart.1)

distinct_keys : (keys : List ℕ) → AreDistinct keys → IsDistinct eqb keys
unfolding IsDistinct
distinct_keys [] distinct = _
distinct_keys (x ∷ xs) distinct = (all_apart x xs distinct.0, distinct_keys xs distinct.1)

in_range : (key n : ℕ) → key < n → is_in key (range_with_len 0 n) ≡ true
in_range key n below =
    list_any_at (eqb key) (range_with_len 0 n) key 0 (omega (arith, length-range_with_len 0 n)) (rw (get_or-range_with_len 0 n key 0 below) (eq-eqb key (0 + key) (omega arith)))

pub few_distinct : (n : ℕ) (keys : List ℕ) → AreDistinct keys → ((key : ℕ) → is_in key keys ≡ true → key < n) → length keys ≤ n
few_distinct n keys distinct below =
    let few = length-le_from_is_member eqb_laws keys (range_with_len 0 n) (distinct_keys keys distinct) (λ key found. in_range key n (below key found)) in
    omega (arith, length-range_with_len 0 n, few)

-- ---- a key that comes before another one
swapped : (a b c : Bool) → (a || (b || c)) ≡ (b || (a || c))
swapped true true c = refl
swapped true false c = refl
swapped false true c = refl
swapped false false c = refl

pub in_put : (other key : ℕ) (next : Option ℕ) (keys : List ℕ) → is_in other (put_before next key keys) ≡ (eqb other key || is_in other keys)
in_put other key next [] = refl
in_put other key next (x ∷ xs) = by_test (is_key next x) (in_put other key next xs)
  where
    by_test : (b : Bool) → is_in other (put_before next key xs) ≡ (eqb other key || is_in other xs) → is_in other (if b then key ∷ x ∷ xs else x ∷ put_before next key xs) ≡ (eqb other key || (eqb other x || is_in other xs))
    by_test true later = refl
    by_test false later = ap (λ t. eqb other x || t) later ∙ swapped (eqb other x) (eqb other key) (is_in other xs)

neither_is : (a b : Bool) → a ≡ false → b ≡ false → (a || b) ≡ false
neither_is a b first second = ap (λ t. t || b) first ∙ second

pub distinct_put : (key : ℕ) (next : Option ℕ) (keys : List ℕ) → is_in key keys ≡ false → AreDistinct keys → AreDistinct (put_before next key keys)
distinct_put key next [] out distinct = (refl, tt)
distinct_put key next (x ∷ xs) out distinct =
    let apart = neither (eqb key x) (is_in key xs) out in
    by_test (is_key next x) (in_put x key next xs ∙ neither_is (eqb x key) (is_in x xs) (eqb_apart key x apart.0) distinct.0) (distinct_put key next xs apart.1 distinct.1)
  where
    by_test : (b : Bool) → is_in x (put_before next key xs) ≡ false → AreDistinct (put_before next key xs) → AreDistinct (if b then key ∷ x ∷ xs else x ∷ put_before next key xs)
    by_test true alone later = (out, distinct)
    by_test false alone later = (alone, later)

pub in_put_cases : (other key : ℕ) (next : Option ℕ) (keys : List ℕ) → is_in other (put_before next key keys) ≡ true → (is_in other keys ≡ true) ⊎ (other ≡ key)
in_put_cases other key next keys there =
    elim (either (eqb other key) (is_in other keys) (sym (in_put other key next keys) ∙ there)) [
      | inl same ↦ inr (eqb-true other key same)
      | inr before ↦ inl before
    ]
