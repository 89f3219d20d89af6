-- A word of digits, and the number that it spells.
use Rattle.std.proofs.Common.{◌≡◌, ℕ, ◌^◌, ◌<◌, ◌≤◌, true, ◌&&◌, List, length, Result, Ok, Err, OkIff, refl, arith, rules}
use Rattle.std.specs.Prelude.{not, nat_lt, ◌==◌, slice_index}
use Rattle.std.specs.Char.{is_ascii_digit}
use Rattle.std.specs.List.{list_all}
use Rattle.std.specs.Result.{result_ok}
use Rattle.std.specs.Str.Parse.{digits_value, ParsesUnsigned}
use Rattle.std.proofs.lemmas.Bool.{and_parts, ltb-true, lt-ltb, le-ltb}
use Rattle.std.proofs.lemmas.Str.Parse.{IsNumeralModel, numerals_by_value, parse_digits}
use Rattle.pool_cli.specs.Arguments.{is_decimal, number_below}

own : IsNumeralModel (λ ds. list_all is_ascii_digit ds ≡ true) (digits_value 10)
own = numerals_by_value _ (search rules)

one_or_more : (word : List ℕ) → is_decimal word ≡ true → 0 < length word
one_or_more word e =
    let parts = and_parts (nat_lt 0 (length word) && not (nat_lt 1 (length word) && (slice_index word 0 == 48))) (list_all is_ascii_digit word) e in
    ltb-true _ _ (and_parts (nat_lt 0 (length word)) _ parts.0).0

all_digits : (word : List ℕ) → is_decimal word ≡ true → list_all is_ascii_digit word ≡ true
all_digits word e = (and_parts (nat_lt 0 (length word) && not (nat_lt 1 (length word) && (slice_index word 0 == 48))) (list_all is_ascii_digit word) e).1

reported : {E : Type 0} (word : List ℕ) (r : Result ℕ E) → is_decimal word ≡ true → OkIff r ((0 < length word) × (digits_value 10 word < 2 ^ 64)) (digits_value 10 word)
    → result_ok r ≡ number_below (2 ^ 64) word
reported word (Ok x) decimal h = rw (decimal, lt-ltb (digits_value 10 word) (2 ^ 64) h.0.1, h.1) refl
reported word (Err e) decimal h =
    let few : digits_value 10 word < 2 ^ 64 → ⊥ = λ fits. h (one_or_more word decimal, fits) in
    let most : 2 ^ 64 ≤ digits_value 10 word = omega (arith, few) in
    rw (decimal, le-ltb (digits_value 10 word) (2 ^ 64) most) refl

-- the result of parsing a word of digits
pub number_parsed : {E : Type 0} (word : List ℕ) (r : Result ℕ E) → is_decimal word ≡ true → ParsesUnsigned 64 10 word r → result_ok r ≡ number_below (2 ^ 64) word
number_parsed word r decimal h = reported word r decimal (parse_digits own 64 word r h (all_digits word decimal))
