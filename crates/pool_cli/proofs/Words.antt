-- How clap's lexer reads a word.
use Rattle.std.proofs.Common.{◌≡◌, ◌∙◌, ℕ, Bool, true, false, refl, sym, ap, subst, arith, [], ◌∷◌, length, Option, Some, None, inl, inr, true≢false, lt-ltb}
use Rattle.std.specs.Prelude.{◌⊎◌, ◌==◌, codes, nat_lt, slice_get}
use Rattle.std.specs.Str.{IsUtf8, bytes_eq, chars, encode_utf8_all}
use Rattle.std.proofs.Math.Utf8.{encode}
use Rattle.std.proofs.lemmas.Str.{encodes-chars}
use Rattle.std.proofs.lemmas.Bool.Decides.{Decides-eqb}
use Rattle.clap.specs.Lexer.{long_of, name_and_value, short_of}
use Rattle.pool_cli.specs.Arguments.{Text, is_option}

abbrev is_single : Text → Bool
is_single (x ∷ []) = true
is_single _ = false

-- a text has a character after its hyphen
pub first_char : (y : ℕ) (ys : Text) → IsUtf8 (45 ∷ y ∷ ys) → (x : ℕ) × (slice_get (chars (y ∷ ys)) 0 ≡ Some x)
unfolding chars encode
first_char y ys u = go (chars (y ∷ ys)) refl
  where
    go : (cs : Text) → chars (y ∷ ys) ≡ cs → (x : ℕ) × (slice_get (chars (y ∷ ys)) 0 ≡ Some x)
    go [] e =
        let whole : encode_utf8_all (45 ∷ chars (y ∷ ys)) ≡ 45 ∷ y ∷ ys = encodes-chars (45 ∷ y ∷ ys) u in
        let none : 45 ∷ [] ≡ 45 ∷ y ∷ ys = sym (ap (λ cs. encode_utf8_all (45 ∷ cs)) e) ∙ whole in
        absurd (true≢false (ap is_single none))
    go (x ∷ xs) e = (x, ap (λ cs. slice_get cs 0) e)

-- the word is a long option, or a bundle of short ones
pub record IsLong (word : Text) : Type 0 where
  pub name : Text
  pub given : Option Text
  pub is : long_of word ≡ Some (name, given)

pub record IsShort (word : Text) : Type 0 where
  pub first : ℕ
  pub y : ℕ
  pub ys : Text
  pub no_long : long_of word ≡ None
  pub is : short_of word ≡ Some (y ∷ ys)
  pub char : slice_get (chars (y ∷ ys)) 0 ≡ Some first

at_hyphen : (x y : ℕ) (ys : Text) (b : Bool) → (x == 45) ≡ b → is_option (x ∷ y ∷ ys) ≡ b
at_hyphen x y ys b e =
    let more : nat_lt 1 (length (x ∷ y ∷ ys)) ≡ true = lt-ltb 1 (length (x ∷ y ∷ ys)) (omega arith) in
    rw (more, e) refl

long_word : (x y : ℕ) (ys : Text) → (x == 45) ≡ true → (y == 45) ≡ true → bytes_eq (x ∷ y ∷ ys) (codes "--") ≡ false → IsLong (x ∷ y ∷ ys)
long_word x y [] ex ey e = absurd (true≢false (sym (dashes x y ex ey) ∙ e))
  where
    dashes : (x y : ℕ) → (x == 45) ≡ true → (y == 45) ≡ true → bytes_eq (x ∷ y ∷ []) (codes "--") ≡ true
    dashes x y ex ey = rw (ex, ey) refl
long_word x y (z ∷ zs) ex ey e = record { name = (name_and_value (z ∷ zs)).0; given = (name_and_value (z ∷ zs)).1; is = rw (ex, ey) refl }

short_word : (x y : ℕ) (ys : Text) → (x == 45) ≡ true → (y == 45) ≡ false → IsUtf8 (x ∷ y ∷ ys) → IsShort (x ∷ y ∷ ys)
short_word x y ys ex ey u =
    let hyphen : x ≡ 45 = (Decides-eqb x 45).0 ex in
    let char = first_char y ys (subst (λ b. IsUtf8 (b ∷ y ∷ ys)) hyphen u) in
    record { first = char.0; y = y; ys = ys; no_long = rw (ex, ey) refl; is = rw (ex, ey) refl; char = char.1 }

pub option_word : (word : Text) → IsUtf8 word → bytes_eq word (codes "--") ≡ false → is_option word ≡ true → IsLong word ⊎ IsShort word
option_word [] u e o = absurd (true≢false (sym o))
option_word (x ∷ []) u e o = absurd (true≢false (sym o))
option_word (x ∷ y ∷ ys) u e o = first (x == 45) refl
  where
    second : (b : Bool) → (x == 45) ≡ true → (y == 45) ≡ b → IsLong (x ∷ y ∷ ys) ⊎ IsShort (x ∷ y ∷ ys)
    second true ex ey = inl (long_word x y ys ex ey e)
    second false ex ey = inr (short_word x y ys ex ey u)

    first : (b : Bool) → (x == 45) ≡ b → IsLong (x ∷ y ∷ ys) ⊎ IsShort (x ∷ y ∷ ys)
    first true ex = second (y == 45) ex refl
    first false ex = absurd (true≢false (sym o ∙ at_hyphen x y ys false ex))

-- the word is neither of them
pub plain_word : (word : Text) → is_option word ≡ false → (long_of word ≡ None) × (short_of word ≡ None)
plain_word [] o = (refl, refl)
plain_word (x ∷ []) o = single (x == 45) refl
  where
    single : (b : Bool) → (x == 45) ≡ b → (long_of (x ∷ []) ≡ None) × (short_of (x ∷ []) ≡ None)
    single true e = (rw e refl, rw e refl)
    single false e = (rw e refl, rw e refl)
plain_word (x ∷ y ∷ ys) o = go (x == 45) refl
  where
    go : (b : Bool) → (x == 45) ≡ b → (long_of (x ∷ y ∷ ys) ≡ None) × (short_of (x ∷ y ∷ ys) ≡ None)
    go true e = absurd (true≢false (sym (at_hyphen x y ys true e) ∙ o))
    go false e = (rw e refl, rw e refl)
