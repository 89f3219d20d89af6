-- Texts with their control characters escaped.
use Rattle.std.proofs.Common.{◌≡◌, ℕ, ◌≤◌, false, ◌==◌, ◌||◌, nat_lt, List, [], ◌∷◌, ◌++◌, chars, refl, inl, inr, arith}
use Rattle.std.proofs.lemmas.Bool.{cases_Bool, or_parts}
use Rattle.std.proofs.lemmas.Bool.Decides.{nat_tests}
use Rattle.std.specs.List.{flat_map}
use Rattle.std.specs.Char.{encode_utf8, is_control}
use Rattle.toml_writer.specs.Text.{escape_letter}
use Rattle.pool_settings.specs.Escaped.{has_control, needs_escape, escape, escaped, IsOnOneLine}

-- a byte that is at least 128, and not 194
late : (b : ℕ) (rest : List ℕ) → 128 ≤ b → (b == 194) ≡ false → has_control (b ∷ rest) ≡ has_control rest
late b rest h other = grind (arith, nat_tests)

-- a character before a text
pub has_control_step : (c : ℕ) (rest : List ℕ) → has_control (encode_utf8 c ++ rest) ≡ (is_control c || has_control rest)
unfolding encode_utf8
has_control_step c rest =
    elim (cases_Bool (nat_lt c 128)) [
      | inl one ↦ rw one (grind (arith, nat_tests))
      | inr more ↦ elim (cases_Bool (nat_lt c 2048)) [
        | inl two ↦ rw (more, two) (grind (arith, nat_tests))
        | inr more2 ↦ elim (cases_Bool (nat_lt c 65536)) [
          | inl three ↦ rw (more, more2, three) (grind (arith, nat_tests))
          | inr four ↦ rw (more, more2, four) (grind (arith, nat_tests))
        ]
      ]
    ]

-- the text printed for a character has no control character
pub escape_clean : (c : ℕ) (rest : List ℕ) → has_control (escape c ++ rest) ≡ has_control rest
escape_clean c rest =
    elim (cases_Bool (needs_escape c)) [
      | inl needed ↦ elim (cases_Bool (escape_letter c == 0)) [
        | inl none ↦ rw (needed, none) (grind (arith, nat_tests))
        | inr letter ↦ rw (needed, letter) (grind (arith, nat_tests))
      ]
      | inr plain ↦ rw (plain, has_control_step c rest, (or_parts (is_control c) (c == 92) plain).0) refl
    ]

all_clean : (cs : List ℕ) → has_control (flat_map escape cs) ≡ false
all_clean [] = refl
all_clean (c ∷ cs) = rw (escape_clean c (flat_map escape cs), all_clean cs) refl

-- a text is printed on one line
pub escaped_on_one_line : (s : List ℕ) → IsOnOneLine (escaped s)
escaped_on_one_line s =
    elim (cases_Bool (has_control s)) [
      | inl some ↦ rw some (all_clean (chars s))
      | inr none ↦ rw none none
    ]
