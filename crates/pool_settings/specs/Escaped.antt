-- A text as it is printed on one line.
use Rattle.std.specs.Prelude.{◌≡◌, ℕ, Bool, false, ◌&&◌, ◌||◌, ◌==◌, nat_lt, if◌then◌else◌, List, [], ◌∷◌, chars, encode_utf8}
use Rattle.std.specs.List.{flat_map}
use Rattle.std.specs.Char.{is_control}
use Rattle.toml_writer.specs.Text.{escape_text}
use Rattle.pool_settings.specs.declared.escaped.Escaped.{Escaped}

-- The bytes begin with the second one of U+0080 to U+009F.
abbrev pub begins_late : List ℕ → Bool
begins_late [] = false
begins_late (byte ∷ bytes) = nat_lt 127 byte && nat_lt byte 160

-- The text has a control character: U+0000 to U+001F and U+007F are one byte, U+0080 to U+009F two, of which the first is 194.
abbrev pub has_control : List ℕ → Bool
has_control [] = false
has_control (byte ∷ bytes) = (nat_lt byte 32 || byte == 127) || (byte == 194 && begins_late bytes) || has_control bytes

-- a control character, or the backslash that each escape begins with
abbrev pub needs_escape : ℕ → Bool
needs_escape c = is_control c || c == 92

-- the character as it is written in a basic string of TOML
abbrev pub escape : ℕ → List ℕ
escape c = if needs_escape c then escape_text c else encode_utf8 c

-- The text with each of its control characters and backslashes escaped; unchanged if it has no control character.
abbrev pub escaped : List ℕ → List ℕ
escaped text = if has_control text then flat_map escape (chars text) else text

-- the bytes that are printed for a text
abbrev pub shown : Escaped → List ℕ
shown e = escaped e.text.now

-- The text has no control character, and so no line feed.
abbrev pub IsOnOneLine : List ℕ → Type 0
IsOnOneLine text = has_control text ≡ false
