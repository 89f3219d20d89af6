-- Which arguments ask for help, and which for the version.
use Rattle.std.specs.Prelude.{ℕ, Bool, false, not, ◌&&◌, ◌||◌, List, [], ◌∷◌, codes, bytes_eq}
use Rattle.std.specs.List.{list_any}

abbrev pub Text : Type 0
Text = List ℕ

-- a word that asks for help at any position
abbrev pub is_help_option : Text → Bool
is_help_option word = bytes_eq word (codes "--help") || bytes_eq word (codes "-h")

-- the first word is `help`, or some word is a help option
abbrev pub asks_for_help : List Text → Bool
asks_for_help [] = false
asks_for_help (command ∷ words) = bytes_eq command (codes "help") || list_any is_help_option (command ∷ words)

-- a word that asks for the version if it is the first
abbrev pub is_version_option : Text → Bool
is_version_option word = bytes_eq word (codes "--version") || bytes_eq word (codes "-V")

-- the first word is a version option, and the words do not ask for help
abbrev pub asks_for_version : List Text → Bool
asks_for_version [] = false
asks_for_version (command ∷ words) = is_version_option command && not (asks_for_help (command ∷ words))
