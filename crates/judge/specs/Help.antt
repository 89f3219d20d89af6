-- Which word asks for help, and which for the version, if it is the only one.
use Rattle.std.specs.Prelude.{ℕ, Bool, ◌||◌, List, codes, bytes_eq}

abbrev pub asks_for_help : List ℕ → Bool
asks_for_help word = bytes_eq word (codes "--help") || bytes_eq word (codes "-h")

abbrev pub asks_for_version : List ℕ → Bool
asks_for_version word = bytes_eq word (codes "--version") || bytes_eq word (codes "-V")
