-- The message of an error.
use Rattle.std.specs.Prelude.{ℕ, List, ◌++◌, codes}
use Rattle.pool_settings.specs.Escaped.{escaped}
use Rattle.pool_settings.specs.Faults.{Fault, not_toml, unknown_key, wrong_type, out_of_range, out_of_memory}

abbrev pub text_of : Fault → List ℕ
text_of not_toml = codes "settings: not TOML"
text_of (unknown_key key) = codes "settings: unknown key " ++ escaped key
text_of (wrong_type key) = codes "settings: wrong type " ++ escaped key
text_of (out_of_range key) = codes "settings: out of range " ++ escaped key
text_of out_of_memory = codes "out of memory"
