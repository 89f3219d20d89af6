-- The values that a key can have.
use Rattle.std.specs.Prelude.{ℕ, ℤ, Bool, ◌&&◌, if◌then◌else◌, int_le, List, Result, Ok, Err}
use Rattle.toml.specs.Data.{Data, integer, boolean}
use Rattle.pool_settings.specs.Faults.{Fault, wrong_type, out_of_range}

-- a boolean
abbrev pub flag_in : List ℕ → Data → Result Bool Fault
flag_in key (boolean flag) = Ok flag
flag_in key _ = Err (wrong_type key)

-- a number from `least` to `greatest`
abbrev pub number_in : List ℕ → ℤ → ℤ → Data → Result ℤ Fault
number_in key least greatest (integer number) =
    if int_le least number && int_le number greatest then Ok number else Err (out_of_range key)
number_in key least greatest _ = Err (wrong_type key)
