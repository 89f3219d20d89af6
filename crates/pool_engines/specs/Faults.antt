-- An error is recorded where it occurred, and nowhere else.
use Rattle.std.specs.Prelude.{◌≡◌, Bool, true, false, Result, Ok, Err}
use Rattle.pool_engines.specs.declared.engine_fault.EngineFault.{EngineFault}
use Rattle.pool_engines.specs.declared.engine_fault.EngineFault.TheVariants.{Line, Full, OutOfMemory, Read, Write}

-- whether something has failed: it has if that is reported, otherwise this is unchanged
abbrev pub IsReported : Bool → Bool → Bool → Type 0
IsReported true before after = after ≡ true
IsReported false before after = after ≡ before

-- did the reader fail?
abbrev pub is_read_failure : {A : Type 0} → Result A EngineFault → Bool
is_read_failure (Ok x) = false
is_read_failure (Err (Line number fault)) = false
is_read_failure (Err (Full number)) = false
is_read_failure (Err OutOfMemory) = false
is_read_failure (Err Read) = true
is_read_failure (Err Write) = false

-- did the writer fail?
abbrev pub is_write_failure : {A : Type 0} → Result A EngineFault → Bool
is_write_failure (Ok x) = false
is_write_failure (Err (Line number fault)) = false
is_write_failure (Err (Full number)) = false
is_write_failure (Err OutOfMemory) = false
is_write_failure (Err Read) = false
is_write_failure (Err Write) = true
