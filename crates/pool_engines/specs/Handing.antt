-- What a writer got of the bytes to write.
use Rattle.std.specs.Prelude.{◌≡◌, ℕ, ◌+◌, ◌≤◌, List, ◌++◌, Option, Result, Ok, Err, Vec, vec_len, vec_capacity}
use Rattle.std.specs.Io.KnownBytes.{Appends}
use Rattle.pool_journal.specs.Appending.{longest_line}
use Rattle.pool_engines.specs.declared.engine_fault.EngineFault.{EngineFault}
use Rattle.pool_engines.specs.declared.engine_fault.EngineFault.TheVariants.{Line, Full, OutOfMemory, Read, Write}

-- the capacity of the output buffer, in bytes
abbrev pub buffer_room : ℕ
buffer_room = 65536

-- there is room for a line after the buffered output
abbrev pub HasRoom : {Z : Type 0} → Vec ℕ Z → Type 0
HasRoom buffered = vec_len buffered + longest_line ≤ vec_capacity buffered

-- a prefix of the bytes is appended to known bytes
abbrev pub AppendsFront : Option (List ℕ) → Option (List ℕ) → List ℕ → Type 0
AppendsFront held written bytes = (front : List ℕ) × (rest : List ℕ) × (bytes ≡ front ++ rest) × Appends held written front

-- the writer got the bytes, or if it failed a prefix of them
abbrev pub Writes : {A : Type 0} → Result A EngineFault → Option (List ℕ) → Option (List ℕ) → List ℕ → Type 0
Writes (Ok x) held written bytes = Appends held written bytes
Writes (Err (Line number fault)) held written bytes = Appends held written bytes
Writes (Err (Full number)) held written bytes = Appends held written bytes
Writes (Err OutOfMemory) held written bytes = Appends held written bytes
Writes (Err Read) held written bytes = Appends held written bytes
Writes (Err Write) held written bytes = AppendsFront held written bytes
