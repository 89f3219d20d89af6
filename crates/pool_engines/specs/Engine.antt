-- What an engine does with the lines of a stream.
use Rattle.std.specs.Prelude.{◌≡◌, ⊤, ℕ, ◌<◌, ◌≤◌, List, ◌++◌, length, take, Option, Result, Ok, Err, IfSome}
use Rattle.std.specs.Io.KnownBytes.{Appends}
use Rattle.pool_journal.specs.Appending.{longest_line}
use Rattle.pool_engines.specs.Faults.{is_read_failure}
use Rattle.pool_engines.specs.Files.{IsPartial}
use Rattle.pool_engines.specs.Handing.{AppendsFront}
use Rattle.pool_engines.specs.Leaving.{ReadsAheadAtMost}
use Rattle.pool_engines.specs.declared.engine_fault.EngineFault.{EngineFault}
use Rattle.pool_engines.specs.declared.engine_fault.EngineFault.TheVariants.{Line, Full, OutOfMemory, Read, Write}
use Rattle.pool_engines.specs.declared.line_progress.LineProgress.{LineProgress}
use Rattle.pool_engines.specs.declared.line_progress.LineProgress.TheVariants.{Consumed, Incomplete, Finished}

-- an error of the reader or the writer
abbrev pub IsFromOutside : EngineFault → Type 0
IsFromOutside (Line number fault) = ⊥
IsFromOutside (Full number) = ⊥
IsFromOutside OutOfMemory = ⊥
IsFromOutside Read = ⊤
IsFromOutside Write = ⊤

-- an error that neither the reader nor the writer causes
abbrev pub IsOwnFault : EngineFault → Type 0
IsOwnFault (Line number fault) = ⊤
IsOwnFault (Full number) = ⊤
IsOwnFault OutOfMemory = ⊤
IsOwnFault Read = ⊥
IsOwnFault Write = ⊥

-- a line that is taken leaves fewer to be taken
abbrev pub TakesOne : {E : Type 0} → (E → ℕ) → Result LineProgress EngineFault → E → E → Type 0
TakesOne lines_left (Ok (Consumed count)) old new = lines_left new < lines_left old
TakesOne lines_left (Ok Incomplete) old new = lines_left new ≡ lines_left old
TakesOne lines_left (Ok Finished) old new = ⊤
TakesOne lines_left (Err fault) old new = ⊤

-- the bytes begin with a line of this length, line feed included
abbrev pub IsLine : ℕ → List ℕ → Type 0
IsLine count bytes = (0 < count) × (count ≤ length bytes) × (count ≤ longest_line)

-- Definitions for an engine of the type E: its fixed parameters, such as its settings, the bytes of the lines that it took, its
-- output for them, whether it can continue, which bytes contain no whole line, and what holds if it ends before the rest of a
-- stream.
module _ {E F : Type 0} (settings : E → F) (taken reported : E → List ℕ) (active : E → Type 0) (is_partial : List ℕ → Type 0) (ends : E → List ℕ → Result (Unit {0}) EngineFault → Type 0) where
  -- the engine's output is appended to what was buffered, and its parameters are unchanged
  abbrev pub AppendsOutput : E → E → List ℕ → List ℕ → Type 0
  AppendsOutput old new before after = (words : List ℕ) × (after ≡ before ++ words) × (reported new ≡ reported old ++ words) × (settings new ≡ settings old)

  -- one turn of the engine, before these bytes
  abbrev pub HandlesLine : Result LineProgress EngineFault → E → E → List ℕ → List ℕ → List ℕ → Type 0
  HandlesLine (Ok (Consumed count)) old new bytes before after = active new × IsLine count bytes × (taken new ≡ taken old ++ take count bytes) × AppendsOutput old new before after
  HandlesLine (Ok Incomplete) old new bytes before after = (new ≡ old) × (after ≡ before) × IsPartial bytes × is_partial bytes
  HandlesLine (Ok Finished) old new bytes before after = (taken new ≡ taken old) × AppendsOutput old new before after × ((more : List ℕ) → ends new (bytes ++ more) (Ok tt))
  HandlesLine (Err fault) old new bytes before after = (taken new ≡ taken old) × AppendsOutput old new before after × ((more : List ℕ) → ends new (bytes ++ more) (Err fault))

  -- the end of the stream, before which no whole line is left
  abbrev pub EndsStream : Result (Unit {0}) EngineFault → E → E → List ℕ → List ℕ → List ℕ → Type 0
  EndsStream result old new rest before after = (taken new ≡ taken old) × AppendsOutput old new before after × ends new rest result

  -- the output was written, except for what is still buffered, or, if the writer failed, a prefix of it
  abbrev pub WritesOutput : Result (Unit {0}) EngineFault → E → Option (List ℕ) → Option (List ℕ) → List ℕ → Type 0
  WritesOutput (Err Write) engine held written buffered = AppendsFront held written (reported engine)
  WritesOutput _ engine held written buffered = (sent : List ℕ) × (reported engine ≡ sent ++ buffered) × Appends held written sent

  -- the engine has finished with a stream, of which it read at most this number of bytes
  pub record Passes (most : ℕ) (result : Result (Unit {0}) EngineFault) (begun engine : E) (known left held written : Option (List ℕ)) (buffered : List ℕ) : Type 0 where
    pub rest : List ℕ
    pub same : settings engine ≡ settings begun
    pub stream : IfSome known (λ bytes. bytes ≡ taken engine ++ rest)
    pub leaves : ReadsAheadAtMost most (is_read_failure result) known left (taken engine)
    pub ended : ends engine rest result
    pub gave : WritesOutput result engine held written buffered

-- An engine of the type A together with what it took, of the type P, is one of the type E. This holds for something that it
-- took.
abbrev pub HasConsumed : {A P E : Type 0} → (A → P → E) → (A → P → Type 0) → A → (E → Type 0) → Type 0
HasConsumed {P} with_past keeps engine Is = (past : P) × keeps engine past × Is (with_past engine past)

-- after whatever it had taken, if it could continue, it has taken something that is in this relation to that
abbrev pub Moves : {A P E : Type 0} → (A → P → E) → (A → P → Type 0) → (E → Type 0) → (E → E → Type 0) → A → A → Type 0
Moves {P} with_past keeps active Did old new = (past : P) → keeps old past → active (with_past old past) → HasConsumed with_past keeps new (Did (with_past old past))
