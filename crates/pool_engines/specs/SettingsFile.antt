-- The result of reading a settings file.
use Rattle.std.specs.Prelude.{⊤, ℕ, Bool, true, false, ◌<◌, ◌≤◌, List, length, Option, Result, Ok, Err, IsUtf8}
use Rattle.std.specs.Io.KnownBytes.{Consumes}
use Rattle.pool_settings.specs.Answer.{IsAnswer}
use Rattle.pool_settings.specs.declared.settings.Settings.{Settings}
use Rattle.pool_engines.specs.declared.file_fault.FileFault.{FileFault}
use Rattle.pool_engines.specs.declared.file_fault.FileFault.TheVariants.{Read, OutOfMemory, TooLong, NotUtf8, Text}

-- known bytes lose at most this many, from their start
abbrev pub TakesAtMost : ℕ → Option (List ℕ) → Option (List ℕ) → Type 0
TakesAtMost most known left = (front : List ℕ) × Consumes known left front × (length front ≤ most)

-- is the result that the file couldn't be read?
abbrev pub is_unread : Result Settings FileFault → Bool
is_unread (Ok settings) = false
is_unread (Err Read) = true
is_unread (Err OutOfMemory) = false
is_unread (Err TooLong) = false
is_unread (Err NotUtf8) = false
is_unread (Err (Text fault)) = false

-- the bytes are a text, and no longer than a settings file may be
abbrev pub IsText : List ℕ → Type 0
IsText bytes = (length bytes ≤ 1048576) × IsUtf8 bytes

-- the result for all the bytes of a file
abbrev pub IsJudged : List ℕ → Result Settings FileFault → Type 0
IsJudged bytes (Ok settings) = IsText bytes × IsAnswer bytes (Ok settings)
IsJudged bytes (Err (Text fault)) = IsText bytes × IsAnswer bytes (Err fault)
IsJudged bytes (Err NotUtf8) = (length bytes ≤ 1048576) × (¬ (IsUtf8 bytes))
IsJudged bytes (Err TooLong) = 1048576 < length bytes
IsJudged bytes (Err _) = ⊥

-- the result for the bytes of a file, unless they couldn't be read
abbrev pub IsAnswered : List ℕ → Result Settings FileFault → Type 0
IsAnswered bytes (Err Read) = ⊤
IsAnswered bytes (Err OutOfMemory) = ⊤
IsAnswered bytes result = IsJudged bytes result
