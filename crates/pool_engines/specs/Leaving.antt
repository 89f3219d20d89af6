-- How far a reader is read.
use Rattle.std.specs.Prelude.{◌≡◌, ℕ, ◌+◌, ◌*◌, ◌≤◌, Bool, true, List, ◌++◌, length, Contains, Option}
use Rattle.std.specs.Io.KnownBytes.{Consumes}
use Rattle.pool_journal.specs.Appending.{longest_line}
use Rattle.pool_journal.specs.Text.{line_feed}

-- the most bytes that are read ahead of the handled ones
abbrev pub read_ahead : ℕ
read_ahead = 65536

-- the most bytes that this number of lines and one more can have
abbrev pub most_bytes : ℕ → ℕ
most_bytes lines = longest_line * (lines + 1)

-- the known bytes lost those of the handled lines, and after them the bytes read ahead; all of these are at most a given number;
-- if the reader failed, those read ahead contain no line feed
abbrev pub ReadsAheadAtMost : ℕ → Bool → Option (List ℕ) → Option (List ℕ) → List ℕ → Type 0
ReadsAheadAtMost most failed known left handled =
    (ahead : List ℕ) × Consumes known left (handled ++ ahead) × (length ahead ≤ read_ahead) × (failed ≡ true → ¬ Contains ahead line_feed)
    × (length handled + length ahead ≤ most)
