-- The lines of statistics.
use Rattle.std.specs.Prelude.{ℕ, List, [], ◌∷◌, ◌++◌, Option, Some, None, codes, decimal}
use Rattle.pool_journal.specs.Text.{text_of}
use Rattle.pool_stats.specs.declared.statistics.Statistics.{Statistics}

-- a name and its number
abbrev pub number_line : List ℕ → ℕ → List ℕ
number_line name number = text_of (name ∷ decimal number ∷ [])

unfoldable pub statistics_text : Statistics → List ℕ
statistics_text s =
    number_line (codes "borrowed") s.borrowed
    ++ number_line (codes "returned") s.returned
    ++ number_line (codes "created") s.created
    ++ number_line (codes "destroyed") s.destroyed
    ++ number_line (codes "evicted") s.evicted
    ++ number_line (codes "borrowtestfailed") s.borrow_test_failed
    ++ number_line (codes "reclaimed") s.reclaimed
    ++ number_line (codes "longest") s.longest
    ++ number_line (codes "total") s.total

-- the lines, if there are statistics
abbrev pub statistics_lines : Option Statistics → List ℕ
statistics_lines None = []
statistics_lines (Some s) = statistics_text s
