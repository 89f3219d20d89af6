-- The lines of a load.
use Rattle.std.specs.Prelude.{ℕ, List, ◌++◌, Option, Result, Ok, Err, codes}
use Rattle.std.specs.Io.KnownBytes.{Appends, Keeps}
use Rattle.pool_stats.specs.declared.statistics.Statistics.{Statistics}
use Rattle.pool_engines.specs.Handing.{AppendsFront}
use Rattle.pool_engines.specs.StatisticsLines.{number_line, statistics_text}
use Rattle.pool_engines.specs.declared.engine_fault.EngineFault.{EngineFault}
use Rattle.pool_engines.specs.declared.engine_fault.EngineFault.TheVariants.{OutOfMemory, Write}

-- the numbers of a load, and its statistics
abbrev pub report_text : ℕ → ℕ → ℕ → Statistics → List ℕ
report_text workers rounds refused stats =
    number_line (codes "workers") workers ++ number_line (codes "rounds") rounds ++ number_line (codes "refused") refused
    ++ statistics_text stats

-- the writer got the lines, or if it failed a prefix of them; if an allocation failed it got nothing
abbrev pub HandsReport : List ℕ → Option (List ℕ) → Option (List ℕ) → Result (Unit {0}) EngineFault → Type 0
HandsReport lines held written (Ok u) = Appends held written lines
HandsReport lines held written (Err Write) = AppendsFront held written lines
HandsReport lines held written (Err OutOfMemory) = Keeps held written
HandsReport lines held written (Err _) = ⊥
