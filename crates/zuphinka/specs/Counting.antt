-- The counts, as C reads them.
use Rattle.std.specs.Prelude.{◌≡◌, ℕ, ◌+◌, length}
use Rattle.pool_stats.specs.declared.counts.Counts.{Counts}
use Rattle.pool_core.specs.Laws.{AddsUp, IsWithinOr}
use Rattle.pool_stats.specs.Counts.{counts_from}
use Rattle.pool_core.specs.Pool.{CoreModel}
use Rattle.zuphinka.specs.declared.tally.Tally.{Tally}

abbrev pub tally_of : Counts → Tally
tally_of c =
    record {
      steps = c.steps;
      idle = c.idle;
      lent = c.lent;
      reserved = c.reserved;
      created = c.created;
      destroyed = c.destroyed;
      evicted = c.evicted;
      reclaimed = c.reclaimed;
    }

-- the counts after all entries; the number of present objects is within the limit of the settings, or at most that of the base,
-- and none that was made is lost
pub record ReportsCounts (pool : CoreModel ℕ) (reported : Tally) : Type 0 where
  pub counts : reported ≡ tally_of (counts_from pool.base pool.journal)
  pub within : IsWithinOr pool.settings.max_total (length pool.base.records) (reported.idle + reported.lent + reported.reserved)
  pub adds_up : AddsUp (counts_from pool.base pool.journal)
