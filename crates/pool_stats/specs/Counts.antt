-- The counts after a base and entries, and of a whole journal.
use Rattle.std.specs.Prelude.{Bool, true, false, List, count_by}
use Rattle.pool_journal.specs.Base.{empty_base, base_after}
use Rattle.pool_journal.specs.declared.base.Base.{Base}
use Rattle.pool_journal.specs.declared.entry.Entry.{Entry}
use Rattle.pool_journal.specs.declared.record.Phase.{Phase}
use Rattle.pool_journal.specs.declared.record.Phase.TheVariants as phases
use Rattle.pool_journal.specs.Queue.{is_queued}
use Rattle.pool_stats.specs.declared.counts.Counts.{Counts}

abbrev pub is_lent : Phase → Bool
is_lent phases.Lent = true
is_lent _ = false

-- being made, activated, returned or destroyed
abbrev pub is_reserved : Phase → Bool
is_reserved phases.Readying = true
is_reserved phases.Adding = true
is_reserved phases.Returning = true
is_reserved phases.Destroying = true
is_reserved _ = false

-- the counts of a base: of all entries before the segment
abbrev pub counts_at : Base → Counts
counts_at b =
    record {
      steps = b.first;
      idle = count_by (λ r. is_queued r.phase) b.records;
      lent = count_by (λ r. is_lent r.phase) b.records;
      reserved = count_by (λ r. is_reserved r.phase) b.records;
      created = b.drawn;
      destroyed = b.destroyed;
      evicted = b.evicted;
      reclaimed = b.reclaimed;
    }

-- the counts after the entries J, which continue the base b
abbrev pub counts_from : Base → List Entry → Counts
counts_from b J = counts_at (base_after b J)

-- the counts of a whole journal
abbrev pub counts_of : List Entry → Counts
counts_of J = counts_from empty_base J
