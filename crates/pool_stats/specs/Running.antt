-- The tally of entries that are taken one by one.
use Rattle.std.specs.Prelude.{◌≡◌, ℕ, List, length, Option}
use Rattle.std.specs.BTreeMap.{is_at}
use Rattle.std.specs.Map.{lookup}
use Rattle.std.specs.Ordering.{nat_cmp}
use Rattle.pool_journal.specs.declared.entry.Entry.{Entry}
use Rattle.pool_stats.specs.Lendings.{begun, times}
use Rattle.pool_stats.specs.Statistics.{bounded_sum, greatest, statistics_of}
use Rattle.pool_stats.specs.Tallied.{tally_of}
use Rattle.pool_stats.specs.declared.statistics.Statistics.{Statistics}
use Rattle.pool_stats.specs.declared.tally.Tally.{Tally}

-- the number of entries taken, their statistics, and for each object that was lent the time at which its last loan began
pub record RunningTallyModel : Type 0 where
  pub taken : ℕ
  pub statistics : Statistics
  pub begun : List (ℕ × ℕ)

-- the time at which the last loan of i began
abbrev pub moment_of : List (ℕ × ℕ) → ℕ → Option ℕ
moment_of moments i = lookup (is_at (nat_cmp i)) moments

-- t is the tally of the entries J
pub record IsTallyOf (t : RunningTallyModel) (J : List Entry) : Type 0 where
  pub counted : t.taken ≡ length J
  pub reported : t.statistics ≡ statistics_of J
  pub moments : (i : ℕ) → moment_of t.begun i ≡ begun i J

-- the statistics with these numbers
abbrev pub statistics_with : Tally → ℕ → ℕ → Statistics
statistics_with n longest total =
    record {
      borrowed = n.borrowed;
      returned = n.returned;
      created = n.created;
      destroyed = n.ended.destroyed;
      evicted = n.ended.evicted;
      borrow_test_failed = n.borrow_test_failed;
      reclaimed = n.ended.reclaimed;
      longest = longest;
      total = total;
    }

-- the results of a walk over the entries J: the times at which loans began, the longest duration and the sum
pub record Walked (J : List Entry) (moments : ℕ → Option ℕ) (longest total : ℕ) : Type 0 where
  pub begun_is : (i : ℕ) → moments i ≡ begun i J
  pub longest_is : longest ≡ greatest (times J)
  pub total_is : total ≡ bounded_sum (times J)

-- some list of entries has this tally
pub record IsSomeTally (taken : ℕ) (tally : Tally) (moments : ℕ → Option ℕ) (longest total : ℕ) : Type 0 where
  pub entries : List Entry
  pub counted : taken ≡ length entries
  pub tallied : tally ≡ tally_of entries
  pub walked : Walked entries moments longest total
