-- The statistics of the use of a pool, from a list of entries.
use Rattle.std.specs.Prelude.{ℕ, ◌-◌, ◌^◌, List, fold, sum, max, min}
use Rattle.pool_journal.specs.Entries.{is_lent_answer}
use Rattle.pool_journal.specs.Journal.{drawn}
use Rattle.pool_journal.specs.declared.entry.Entry.{Entry}
use Rattle.pool_stats.specs.Answers.{is_check, is_failing, count_answers, count_entries}
use Rattle.pool_journal.specs.Totals.{is_freed, is_reclaimed, is_evicting}
use Rattle.pool_stats.specs.Lendings.{times}
use Rattle.pool_stats.specs.declared.statistics.Statistics.{Statistics}

-- the greatest number, and 0 if there is none
abbrev pub greatest : List ℕ → ℕ
greatest ns = fold max 0 ns

-- the sum of the numbers, or the greatest number of 64 bits if the sum is greater
abbrev pub bounded_sum : List ℕ → ℕ
bounded_sum ns = min (sum ns) (2 ^ 64 - 1)

abbrev pub statistics_of : List Entry → Statistics
statistics_of J =
    record {
      borrowed = count_answers is_lent_answer J;
      returned = count_answers is_check J;
      created = drawn J;
      destroyed = count_answers is_freed J;
      evicted = count_entries is_evicting J;
      borrow_test_failed = count_entries is_failing J;
      reclaimed = count_answers is_reclaimed J;
      longest = greatest (times J);
      total = bounded_sum (times J);
    }
