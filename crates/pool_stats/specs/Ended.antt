-- The numbers of objects that were destroyed, evicted and reclaimed in a journal.
use Rattle.std.specs.Prelude.{ℕ, ◌+◌, ◌<◌, ◌^◌, Bool, if◌then◌else◌, List}
use Rattle.pool_journal.specs.declared.entry.Entry.{Entry}
use Rattle.pool_journal.specs.declared.input.Input.{Input}
use Rattle.pool_journal.specs.declared.answer.Answer.{Answer}
use Rattle.pool_stats.specs.Answers.{count_answers, count_entries}
use Rattle.pool_journal.specs.Totals.{is_freed, is_reclaimed, is_evicting}
use Rattle.pool_stats.specs.declared.ended.RemovalTotals.{RemovalTotals}

-- the number of entries of each kind
abbrev pub ended_of : List Entry → RemovalTotals
ended_of J =
    record {
      destroyed = count_answers is_freed J;
      evicted = count_entries is_evicting J;
      reclaimed = count_answers is_reclaimed J;
    }

-- the number, plus one if the test holds
abbrev pub one_more_if : Bool → ℕ → ℕ
one_more_if b n = n + (if b then 1 else 0)

-- the numbers after one more entry, with this answer and input
abbrev pub ended_after : Answer → Input → RemovalTotals → RemovalTotals
ended_after answer input n =
    record {
      destroyed = one_more_if (is_freed answer) n.destroyed;
      evicted = one_more_if (is_evicting answer input) n.evicted;
      reclaimed = one_more_if (is_reclaimed answer) n.reclaimed;
    }

-- each of the numbers may grow by one
pub record MayGrow (n : RemovalTotals) : Type 0 where
  pub destroyed : n.destroyed + 1 < 2 ^ 64
  pub evicted : n.evicted + 1 < 2 ^ 64
  pub reclaimed : n.reclaimed + 1 < 2 ^ 64
