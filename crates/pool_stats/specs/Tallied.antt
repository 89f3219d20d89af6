-- The number of entries of each kind that is counted, in a list.
use Rattle.std.specs.Prelude.{◌+◌, ◌<◌, ◌^◌, List}
use Rattle.pool_journal.specs.Entries.{is_lent_answer, is_make_answer}
use Rattle.pool_journal.specs.Journal.{drawn}
use Rattle.pool_journal.specs.declared.entry.Entry.{Entry}
use Rattle.pool_journal.specs.declared.input.Input.{Input}
use Rattle.pool_journal.specs.declared.answer.Answer.{Answer}
use Rattle.pool_stats.specs.Answers.{is_check, is_failing, count_answers, count_entries}
use Rattle.pool_stats.specs.Ended.{ended_of, ended_after, one_more_if, MayGrow}
use Rattle.pool_stats.specs.declared.tally.Tally.{Tally}

-- the number of entries of each kind
abbrev pub tally_of : List Entry → Tally
tally_of J =
    record {
      borrowed = count_answers is_lent_answer J;
      returned = count_answers is_check J;
      created = drawn J;
      borrow_test_failed = count_entries is_failing J;
      ended = ended_of J;
    }

-- the numbers after one more entry, with this answer and input
abbrev pub tally_after : Answer → Input → Tally → Tally
tally_after answer input n =
    record {
      borrowed = one_more_if (is_lent_answer answer) n.borrowed;
      returned = one_more_if (is_check answer) n.returned;
      created = one_more_if (is_make_answer answer) n.created;
      borrow_test_failed = one_more_if (is_failing answer input) n.borrow_test_failed;
      ended = ended_after answer input n.ended;
    }

-- each of the numbers may grow by one
pub record MayTally (n : Tally) : Type 0 where
  pub borrowed : n.borrowed + 1 < 2 ^ 64
  pub returned : n.returned + 1 < 2 ^ 64
  pub created : n.created + 1 < 2 ^ 64
  pub borrow_test_failed : n.borrow_test_failed + 1 < 2 ^ 64
  pub ended : MayGrow n.ended
