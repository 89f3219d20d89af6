-- The counts after one more entry.
use Rattle.std.proofs.Common.{◌≡◌, ◌+◌, ◌<◌, ◌^◌, List, [], ◌∷◌, ◌++◌, length, refl, arith}
use Rattle.std.proofs.lemmas.List.Sums.{count_by-le-length}
use Rattle.pool_journal.specs.Entries.{is_lent_answer}
use Rattle.pool_journal.specs.declared.entry.Entry.{Entry}
use Rattle.pool_journal.specs.Base.{empty_base}
use Rattle.pool_journal.proofs.Found.{drawn_from-le}
use Rattle.pool_journal.proofs.Pushed.{drawn_from-push}
use Rattle.pool_stats.specs.Answers.{is_check, is_failing}
use Rattle.pool_stats.specs.Tallied.{tally_of, tally_after, MayTally}
use Rattle.pool_stats.proofs.Endings.{count_push, ended_of-push, ended_of-small}

pub tally_of-push : (J : List Entry) (e : Entry) → tally_of (J ++ e ∷ []) ≡ tally_after e.answer e.input (tally_of J)
tally_of-push J e =
    rw (
      count_push (λ x. is_lent_answer x.answer) J e,
      count_push (λ x. is_check x.answer) J e,
      drawn_from-push empty_base J e,
      count_push (λ x. is_failing x.answer x.input) J e,
      ended_of-push J e,
    ) refl

pub tally_of-small : (J : List Entry) → length J + 1 < 2 ^ 64 → MayTally (tally_of J)
tally_of-small J bounded =
    record {
      borrowed = omega (arith, count_by-le-length (λ x. is_lent_answer x.answer) J);
      returned = omega (arith, count_by-le-length (λ x. is_check x.answer) J);
      created = omega (arith, bounded, drawn_from-le empty_base J (omega arith));
      borrow_test_failed = omega (arith, count_by-le-length (λ x. is_failing x.answer x.input) J);
      ended = ended_of-small J bounded;
    }
