-- The removals that one more entry counts.
use Rattle.std.proofs.Common.{◌≡◌, ◌+◌, ◌<◌, ◌^◌, Bool, if◌then◌else◌, List, [], ◌∷◌, ◌++◌, length, refl, arith}
use Rattle.std.specs.Prelude.{count_by}
use Rattle.std.proofs.lemmas.List.Sums.{sum_by_push, count_by-le-length}
use Rattle.pool_journal.specs.declared.entry.Entry.{Entry}
use Rattle.pool_journal.specs.Totals.{is_freed, is_reclaimed, is_evicting}
use Rattle.pool_stats.specs.Ended.{ended_of, ended_after, one_more_if, MayGrow}

pub count_push : (p : Entry → Bool) (J : List Entry) (e : Entry) → count_by p (J ++ e ∷ []) ≡ one_more_if (p e) (count_by p J)
count_push p J e = sum_by_push (λ x. if p x then 1 else 0) J e

pub ended_of-push : (J : List Entry) (e : Entry) → ended_of (J ++ e ∷ []) ≡ ended_after e.answer e.input (ended_of J)
ended_of-push J e =
    rw (
      count_push (λ x. is_freed x.answer) J e,
      count_push (λ x. is_evicting x.answer x.input) J e,
      count_push (λ x. is_reclaimed x.answer) J e,
    ) refl

-- each number may grow by one, since it is at most the number of entries
pub ended_of-small : (J : List Entry) → length J + 1 < 2 ^ 64 → MayGrow (ended_of J)
ended_of-small J bounded =
    record {
      destroyed = omega (arith, count_by-le-length (λ x. is_freed x.answer) J);
      evicted = omega (arith, count_by-le-length (λ x. is_evicting x.answer x.input) J);
      reclaimed = omega (arith, count_by-le-length (λ x. is_reclaimed x.answer) J);
    }
