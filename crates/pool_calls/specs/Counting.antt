-- The counts of a call, by its turns.
use Rattle.std.specs.Prelude.{ℕ, ◌+◌, ◌-◌, ◌^◌, min, if◌then◌else◌, List, count_by}
use Rattle.pool_journal.specs.declared.answer.Answer.{Answer}
use Rattle.pool_calls.specs.declared.action.Event.{Event}
use Rattle.pool_calls.specs.declared.action.Event.TheVariants as events
use Rattle.pool_calls.specs.declared.kind.Kind.{Kind}
use Rattle.pool_calls.specs.declared.call_counts.CallCounts.{CallCounts}
use Rattle.pool_calls.specs.Steps.{is_counted, is_freed}
use Rattle.pool_calls.specs.Turns.{Turn}

-- a number that stays at 2^64 - 1
abbrev pub capped : ℕ → ℕ
capped n = min n (2 ^ 64 - 1)

-- the counts after one more answer
abbrev pub one_more : Kind → Answer → CallCounts → CallCounts
one_more k a t =
    record {
      objects = capped (t.objects + (if is_counted k a then 1 else 0));
      freed = capped (t.freed + (if is_freed a then 1 else 0));
    }

-- the counts after these turns
abbrev pub counts_of : Kind → List Turn → CallCounts
counts_of k turns =
    record {
      objects = capped (count_by (λ t. is_counted k t.answer) turns);
      freed = capped (count_by (λ t. is_freed t.answer) turns);
    }

-- the counts after an event
abbrev pub counts_after : Kind → Event → CallCounts → CallCounts
counts_after k (events.Answered a) t = one_more k a t
counts_after k _ t = t
