use Rattle.std.proofs.Common.{◌≡◌}
use Rattle.std.specs.VecDeque.{deque_len, deque_capacity}
use Rattle.sorted_index.specs.Marks.{pairs_in, IsCounted}
use Rattle.sorted_index.proofs.queue_marks.trim_front.Given as goal

abbrev pub invariant-loop-stored : goal.invariant-loop-stored
invariant-loop-stored l = record {
  pairs : pairs_in l.stored.items ≡ pairs_in l.initial.stored.items;
  counted : IsCounted l.stored.items l.gone;
  capacity : deque_capacity l.stored ≡ deque_capacity l.initial.stored;
}

abbrev pub decreases-loop-stored : goal.decreases-loop-stored
decreases-loop-stored l = deque_len l.stored
