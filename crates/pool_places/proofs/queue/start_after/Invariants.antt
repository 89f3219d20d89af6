use Rattle.std.proofs.Common.{◌≡◌, true, Some, reverse, length}
use Rattle.pool_slots.specs.SlotsModel.{is_in}
use Rattle.pool_places.specs.Stored.{from_key}
use Rattle.pool_places.proofs.queue.start_after.Given as goal

abbrev pub invariant-loop-before : goal.invariant-loop-before
invariant-loop-before g l = is_in l.start l.slots.queue ≡ true

abbrev pub decreases-loop-before : goal.decreases-loop-before
decreases-loop-before g l = length (from_key (Some l.start) (reverse l.slots.queue))
