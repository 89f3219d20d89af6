use Rattle.std.proofs.Common.{◌≡◌, length}
use Rattle.pool_places.specs.RepInvariant.{IsWithin}
use Rattle.pool_places.specs.Stored.{first_parked, from_key}
use Rattle.pool_places.proofs.queue.first_after.Given as goal

abbrev pub invariant-loop-next : goal.invariant-loop-next
invariant-loop-next g l = record {
  within : IsWithin l.slots.queue l.next;
  later : first_parked l.slots l.position (from_key l.next l.slots.queue) ≡ first_parked l.slots l.position l.slots.queue;
}

abbrev pub decreases-loop-next : goal.decreases-loop-next
decreases-loop-next g l = length (from_key l.next l.slots.queue)
