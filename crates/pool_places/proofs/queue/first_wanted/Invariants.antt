use Rattle.std.proofs.Common.{◌≡◌, map, length}
use Rattle.std.specs.Prelude.{find}
use Rattle.pool_places.specs.RepInvariant.{IsWithin}
use Rattle.pool_places.specs.Stored.{entry_at, from_key}
use Rattle.pool_places.specs.QueueEntries.{is_wanted}
use Rattle.pool_places.proofs.queue.first_wanted.Given as goal

abbrev pub invariant-loop-next : goal.invariant-loop-next
invariant-loop-next g l = record {
  within : IsWithin l.slots.queue l.next;
  later : find (is_wanted l.after) (map (entry_at l.slots) (from_key l.next l.slots.queue)) ≡ find (is_wanted l.after) (map (entry_at l.slots) (from_key l.fn.from l.slots.queue));
}

abbrev pub decreases-loop-next : goal.decreases-loop-next
decreases-loop-next g l = length (from_key l.next l.slots.queue)
