use Rattle.std.proofs.Common.{◌≡◌, map, reverse, length}
use Rattle.std.specs.Prelude.{find}
use Rattle.pool_places.specs.RepInvariant.{IsWithin}
use Rattle.pool_places.specs.Stored.{entry_at, from_key}
use Rattle.pool_places.proofs.queue.last_wanted.Given as goal

abbrev pub invariant-loop-next : goal.invariant-loop-next
invariant-loop-next g l = record {
  within : IsWithin l.slots.queue l.next;
  later : find (λ q. q.is_idle) (map (entry_at l.slots) (from_key l.next (reverse l.slots.queue))) ≡ find (λ q. q.is_idle) (map (entry_at l.slots) (from_key l.fn.from (reverse l.slots.queue)));
}

abbrev pub decreases-loop-next : goal.decreases-loop-next
decreases-loop-next g l = length (from_key l.next (reverse l.slots.queue))
