use Rattle.std.proofs.Common.{◌≤◌, length}
use Rattle.pool_places.specs.LastUses.{IsCovered}
use Rattle.pool_places.specs.PlacesModel.{records_in}
use Rattle.pool_places.specs.Stored.{objects_of}
use Rattle.pool_places.proofs.last_uses.passed_at.Given as goal

abbrev pub invariant-loop-position : goal.invariant-loop-position
invariant-loop-position g l = (l.position ≤ length l.uses.order.items) × IsCovered l.uses.recent l.position l.uses.order.items (records_in (objects_of l.slots l.index.pairs))
