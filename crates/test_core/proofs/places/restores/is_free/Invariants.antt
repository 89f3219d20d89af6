use Rattle.std.proofs.Common.{length}
use Rattle.pool_places.specs.Changes.{IsFreePosition}
use Rattle.pool_places.specs.PlacesModel.{records_in}
use Rattle.test_core.proofs.places.restores.is_free.Given as goal

abbrev pub invariant-loop-left : goal.invariant-loop-left
invariant-loop-left l = IsFreePosition l.position (records_in l.left) → IsFreePosition l.position (records_in l.plain)

abbrev pub decreases-loop-left : goal.decreases-loop-left
decreases-loop-left l = length l.left
