use Rattle.std.proofs.Common.{◌≡◌}
use Rattle.pool_places.specs.Changes.{IdsBelow}
use Rattle.pool_places.specs.PlacesModel.{records_in}
use Rattle.test_core.proofs.places.restores.many_restores.Given as goal

abbrev pub invariant-loop-id : goal.invariant-loop-id
invariant-loop-id g l = record {
  same : l.places.objects ≡ l.plain.items;
  below : IdsBelow l.id (records_in l.plain.items);
}
