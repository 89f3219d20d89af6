use Rattle.pool_places.specs.PlacesModel.{records_in}
use Rattle.test_core.specs.Before.{AllBefore}
use Rattle.test_core.proofs.places.calls.many_calls.Given as goal

abbrev pub invariant-loop-moment : goal.invariant-loop-moment
invariant-loop-moment g l = AllBefore l.moment (records_in l.places.objects)
