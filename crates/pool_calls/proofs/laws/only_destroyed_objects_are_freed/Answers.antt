use Rattle.pool_calls.proofs.Destroying.{frees_only_destroyed}
use Rattle.pool_calls.proofs.laws.only_destroyed_objects_are_freed.Goals as goal

pub returns : goal.returns
returns c = frees_only_destroyed
