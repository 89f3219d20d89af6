use Rattle.pool_calls.proofs.Ending.{ends_soon}
use Rattle.pool_calls.proofs.laws.calls_given_up_end_soon.Goals as goal

pub returns : goal.returns
returns c = ends_soon
