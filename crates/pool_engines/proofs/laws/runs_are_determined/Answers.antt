use Rattle.pool_engines.proofs.OneRun.{one_run}
use Rattle.pool_engines.proofs.laws.runs_are_determined.Goals as goal

pub returns : goal.returns
returns c = one_run
