use Rattle.pool_calls.proofs.Times.{counts_once_due}
use Rattle.pool_calls.proofs.laws.overtakes_count_once_due.Goals as goal

pub returns : goal.returns
returns c = counts_once_due
