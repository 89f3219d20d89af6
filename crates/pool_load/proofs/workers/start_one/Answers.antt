use Rattle.std.proofs.Common.{rules}
use Rattle.pool_load.proofs.workers.start_one.Goals as goal

pub returns-clause-error : goal.returns-clause-error
returns-clause-error g c = search rules
