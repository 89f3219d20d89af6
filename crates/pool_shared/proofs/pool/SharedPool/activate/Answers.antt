use Rattle.std.proofs.Common.{rules}
use Rattle.pool_shared.proofs.pool.SharedPool.activate.Goals as goal

pub returns-then-not-validate-clause-error : goal.returns-then-not-validate-clause-error
returns-then-not-validate-clause-error g c = search rules

pub returns-else-self-clause-ok : goal.returns-else-self-clause-ok
returns-else-self-clause-ok g c = search rules
