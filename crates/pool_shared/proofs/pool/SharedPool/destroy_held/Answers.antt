use Rattle.std.proofs.Common.{rules}
use Rattle.pool_shared.proofs.pool.SharedPool.destroy_held.Goals as goal

pub returns-clause-advances : goal.returns-clause-advances
returns-clause-advances g c = search rules
