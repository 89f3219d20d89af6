use Rattle.std.proofs.Common.{rules}
use Rattle.pool_host.proofs.pool.HostedPool.wake_up.Goals as goal

pub returns-in-Asks-clause-told : goal.returns-in-Asks-clause-told
returns-in-Asks-clause-told c = search rules
