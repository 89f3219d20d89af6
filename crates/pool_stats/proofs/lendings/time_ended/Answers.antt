use Rattle.std.proofs.Common.{rules}
use Rattle.pool_stats.proofs.lendings.time_ended.Goals as goal

pub returns-in-Some : goal.returns-in-Some
returns-in-Some c = search rules
