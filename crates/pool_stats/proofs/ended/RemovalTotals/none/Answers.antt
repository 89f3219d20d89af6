use Rattle.std.proofs.Common.{rules}
use Rattle.pool_stats.proofs.ended.RemovalTotals.none.Goals as goal

pub returns : goal.returns
returns c = search rules
