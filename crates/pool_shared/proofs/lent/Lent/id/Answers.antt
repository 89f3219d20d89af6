use Rattle.std.proofs.Common.{rules}
use Rattle.pool_shared.proofs.lent.Lent.id.Goals as goal

pub returns : goal.returns
returns g c = search rules
