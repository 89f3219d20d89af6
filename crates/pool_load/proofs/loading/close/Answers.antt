use Rattle.std.proofs.Common.{rules}
use Rattle.pool_load.proofs.loading.close.Goals as goal

pub returns-clause-spec : goal.returns-clause-spec
returns-clause-spec g c = search rules
