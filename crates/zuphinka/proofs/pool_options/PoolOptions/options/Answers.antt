use Rattle.std.proofs.Common.{refl}
use Rattle.zuphinka.proofs.pool_options.PoolOptions.options.Goals as goal

pub returns : goal.returns
returns c = refl
