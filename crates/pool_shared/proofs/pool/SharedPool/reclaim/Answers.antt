use Rattle.pool_shared.proofs.Removals.{maintains}
use Rattle.pool_shared.proofs.pool.SharedPool.reclaim.Goals as goal

pub returns-clause-spec : goal.returns-clause-spec
returns-clause-spec g c = maintains g.B.PoolBrand.settings _ _ _ c.reclaim_on.ensures.spec
