use Rattle.pool_shared.proofs.Sweeping.{goes_then}
use Rattle.pool_shared.proofs.pool.SharedPool.destroy_returned.Goals as goal

pub returns-clause-advances : goal.returns-clause-advances
returns-clause-advances g c = goes_then g.B.PoolBrand.settings _ _ _ c.complete.ensures.advances c.destroy_held.ensures.advances
