use Rattle.pool_shared.proofs.Sweeping.{goes_then}
use Rattle.pool_shared.proofs.Asking.{unready}
use Rattle.pool_shared.proofs.pool.SharedPool.destroy_unready.Goals as goal

pub returns-clause-ends : goal.returns-clause-ends
returns-clause-ends g c = c.destroy_held.ensures.ends

pub returns-clause-advances : goal.returns-clause-advances
returns-clause-advances g c = goes_then g.B.PoolBrand.settings _ _ _ c.complete.ensures.advances c.destroy_held.ensures.advances

pub returns-clause-trace : goal.returns-clause-trace
returns-clause-trace g c began new fails = unready g.B.PoolBrand.settings began c.args.id new c.args.outcome _ _ _ _ fails c.in-Destroy.is c.complete.ensures.appended c.destroy_held.ensures.appended
