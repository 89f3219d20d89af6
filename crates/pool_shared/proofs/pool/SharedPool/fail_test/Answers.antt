use Rattle.pool_shared.proofs.Sweeping.{goes_then}
use Rattle.pool_shared.proofs.Examining.{failed}
use Rattle.pool_shared.proofs.pool.SharedPool.fail_test.Goals as goal

pub returns-clause-advances : goal.returns-clause-advances
returns-clause-advances g c = goes_then g.B.PoolBrand.settings _ _ _ c.complete.ensures.advances c.destroy_held.ensures.advances

pub returns-clause-trace : goal.returns-clause-trace
returns-clause-trace g c = failed g.B.PoolBrand.settings c.args.id c.args.outcome _ _ _ _ c.requires.outcome c.in-Destroy.is c.complete.ensures.appended c.destroy_held.ensures.appended
