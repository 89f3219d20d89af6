use Rattle.pool_shared.proofs.Sweeping.{goes_then}
use Rattle.pool_shared.proofs.Examining.{passed, shut_out}
use Rattle.pool_shared.proofs.pool.SharedPool.end_idle_test.Goals as goal

pub returns-in-Ok-Destroy-Some-clause-trace : goal.returns-in-Ok-Destroy-Some-clause-trace
returns-in-Ok-Destroy-Some-clause-trace g c =
    shut_out g.B.PoolBrand.settings c.args.id _ _ _ _ c.in-Ok-Destroy-Some.field-0-0-is c.in-Ok-Destroy-Some.ensures.appended c.destroy_held.ensures.appended

pub returns-in-Ok-Destroy-Some-clause-advances : goal.returns-in-Ok-Destroy-Some-clause-advances
returns-in-Ok-Destroy-Some-clause-advances g c = goes_then g.B.PoolBrand.settings _ _ _ c.in-Ok-Destroy-Some.ensures.advances c.destroy_held.ensures.advances

pub returns-in-Ok-Kept-default-clause-trace : goal.returns-in-Ok-Kept-default-clause-trace
returns-in-Ok-Kept-default-clause-trace g c = passed g.B.PoolBrand.settings c.args.id _ _ _ c.in-Ok-Kept-default.field-0-0-is c.in-Ok-Kept-default.ensures.appended
