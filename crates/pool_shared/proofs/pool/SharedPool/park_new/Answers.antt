use Rattle.pool_shared.proofs.Sweeping.{goes_then}
use Rattle.pool_shared.proofs.Stocking.{shut_out, has_shut_out}
use Rattle.pool_shared.proofs.pool.SharedPool.park_new.Goals as goal

pub destroy_held-requires-after_bounds : goal.destroy_held-requires-after_bounds
destroy_held-requires-after_bounds g c κs within = has_shut_out c.args.id _ _ _ c.in-Ok-Destroy-Some.field-0-0-is c.in-Ok-Destroy-Some.ensures.appended

pub returns-in-Ok-Destroy-Some-clause-trace : goal.returns-in-Ok-Destroy-Some-clause-trace
returns-in-Ok-Destroy-Some-clause-trace g c =
    shut_out g.B.PoolBrand.settings c.args.id _ _ _ _ c.in-Ok-Destroy-Some.field-0-0-is c.in-Ok-Destroy-Some.ensures.appended c.destroy_held.ensures.appended

pub returns-in-Ok-Destroy-Some-clause-advances : goal.returns-in-Ok-Destroy-Some-clause-advances
returns-in-Ok-Destroy-Some-clause-advances g c = goes_then g.B.PoolBrand.settings _ _ _ c.in-Ok-Destroy-Some.ensures.advances c.destroy_held.ensures.advances
