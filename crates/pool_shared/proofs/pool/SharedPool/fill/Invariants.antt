use Rattle.pool_shared.proofs.Stocking.{IsFilling}
use Rattle.pool_shared.proofs.Traces.{ComesFrom}
use Rattle.pool_shared.proofs.pool.SharedPool.fill.Given as goal

abbrev pub invariant-loop : goal.invariant-loop
invariant-loop g l = ComesFrom l.initial.me l.me × IsFilling g.B.PoolBrand.settings l.parked l.initial.me l.me
