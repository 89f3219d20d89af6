use Rattle.pool_calls.specs.declared.kind.Kind.TheVariants as kinds
use Rattle.pool_shared.specs.Stages.{asks}
use Rattle.pool_shared.specs.Traces.{Trace}
use Rattle.pool_shared.proofs.Traces.{ComesFrom}
use Rattle.pool_shared.proofs.pool.SharedPool.borrow_until_result.Given as goal

abbrev pub invariant-loop : goal.invariant-loop
invariant-loop g l = ComesFrom l.initial.me l.me × Trace g.B.PoolBrand.settings (kinds.Borrow l.began) asks l.initial.me l.me asks
