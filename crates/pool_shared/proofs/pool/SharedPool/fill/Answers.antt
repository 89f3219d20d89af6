use Rattle.std.proofs.Common.{refl, arith}
use Rattle.pool_shared.proofs.Traces.{comes_on, goes_far}
use Rattle.pool_shared.proofs.Stocking.{bounded_parked, one_parked, one_lost, all_filled, all_counted, filled_part}
use Rattle.pool_shared.proofs.pool.SharedPool.fill.Goals as goal

pub loop-preserved-in-Ok-Idle : goal.loop-preserved-in-Ok-Idle
loop-preserved-in-Ok-Idle g c =
    let i = c.loop.invariant in
    let e = c.in-Ok-Idle.ensures in (
      comes_on g.B.PoolBrand.settings _ _ _ i.0 e.advances,
      one_parked g.B.PoolBrand.settings c.loop.parked _ _ _ i.1 c.in-Ok-Idle.field-0 e.turn.0 e.turn.1 _ c.in-Ok-Idle.field-0-is refl,
    )

pub loop-preserved : goal.loop-preserved
loop-preserved g c =
    let i = c.loop.invariant in
    let e = c.in-Ok-Destroyed.ensures in (
      comes_on g.B.PoolBrand.settings _ _ _ i.0 e.advances,
      one_lost g.B.PoolBrand.settings c.loop.parked _ _ _ i.1 c.in-Ok-Destroyed.field-0 e.turn.0 e.turn.1 c.in-Ok-Destroyed.field-0-is,
    )

pub returns-in-Ok-NoPlace-clause-advances : goal.returns-in-Ok-NoPlace-clause-advances
returns-in-Ok-NoPlace-clause-advances g c = goes_far g.B.PoolBrand.settings _ _ _ c.loop.invariant.0 c.in-Ok-NoPlace.ensures.advances

pub returns-in-Err-clause-advances : goal.returns-in-Err-clause-advances
returns-in-Err-clause-advances g c = goes_far g.B.PoolBrand.settings _ _ _ c.loop.invariant.0 c.in-Err.ensures.advances

pub returns-in-Ok-NoPlace-clause-spec : goal.returns-in-Ok-NoPlace-clause-spec
returns-in-Ok-NoPlace-clause-spec g c =
    let i = c.loop.invariant in
    let turn = c.in-Ok-NoPlace.ensures.turn in
    all_filled g.B.PoolBrand.settings c.loop.parked _ _ _ i.1 c.in-Ok-NoPlace.field-0 turn.0 turn.1 c.in-Ok-NoPlace.field-0-is turn.2

pub returns-in-Ok-NoPlace-clause-parked : goal.returns-in-Ok-NoPlace-clause-parked
returns-in-Ok-NoPlace-clause-parked g c =
    let i = c.loop.invariant in
    let turn = c.in-Ok-NoPlace.ensures.turn in
    all_counted g.B.PoolBrand.settings c.loop.parked _ _ _ i.1 c.in-Ok-NoPlace.field-0 turn.0 turn.1 c.in-Ok-NoPlace.field-0-is

pub returns-in-Err-clause-spec : goal.returns-in-Err-clause-spec
returns-in-Err-clause-spec g c =
    let i = c.loop.invariant in
    filled_part g.B.PoolBrand.settings c.loop.parked _ _ _ i.1 c.in-Err.fault c.in-Err.ensures.turn

pub overflow_add-parked : goal.overflow_add-parked
overflow_add-parked g c =
    let i = c.loop.invariant in
    omega (arith, c.in-Ok-Idle.ensures.bounded, bounded_parked c.loop.parked c.args.me.now c.loop.me i.1.1)
