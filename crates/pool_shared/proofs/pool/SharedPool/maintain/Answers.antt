use Rattle.pool_shared.proofs.Sweeping.{goes_then}
use Rattle.pool_shared.proofs.Upkeep.{evict_stops, reclaim_stops, fill_stops}
use Rattle.pool_shared.proofs.pool.SharedPool.maintain.Goals as goal

pub returns-in_err-evict-clause-spec : goal.returns-in_err-evict-clause-spec
returns-in_err-evict-clause-spec g c = evict_stops g.B.PoolBrand.settings _ _ _ _ c.from_residual.ensures.1 c.in_err-evict.ensures.spec

pub returns-in_err-reclaim-clause-spec : goal.returns-in_err-reclaim-clause-spec
returns-in_err-reclaim-clause-spec g c =
    reclaim_stops g.B.PoolBrand.settings _ c.in_ok-evict.field-0 _ _ _ _ c.from_residual-in_err-reclaim.ensures.1 c.in_ok-evict.ensures.advances c.in_ok-evict.ensures.spec c.in_err-reclaim.ensures.spec

pub returns-in_err-fill-clause-spec : goal.returns-in_err-fill-clause-spec
returns-in_err-fill-clause-spec g c =
    fill_stops g.B.PoolBrand.settings _ c.in_ok-evict.field-0 c.in_ok-reclaim.field-0 _ _ _ _ _ c.from_residual-in_err-fill.ensures.1 c.in_ok-evict.ensures.advances c.in_ok-evict.ensures.spec c.in_ok-reclaim.ensures.advances
    c.in_ok-reclaim.ensures.spec c.in_err-fill.ensures.spec

pub returns-clause-spec : goal.returns-clause-spec
returns-clause-spec g c = (
  c.evict.new.me,
  c.reclaim.new.me,
  c.in_ok-fill.field-0,
  record { run = c.in_ok-evict.field-0; goes = c.in_ok-evict.ensures.advances; row = c.in_ok-evict.ensures.spec },
  record { taken = c.in_ok-reclaim.field-0; goes = c.in_ok-reclaim.ensures.advances; row = c.in_ok-reclaim.ensures.spec },
  c.in_ok-fill.ensures.spec,
)

pub returns-in_err-reclaim-clause-advances : goal.returns-in_err-reclaim-clause-advances
returns-in_err-reclaim-clause-advances g c = goes_then g.B.PoolBrand.settings _ _ _ c.in_ok-evict.ensures.advances c.in_err-reclaim.ensures.advances

pub returns-in_err-fill-clause-advances : goal.returns-in_err-fill-clause-advances
returns-in_err-fill-clause-advances g c = goes_then g.B.PoolBrand.settings _ _ _ (goes_then g.B.PoolBrand.settings _ _ _ c.in_ok-evict.ensures.advances c.in_ok-reclaim.ensures.advances) c.in_err-fill.ensures.advances

pub returns-clause-advances : goal.returns-clause-advances
returns-clause-advances g c = goes_then g.B.PoolBrand.settings _ _ _ (goes_then g.B.PoolBrand.settings _ _ _ c.in_ok-evict.ensures.advances c.in_ok-reclaim.ensures.advances) c.in_ok-fill.ensures.advances
