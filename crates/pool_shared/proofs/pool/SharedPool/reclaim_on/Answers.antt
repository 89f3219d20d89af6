use Rattle.std.proofs.lemmas.Result.{err_from_is_err_and}
use Rattle.pool_shared.proofs.Sweeping.{goes_then}
use Rattle.pool_shared.proofs.Removals.{removal, removal_refused}
use Rattle.pool_shared.proofs.pool.SharedPool.reclaim_on.Goals as goal

pub returns-clause-spec : goal.returns-clause-spec
returns-clause-spec g c =
    removal g.B.PoolBrand.settings c.args.on c.in-Count.count _ _ _ _ _ c.in-Count.is c.in_ok-count.ensures.appended c.reclaim_some.ensures.trace

pub returns-clause-advances : goal.returns-clause-advances
returns-clause-advances g c = goes_then g.B.PoolBrand.settings _ _ _ c.in_ok-count.ensures.advances c.reclaim_some.ensures.advances

pub returns-in_err-count-clause-spec : goal.returns-in_err-count-clause-spec
returns-in_err-count-clause-spec g c =
    let p = err_from_is_err_and c.from_residual.result c.from_residual.ensures.1 in
    rw (p.1, p.2) (removal_refused g.B.PoolBrand.settings c.args.on _ _ _ c.in_err-count.ensures.same c.in_err-count.ensures.refused)
