use Rattle.pool_shared.proofs.Sweeping.{goes_then}
use Rattle.pool_shared.proofs.Examining.{kept_idle, none_idle, destroyed_idle, tested_idle, stops}
use Rattle.pool_shared.proofs.TracesToResults.{room_fault_for}
use Rattle.std.proofs.lemmas.Result.{err_from_is_err_and}
use Rattle.pool_shared.proofs.pool.SharedPool.examine_next.Goals as goal

pub returns-in-DestroyIdle-Some-clause-trace : goal.returns-in-DestroyIdle-Some-clause-trace
returns-in-DestroyIdle-Some-clause-trace g c =
    destroyed_idle g.B.PoolBrand.settings c.in-DestroyIdle-Some.id _ _ _ _ c.in-DestroyIdle-Some.is-0 c.in_ok-run_section.ensures.appended c.destroy_held.ensures.appended

pub returns-in-Test-Some-clause-trace : goal.returns-in-Test-Some-clause-trace
returns-in-Test-Some-clause-trace g c =
    tested_idle g.B.PoolBrand.settings c.in-Test-Some.id _ _ _ _ _ c.in-Test-Some.is-0 c.in_ok-run_section.ensures.appended c.test.ensures.trace

pub returns-in-DestroyIdle-Some-clause-advances : goal.returns-in-DestroyIdle-Some-clause-advances
returns-in-DestroyIdle-Some-clause-advances g c = goes_then g.B.PoolBrand.settings _ _ _ c.in_ok-run_section.ensures.advances c.destroy_held.ensures.advances

pub returns-in-Test-Some-clause-advances : goal.returns-in-Test-Some-clause-advances
returns-in-Test-Some-clause-advances g c = goes_then g.B.PoolBrand.settings _ _ _ c.in_ok-run_section.ensures.advances c.test.ensures.advances

pub returns-in-KeptIdle-default-clause-trace : goal.returns-in-KeptIdle-default-clause-trace
returns-in-KeptIdle-default-clause-trace g c = kept_idle g.B.PoolBrand.settings _ _ _ _ c.in-KeptIdle-default.is-0 c.in_ok-run_section.ensures.appended

pub returns-in-Nothing-default-clause-trace : goal.returns-in-Nothing-default-clause-trace
returns-in-Nothing-default-clause-trace g c = none_idle g.B.PoolBrand.settings _ _ _ c.in-Nothing-default.is-0 c.in_ok-run_section.ensures.appended

pub returns-in_err-run_section-clause-refused : goal.returns-in_err-run_section-clause-refused
returns-in_err-run_section-clause-refused g c =
    let p = err_from_is_err_and c.from_residual.result c.from_residual.ensures.1 in
    rw (p.1, p.2) (stops g.B.PoolBrand.settings _ _ (room_fault_for g.B.PoolBrand.settings _ c.in_err-run_section.field-0.0 _ _ c.in_err-run_section.ensures.refused))
