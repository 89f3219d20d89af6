use Rattle.std.proofs.lemmas.Result.{err_from_is_err_and}
use Rattle.pool_shared.proofs.Sweeping.{goes_then}
use Rattle.pool_shared.proofs.Stocking.{added, add_refused, not_from_factory, owns_new}
use Rattle.std.proofs.Common.{refl, rules}
use Rattle.pool_journal.specs.declared.input.Input.TheVariants.{Add}
use Rattle.pool_shared.proofs.pool.SharedPool.add.Goals as goal

pub returns-in-Make-clause-spec : goal.returns-in-Make-clause-spec
returns-in-Make-clause-spec g c =
    let of = c.make_idle.ensures in
    added g.B.PoolBrand.settings c.in-Make.id _ c.make_idle.result _ _ _ c.in-Make.is c.in_ok-id.ensures.appended of.appended of.trace of.ends

pub returns-in-Make-clause-advances : goal.returns-in-Make-clause-advances
returns-in-Make-clause-advances g c = goes_then g.B.PoolBrand.settings _ _ _ c.in_ok-id.ensures.advances c.make_idle.ensures.advances

pub returns-in_err-id-clause-spec : goal.returns-in_err-id-clause-spec
returns-in_err-id-clause-spec g c =
    let p = err_from_is_err_and c.from_residual.result c.from_residual.ensures.1 in
    rw (p.1, p.2) (add_refused g.B.PoolBrand.settings c.in_err-id.field-0.0 _ _ c.in_err-id.ensures.same c.in_err-id.ensures.refused)

pub returns-in_err-id-clause-fault : goal.returns-in_err-id-clause-fault
returns-in_err-id-clause-fault g c =
    let p = err_from_is_err_and c.from_residual.result c.from_residual.ensures.1 in
    rw (p.1, p.2) (not_from_factory _ _ c.in_err-id.field-0.0)

pub make_idle-requires-clause-owns : goal.make_idle-requires-clause-owns
make_idle-requires-clause-owns g c κs within = owns_new Add _ _ _ _ c.in-Make.is c.in_ok-id.ensures.appended (λ n at. refl)

pub returns-in-NoPlace-clause-spec : goal.returns-in-NoPlace-clause-spec
returns-in-NoPlace-clause-spec g c = search rules
