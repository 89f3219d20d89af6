use Rattle.std.proofs.Common.{ap, ◌∙◌}
use Rattle.std.proofs.lemmas.Result.{err_from_is_err_and}
use Rattle.pool_journal.specs.declared.answer.Answer.TheVariants.{Refused}
use Rattle.pool_shared.proofs.Examining.{examines_then, finds_closed, evict_refused}
use Rattle.pool_shared.proofs.Traces.{ends_of}
use Rattle.pool_shared.proofs.Sweeping.{goes_then}
use Rattle.pool_shared.proofs.pool.SharedPool.evict.Goals as goal

pub returns-in-Count-clause-spec : goal.returns-in-Count-clause-spec
returns-in-Count-clause-spec g c = examines_then g.B.PoolBrand.settings _ _ _ c.in_ok-count.ensures.appended c.in-Count.count _ _ c.in-Count.is c.examine.ensures.spec

pub returns-in-Refused-Closed-clause-spec : goal.returns-in-Refused-Closed-clause-spec
returns-in-Refused-Closed-clause-spec g c =
    finds_closed g.B.PoolBrand.settings _ _ _ c.in_ok-count.ensures.appended (c.in-Refused-Closed.is ∙ ap Refused c.in-Refused-Closed.field-0-is) (_, _, ends_of _ _ _ _ c.in_ok-count.ensures.advances.number c.in_ok-count.ensures.appended)

pub returns-in-Count-clause-advances : goal.returns-in-Count-clause-advances
returns-in-Count-clause-advances g c = goes_then g.B.PoolBrand.settings _ _ _ c.in_ok-count.ensures.advances c.examine.ensures.advances

pub returns-in_err-count-clause-spec : goal.returns-in_err-count-clause-spec
returns-in_err-count-clause-spec g c =
    let p = err_from_is_err_and c.from_residual.result c.from_residual.ensures.1 in
    rw (p.1, p.2) (evict_refused g.B.PoolBrand.settings _ _ _ c.in_err-count.ensures.same c.in_err-count.ensures.refused)
