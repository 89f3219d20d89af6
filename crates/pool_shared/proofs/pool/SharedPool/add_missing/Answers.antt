use Rattle.pool_shared.proofs.Sweeping.{goes_then}
use Rattle.std.proofs.lemmas.Result.{err_from_is_err_and}
use Rattle.pool_shared.proofs.Stocking.{bounded_made, either_way, turned, enough, no_place, refused_turn, not_from_factory, owns_new}
use Rattle.pool_shared.proofs.Traces.{ends_of}
use Rattle.std.proofs.Common.{refl}
use Rattle.pool_journal.specs.declared.input.Input.TheVariants.{Fill}
use Rattle.pool_shared.proofs.pool.SharedPool.add_missing.Goals as goal

pub returns-in-Make-clause-turn : goal.returns-in-Make-clause-turn
returns-in-Make-clause-turn g c =
    let of = c.make_idle.ensures in
    turned g.B.PoolBrand.settings c.in-Make.id _ c.make_idle.result _ _ _ c.in-Make.is c.in_ok-id.ensures.appended of.appended of.trace of.ends

pub returns-in-Enough-clause-turn : goal.returns-in-Enough-clause-turn
returns-in-Enough-clause-turn g c =
    let e = c.in_ok-id.ensures in
    enough g.B.PoolBrand.settings g.row.E.Denot _ _ _ c.in-Enough.is e.appended (_, _, ends_of _ _ _ _ e.advances.number e.appended)

pub returns-in-NoPlace-clause-turn : goal.returns-in-NoPlace-clause-turn
returns-in-NoPlace-clause-turn g c =
    let e = c.in_ok-id.ensures in
    no_place g.B.PoolBrand.settings g.row.E.Denot _ _ _ c.in-NoPlace.is e.appended (_, _, ends_of _ _ _ _ e.advances.number e.appended)

pub returns-in-Make-clause-bounded : goal.returns-in-Make-clause-bounded
returns-in-Make-clause-bounded g c =
    let e = c.in_ok-id.ensures in
    either_way c.make_idle.result _ (bounded_made g.B.PoolBrand.settings _ _ _ _ e.appended e.advances e.bounded)

pub returns-in-Enough-clause-bounded : goal.returns-in-Enough-clause-bounded
returns-in-Enough-clause-bounded g c =
    let e = c.in_ok-id.ensures in
    bounded_made g.B.PoolBrand.settings _ _ _ _ e.appended e.advances e.bounded

pub returns-in-NoPlace-clause-bounded : goal.returns-in-NoPlace-clause-bounded
returns-in-NoPlace-clause-bounded g c =
    let e = c.in_ok-id.ensures in
    bounded_made g.B.PoolBrand.settings _ _ _ _ e.appended e.advances e.bounded

pub returns-in-Make-clause-advances : goal.returns-in-Make-clause-advances
returns-in-Make-clause-advances g c = goes_then g.B.PoolBrand.settings _ _ _ c.in_ok-id.ensures.advances c.make_idle.ensures.advances

pub returns-in_err-id-clause-turn : goal.returns-in_err-id-clause-turn
returns-in_err-id-clause-turn g c =
    let p = err_from_is_err_and c.from_residual.result c.from_residual.ensures.1 in
    rw (p.1, p.2) (refused_turn g.B.PoolBrand.settings c.in_err-id.field-0.0 _ _ c.in_err-id.ensures.same c.in_err-id.ensures.refused)

pub returns-in_err-id-clause-fault : goal.returns-in_err-id-clause-fault
returns-in_err-id-clause-fault g c =
    let p = err_from_is_err_and c.from_residual.result c.from_residual.ensures.1 in
    rw (p.1, p.2) (not_from_factory _ _ c.in_err-id.field-0.0)

pub make_idle-requires-clause-owns : goal.make_idle-requires-clause-owns
make_idle-requires-clause-owns g c κs within = owns_new Fill _ _ _ _ c.in-Make.is c.in_ok-id.ensures.appended (λ n at. refl)
