use Rattle.pool_shared.proofs.Sweeping.{goes_then}
use Rattle.std.proofs.Common.{rules, ◌≡◌}
use Rattle.pool_shared.proofs.Backs.{checked, return_refused}
use Rattle.pool_shared.proofs.Keeping.{untouched}
use Rattle.pool_shared.proofs.pool.SharedPool.give_back.Goals as goal

pub returns-then-lent-self-clause-advances : goal.returns-then-lent-self-clause-advances
returns-then-lent-self-clause-advances g c = untouched g.B.PoolBrand.table g.B.PoolBrand.settings _ c.me.inside.number _ c.args.me.now c.me.invariant c.me.view_is

pub returns-in-Ok-Check-default-clause-spec : goal.returns-in-Ok-Check-default-clause-spec
returns-in-Ok-Check-default-clause-spec g c =
    let pool : c.args.lent.pool ≡ c.args.self.now.number = search rules in
    checked g.B.PoolBrand.settings c.args.self.now.number c.args.lent _ _ _ _ _ pool c.in-Ok-Check-default.field-0-0-is c.in-Ok-Check-default.ensures.appended c.test_and_park.ensures.trace c.test_and_park.ensures.ends

pub returns-in-Ok-Check-default-clause-advances : goal.returns-in-Ok-Check-default-clause-advances
returns-in-Ok-Check-default-clause-advances g c = goes_then g.B.PoolBrand.settings _ _ _ c.in-Ok-Check-default.ensures.advances c.test_and_park.ensures.advances

pub returns-clause-spec : goal.returns-clause-spec
returns-clause-spec g c =
    let pool : c.args.lent.pool ≡ c.args.self.now.number = search rules in
    rw c.from.ensures (return_refused g.B.PoolBrand.settings c.args.self.now.number c.args.lent _ _ c.in-Err.fault pool c.in-Err.ensures.advances.legal c.in-Err.ensures.refused)
