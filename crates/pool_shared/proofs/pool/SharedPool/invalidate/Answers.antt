use Rattle.pool_shared.proofs.Sweeping.{goes_then}
use Rattle.std.proofs.Common.{ap, rules, ◌≡◌, ◌∙◌}
use Rattle.pool_journal.specs.declared.answer.Answer.TheVariants.{Refused}
use Rattle.pool_shared.proofs.Backs.{invalidate_refused, invalidated, found_gone, found_unlent}
use Rattle.pool_shared.proofs.Keeping.{untouched}
use Rattle.pool_shared.proofs.pool.SharedPool.invalidate.Goals as goal

pub returns-then-lent-self-clause-advances : goal.returns-then-lent-self-clause-advances
returns-then-lent-self-clause-advances g c = untouched g.B.PoolBrand.table g.B.PoolBrand.settings _ c.me.inside.number _ c.args.me.now c.me.invariant c.me.view_is

pub returns-in-Ok-Destroy-default-clause-advances : goal.returns-in-Ok-Destroy-default-clause-advances
returns-in-Ok-Destroy-default-clause-advances g c = goes_then g.B.PoolBrand.settings _ _ _ c.in-Ok-Destroy-default.ensures.advances c.destroy_held.ensures.advances

pub returns-in-Ok-Destroy-default-clause-spec : goal.returns-in-Ok-Destroy-default-clause-spec
returns-in-Ok-Destroy-default-clause-spec g c =
    let pool : c.args.lent.pool ≡ c.args.self.now.number = search rules in
    let section = c.in-Ok-Destroy-default.ensures in
    invalidated g.B.PoolBrand.settings c.args.self.now.number c.args.lent _ _ _ pool section.advances.number section.appended _ c.in-Ok-Destroy-default.field-0-0-is c.destroy_held.ensures.advances.number c.destroy_held.ensures.appended

pub returns-in-Ok-Gone-default-clause-spec : goal.returns-in-Ok-Gone-default-clause-spec
returns-in-Ok-Gone-default-clause-spec g c =
    let pool : c.args.lent.pool ≡ c.args.self.now.number = search rules in
    let section = c.in-Ok-Gone-default.ensures in
    found_gone g.B.PoolBrand.settings c.args.self.now.number c.args.lent _ _ _ pool section.advances.number section.appended c.in-Ok-Gone-default.field-0-0-is

pub returns-in-Ok-Refused-NotLent-default-clause-spec : goal.returns-in-Ok-Refused-NotLent-default-clause-spec
returns-in-Ok-Refused-NotLent-default-clause-spec g c =
    let pool : c.args.lent.pool ≡ c.args.self.now.number = search rules in
    let section = c.in-Ok-Refused-NotLent-default.ensures in
    found_unlent g.B.PoolBrand.settings c.args.self.now.number c.args.lent _ _ _ pool section.advances.number section.appended (c.in-Ok-Refused-NotLent-default.field-0-0-is ∙ ap Refused c.in-Ok-Refused-NotLent-default.field-0-0-0-is)

pub returns-clause-spec : goal.returns-clause-spec
returns-clause-spec g c =
    let pool : c.args.lent.pool ≡ c.args.self.now.number = search rules in
    rw c.from.ensures (invalidate_refused g.B.PoolBrand.settings c.args.self.now.number c.args.lent _ _ c.in-Err.fault pool c.in-Err.ensures.advances.legal c.in-Err.ensures.refused)
