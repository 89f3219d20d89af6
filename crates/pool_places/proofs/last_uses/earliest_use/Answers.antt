use Rattle.std.proofs.Common.{◌≡◌, ap, ◌∙◌, arith}
use Rattle.std.proofs.lemmas.Option.{get_or_from_slice_get}
use Rattle.pool_places.specs.declared.last_uses.LastUse.{LastUse}
use Rattle.pool_places.proofs.Bounds.{bound_from}
use Rattle.pool_places.proofs.last_uses.earliest_use.Goals as goal

pub returns : goal.returns
returns c rs known =
    bound_from (record c.args.uses.now { passed = c.args.passed }) c.earlier.result rs known c.earlier.ensures.one (
    λ one is.
    let first : LastUse = c.index-first.result.now in
    let same : first ≡ one = c.index-first.ensures ∙ get_or_from_slice_get c.args.uses.now.order.items c.args.passed one first is in
    omega (arith, c.earlier.ensures.other, ap (λ (u : LastUse). u.at) same)
    )
