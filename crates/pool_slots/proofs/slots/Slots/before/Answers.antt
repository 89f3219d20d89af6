use Rattle.std.proofs.Common.{None, sym, ap, ◌∙◌, subst}
use Rattle.std.specs.Option.{option_and_then}
use Rattle.pool_slots.specs.Links.{IsChain, after_of, before_of}
use Rattle.pool_slots.proofs.Chains.{chain_before}
use Rattle.pool_slots.proofs.slots.Slots.before.Goals as goal

pub returns : goal.returns
returns g c front back split =
    let s = c.self.inside in
    let chain = subst (λ xs. IsChain (after_of s.slots s.first) (before_of s.slots s.last) None xs None) (ap (λ r. r.queue) c.self.view_is ∙ split) c.self.invariant.chain in
    c.before-2.ensures ∙ ap (option_and_then (λ slot. slot.links.before)) (sym c.index.ensures) ∙ chain_before _ _ front c.args.key back chain
