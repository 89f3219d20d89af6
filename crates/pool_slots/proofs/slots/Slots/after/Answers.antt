use Rattle.std.proofs.Common.{None, sym, ap, ◌∙◌, subst}
use Rattle.std.specs.Option.{option_and_then}
use Rattle.pool_slots.specs.Links.{IsChain, after_of, before_of}
use Rattle.pool_slots.proofs.Chains.{chain_after}
use Rattle.pool_slots.proofs.slots.Slots.after.Goals as goal

pub returns : goal.returns
returns g c front back split =
    let s = c.self.inside in
    let chain = subst (λ xs. IsChain (after_of s.slots s.first) (before_of s.slots s.last) None xs None) (ap (λ r. r.queue) c.self.view_is ∙ split) c.self.invariant.chain in
    c.after.ensures ∙ ap (option_and_then (λ slot. slot.links.after)) (sym c.index.ensures) ∙ chain_after _ _ front c.args.key back chain
