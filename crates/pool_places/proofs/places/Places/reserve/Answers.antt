use Rattle.std.proofs.Common.{sym, subst}
use Rattle.pool_places.specs.RepInvariant.{RepInvariant}
use Rattle.pool_places.proofs.Turned.{kept_reserved}
use Rattle.pool_places.proofs.places.Places.reserve.Goals as goal

pub invariant_of-self : goal.invariant_of-self
invariant_of-self g c = subst (λ r. RepInvariant r c.self.inside.index.pairs c.self.inside.counts c.self.inside.remembered c.self.inside.uses) (sym c.reserve.ensures.rest) (kept_reserved c.self.inside.slots _ _ _ _ c.reserve.new.self.room c.self.invariant)

pub invariant_of-self-2 : goal.invariant_of-self-2
invariant_of-self-2 g c =
    let kept = subst (λ r. RepInvariant r c.self.inside.index.pairs c.self.inside.counts c.self.inside.remembered c.self.inside.uses) (sym c.reserve.ensures.rest) (kept_reserved c.self.inside.slots _ _ _ _ c.reserve.new.self.room c.self.invariant) in
    subst (λ ps. RepInvariant c.reserve.new.self ps c.self.inside.counts c.self.inside.remembered c.self.inside.uses) (sym c.reserve-2.ensures.pairs) kept
