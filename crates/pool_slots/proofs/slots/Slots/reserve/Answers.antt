use Rattle.pool_slots.proofs.Moves.{queue_reserved, rack_reserved, reserve_less}
use Rattle.pool_slots.proofs.slots.Slots.reserve.Goals as goal

pub invariant_of-self : goal.invariant_of-self
invariant_of-self g c =
    rw c.reserve.ensures.rest_kept (queue_reserved _ _ _ _ _ c.self.invariant)

pub returns-clause-full : goal.returns-clause-full
returns-clause-full g c =
    reserve_less c.reserve.result c.self.inside.slots _ _ c.args.count c.self.view_is (λ none. c.if-count-eq0.false none) c.reserve.ensures.succeeds

pub returns-clause-rest : goal.returns-clause-rest
returns-clause-rest g c =
    rack_reserved _ _ _ _ c.self.view_is c.reserve.ensures.rest_kept
