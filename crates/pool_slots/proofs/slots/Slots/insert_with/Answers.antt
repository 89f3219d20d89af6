use Rattle.std.proofs.Common.{ap, ◌∙◌}
use Rattle.pool_slots.specs.SlotsModel.{is_in}
use Rattle.pool_slots.proofs.Moves.{apart, vacant_apart, room_taken}
use Rattle.pool_slots.proofs.slots.Slots.insert_with.Goals as goal

pub invariant_of-self : goal.invariant_of-self
invariant_of-self g c =
    (apart _ _ _ _ _ c.insert_reserved.result _ c.self.view_is c.self.invariant c.insert_reserved.ensures.updates (vacant_apart _ _ _ _ c.insert_reserved.result c.self.view_is c.self.invariant c.insert_reserved.ensures.was_vacant)).queue

pub returns-clause-sets : goal.returns-clause-sets
returns-clause-sets g c =
    (apart _ _ _ _ _ c.insert_reserved.result _ c.self.view_is c.self.invariant c.insert_reserved.ensures.updates (vacant_apart _ _ _ _ c.insert_reserved.result c.self.view_is c.self.invariant c.insert_reserved.ensures.was_vacant)).sets

pub returns-clause-queue : goal.returns-clause-queue
returns-clause-queue g c =
    (apart _ _ _ _ _ c.insert_reserved.result _ c.self.view_is c.self.invariant c.insert_reserved.ensures.updates (vacant_apart _ _ _ _ c.insert_reserved.result c.self.view_is c.self.invariant c.insert_reserved.ensures.was_vacant)).keys

pub returns-clause-out : goal.returns-clause-out
returns-clause-out g c =
    ap (is_in c.insert_reserved.result) (apart _ _ _ _ _ c.insert_reserved.result _ c.self.view_is c.self.invariant c.insert_reserved.ensures.updates (vacant_apart _ _ _ _ c.insert_reserved.result c.self.view_is c.self.invariant c.insert_reserved.ensures.was_vacant)).keys ∙ vacant_apart _ _ _ _ c.insert_reserved.result c.self.view_is c.self.invariant c.insert_reserved.ensures.was_vacant

pub returns-clause-room : goal.returns-clause-room
returns-clause-room g c =
    room_taken c.self.inside.slots c.insert_reserved.new.self _ _ c.self.view_is c.insert_reserved.ensures.len c.insert_reserved.ensures.capacity c.requires
