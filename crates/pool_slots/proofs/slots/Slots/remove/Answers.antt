use Rattle.std.proofs.Common.{None}
use Rattle.pool_slots.proofs.Moves.{apart, room_given}
use Rattle.pool_slots.proofs.slots.Slots.remove.Goals as goal

pub invariant_of-self : goal.invariant_of-self
invariant_of-self g c =
    (apart _ _ _ _ _ c.args.key None c.self.view_is c.self.invariant c.remove-value.ensures.updates c.requires.out).queue

pub returns-clause-sets : goal.returns-clause-sets
returns-clause-sets g c =
    (apart _ _ _ _ _ c.args.key None c.self.view_is c.self.invariant c.remove-value.ensures.updates c.requires.out).sets

pub returns-clause-queue : goal.returns-clause-queue
returns-clause-queue g c =
    (apart _ _ _ _ _ c.args.key None c.self.view_is c.self.invariant c.remove-value.ensures.updates c.requires.out).keys

pub returns-clause-room : goal.returns-clause-room
returns-clause-room g c =
    room_given c.self.inside.slots c.remove-value.new.self _ _ c.self.view_is c.remove-value.ensures.len c.remove-value.ensures.capacity c.remove-value.ensures.room
