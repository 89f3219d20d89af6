use Rattle.pool_slots.proofs.Moves.{queue_seen, before_good, after_good, unlinked_slot, requeued}
use Rattle.pool_slots.proofs.Queues.{as_queue}
use Rattle.pool_slots.proofs.slots.Slots.unlink.Goals as goal

pub join-requires-clause-before : goal.join-requires-clause-before
join-requires-clause-before g c =
    before_good _ _ _ _ c.args.key c.index-slot.result.now _ (queue_seen _ _ _ _ c.self.view_is c.self.invariant) c.requires c.index-slot.ensures c.before-before.ensures

pub join-requires-clause-after : goal.join-requires-clause-after
join-requires-clause-after g c =
    after_good _ _ _ _ c.args.key c.index-slot.result.now _ (queue_seen _ _ _ _ c.self.view_is c.self.invariant) c.requires c.index-slot.ensures c.after-after.ensures

pub invariant_of-self : goal.invariant_of-self
invariant_of-self g c =
    as_queue c.join.new.slots c.join.new.first c.join.new.last _ (unlinked_slot _ _ _ _ _ _ _ c.args.key c.index-slot.result.now _ _ (queue_seen _ _ _ _ c.self.view_is c.self.invariant) c.requires c.index-slot.ensures c.before-before.ensures c.after-after.ensures c.join.ensures.items c.join.ensures.forward c.join.ensures.backward)

pub returns : goal.returns
returns g c =
    requeued c.self.inside.slots c.join.new.slots c.self.inside.first c.join.new.first c.join.new.last _ _ c.self.view_is c.join.ensures.items c.join.ensures.capacity (unlinked_slot _ _ _ _ _ _ _ c.args.key c.index-slot.result.now _ _ (queue_seen _ _ _ _ c.self.view_is c.self.invariant) c.requires c.index-slot.ensures c.before-before.ensures c.after-after.ensures c.join.ensures.items c.join.ensures.forward c.join.ensures.backward)
