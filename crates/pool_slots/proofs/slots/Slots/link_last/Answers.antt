use Rattle.std.proofs.Common.{◌∙◌}
use Rattle.pool_slots.proofs.Moves.{queue_seen, present_seen, last_good, linked_last, requeued}
use Rattle.pool_slots.proofs.Queues.{as_queue}
use Rattle.pool_slots.proofs.slots.Slots.link_last.Goals as goal

pub join-requires-clause-before : goal.join-requires-clause-before
join-requires-clause-before g c =
    last_good _ _ _ _ (queue_seen _ _ _ _ c.self.view_is c.self.invariant)

pub invariant_of-self : goal.invariant_of-self
invariant_of-self g c =
    as_queue c.join-2.new.slots c.join-2.new.first c.join-2.new.last _ (linked_last c.self.inside.slots c.join.new.slots c.join-2.new.slots _ _ _ _ _ _ _ c.args.key (queue_seen _ _ _ _ c.self.view_is c.self.invariant) c.requires.out (present_seen c.self.inside.slots _ _ c.args.key c.self.view_is c.requires.present) (c.join-2.ensures.items ∙ c.join.ensures.items) (record { forward = c.join.ensures.forward; backward = c.join.ensures.backward; to_end = c.join-2.ensures.forward; from_end = c.join-2.ensures.backward }))

pub returns : goal.returns
returns g c =
    requeued c.self.inside.slots c.join-2.new.slots c.self.inside.first c.join-2.new.first c.join-2.new.last _ _ c.self.view_is (c.join-2.ensures.items ∙ c.join.ensures.items) (c.join-2.ensures.capacity ∙ c.join.ensures.capacity) (linked_last c.self.inside.slots c.join.new.slots c.join-2.new.slots _ _ _ _ _ _ _ c.args.key (queue_seen _ _ _ _ c.self.view_is c.self.invariant) c.requires.out (present_seen c.self.inside.slots _ _ c.args.key c.self.view_is c.requires.present) (c.join-2.ensures.items ∙ c.join.ensures.items) (record { forward = c.join.ensures.forward; backward = c.join.ensures.backward; to_end = c.join-2.ensures.forward; from_end = c.join-2.ensures.backward }))
