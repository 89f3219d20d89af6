use Rattle.std.proofs.Common.{◌∙◌}
use Rattle.std.proofs.lemmas.Option.{IfSome_then}
use Rattle.pool_slots.proofs.Items.{present_same}
use Rattle.pool_slots.proofs.Moves.{queue_seen, present_seen, next_good, previous_good, between, linked_before, requeued}
use Rattle.pool_slots.proofs.Queues.{as_queue}
use Rattle.pool_slots.proofs.slots.Slots.link_before.Goals as goal

pub place_before-before-requires : goal.place_before-before-requires
place_before-before-requires g c =
    next_good _ _ _ _ c.args.next (queue_seen _ _ _ _ c.self.view_is c.self.invariant) c.requires.next

pub join-requires-clause-before : goal.join-requires-clause-before
join-requires-clause-before g c =
    previous_good _ _ _ _ c.args.next _ (queue_seen _ _ _ _ c.self.view_is c.self.invariant) c.requires.next c.place_before-before.ensures

pub join-requires-2-clause-after : goal.join-requires-2-clause-after
join-requires-2-clause-after g c =
    IfSome_then c.args.next (next_good _ _ _ _ c.args.next (queue_seen _ _ _ _ c.self.view_is c.self.invariant) c.requires.next) (present_same c.self.inside.slots c.join.new.slots c.join.ensures.items)

pub invariant_of-self : goal.invariant_of-self
invariant_of-self g c =
    let done = between c.self.inside.slots c.join.new.slots c.join-2.new.slots _ _ _ _ _ _ c.args.key c.args.next _ c.place_before-before.ensures c.join.ensures.forward c.join.ensures.backward c.join-2.ensures.forward c.join-2.ensures.backward in
    as_queue c.join-2.new.slots c.join-2.new.first c.join-2.new.last _ (linked_before c.self.inside.slots c.join.new.slots c.join-2.new.slots _ _ _ _ _ _ _ c.args.key c.args.next (queue_seen _ _ _ _ c.self.view_is c.self.invariant) c.requires.out c.requires.next (present_seen c.self.inside.slots _ _ c.args.key c.self.view_is c.requires.present) (c.join-2.ensures.items ∙ c.join.ensures.items) done)

pub returns : goal.returns
returns g c =
    let done = between c.self.inside.slots c.join.new.slots c.join-2.new.slots _ _ _ _ _ _ c.args.key c.args.next _ c.place_before-before.ensures c.join.ensures.forward c.join.ensures.backward c.join-2.ensures.forward c.join-2.ensures.backward in
    requeued c.self.inside.slots c.join-2.new.slots c.self.inside.first c.join-2.new.first c.join-2.new.last _ _ c.self.view_is (c.join-2.ensures.items ∙ c.join.ensures.items) (c.join-2.ensures.capacity ∙ c.join.ensures.capacity) (linked_before c.self.inside.slots c.join.new.slots c.join-2.new.slots _ _ _ _ _ _ _ c.args.key c.args.next (queue_seen _ _ _ _ c.self.view_is c.self.invariant) c.requires.out c.requires.next (present_seen c.self.inside.slots _ _ c.args.key c.self.view_is c.requires.present) (c.join-2.ensures.items ∙ c.join.ensures.items) done)
