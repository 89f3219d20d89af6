use Rattle.std.proofs.Common.{◌≡◌, ◌≢◌, ℕ, nat_lt, map, ap, sym, ◌∙◌, subst}
use Rattle.std.specs.List.{AllByRecursion}
use Rattle.pool_journal.specs.declared.record.Record.{Record}
use Rattle.pool_slots.specs.SlotsModel.{SlotsModel, is_in, put_before}
use Rattle.pool_places.specs.RepInvariant.{IsWithin}
use Rattle.pool_places.specs.Stored.{entry_at, parked_of, first_parked}
use Rattle.pool_places.specs.QueueEntries.{IsAscendingQueue}
use Rattle.pool_places.proofs.SlotLists.{known_place}
use Rattle.pool_places.proofs.Walks.{found_in, in_put_here, in_put_other, ascends_put}
use Rattle.pool_places.proofs.queue.enter.Goals as goal

pub returns-then-is_queued_phase-clause-here : goal.returns-then-is_queued_phase-clause-here
returns-then-is_queued_phase-clause-here g c =
    ap (λ (r : SlotsModel g.row.T.Denot). is_in c.args.key r.queue) c.link_before.ensures ∙ in_put_here c.args.key c.first_after-next.result c.args.slots.now.queue ∙ sym c.if-is_queued_phase.true ∙ c.is_queued_phase.ensures

pub returns-then-is_queued_phase-clause-others : goal.returns-then-is_queued_phase-clause-others
returns-then-is_queued_phase-clause-others g c other apart =
    ap (λ (r : SlotsModel g.row.T.Denot). is_in other r.queue) c.link_before.ensures ∙ in_put_other other c.args.key c.first_after-next.result c.args.slots.now.queue apart

pub returns-then-is_queued_phase-clause-ascends : goal.returns-then-is_queued_phase-clause-ascends
returns-then-is_queued_phase-clause-ascends g c =
    let rack = c.args.slots.now in
    let at : (entry_at rack c.args.key).parked ≡ c.args.known.parked = ap (λ (r : Record). r.parked) (known_place rack c.args.key c.args.known c.requires.known) in
    let free = subst (λ (n : ℕ). AllByRecursion (λ q. q.parked ≢ n) (parked_of rack)) (sym at) (c.requires.free (sym c.is_queued_phase.ensures ∙ c.if-is_queued_phase.true)) in
    let up = ascends_put (entry_at rack) c.args.key rack.queue c.first_after-next.ensures.rack.distinct c.requires.ascends free in
    let next = ap (λ (n : ℕ). first_parked rack n rack.queue) at ∙ sym c.first_after-next.ensures.first in
    subst (λ r. IsAscendingQueue (parked_of r)) (sym c.link_before.ensures) (subst (λ o. IsAscendingQueue (map (entry_at rack) (put_before o c.args.key rack.queue))) next up)

pub returns-then-is_queued_phase-clause-remembered : goal.returns-then-is_queued_phase-clause-remembered
returns-then-is_queued_phase-clause-remembered g c =
    ap (λ (r : SlotsModel g.row.T.Denot). is_in c.args.key r.queue) c.link_before.ensures ∙ in_put_here c.args.key c.first_after-next.result c.args.slots.now.queue

pub link_before-requires-clause-next : goal.link_before-requires-clause-next
link_before-requires-clause-next g c =
    let rack = c.args.slots.now in
    subst (λ o. IsWithin rack.queue o) (sym c.first_after-next.ensures.first) (found_in (λ k. nat_lt c.args.known.parked (entry_at rack k).parked) rack.queue)
