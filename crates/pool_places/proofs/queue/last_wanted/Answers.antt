use Rattle.std.proofs.Common.{◌≡◌, true, ◌<◌, Some, length, map, reverse, ap, sym, ◌∙◌, subst}
use Rattle.std.specs.Prelude.{find}
use Rattle.std.specs.Option.{option_map}
use Rattle.pool_journal.specs.declared.record.Record.{Record}
use Rattle.pool_journal.specs.Queue.{is_idle}
use Rattle.pool_places.specs.RepInvariant.{IsWithin}
use Rattle.pool_places.specs.Stored.{entry_at, from_key}
use Rattle.pool_places.specs.QueueEntries.{QueueEntry}
use Rattle.pool_places.proofs.SlotLists.{known_place}
use Rattle.pool_places.proofs.Walks.{step, fewer, found_here, found_later, distinct_reverse, in_reverse, previous_is_next, within_reverse}
use Rattle.pool_places.proofs.queue.last_wanted.Goals as goal

pub returns-then-is_idle_phase : goal.returns-then-is_idle_phase
returns-then-is_idle_phase g c =
    let rack = c.args.slots.now in
    let there = in_reverse c.in-Some.key rack.queue ∙ subst (IsWithin rack.queue) c.in-Some.is c.loop-next.invariant.within in
    let known = known_place rack c.in-Some.key c.known-known.result c.known-known.ensures in
    let passes : (entry_at rack c.in-Some.key).is_idle ≡ true = ap (λ (r : Record). is_idle r.phase) known ∙ sym c.is_idle_phase.ensures ∙ c.if-is_idle_phase.true in
    let found = sym c.loop-next.invariant.later ∙ ap (λ o. find (λ (q : QueueEntry). q.is_idle) (map (entry_at rack) (from_key o (reverse rack.queue)))) c.in-Some.is ∙ found_here (entry_at rack) (λ q. q.is_idle) (reverse rack.queue) c.in-Some.key there passes in
    ap (λ (r : Record). Some r.id) (sym known) ∙ sym (ap (option_map (λ (q : QueueEntry). q.id)) found)

pub loop-next-smaller : goal.loop-next-smaller
loop-next-smaller g c =
    let rack = c.args.slots.now in
    let there = in_reverse c.in-Some.key rack.queue ∙ subst (IsWithin rack.queue) c.in-Some.is c.loop-next.invariant.within in
    let one = step (reverse rack.queue) c.in-Some.key c.before-next.result (distinct_reverse rack.queue c.requires.rack.distinct) there (previous_is_next rack.queue c.in-Some.key c.before-next.result c.before-next.ensures) in
    subst (λ o. length (from_key c.before-next.result (reverse rack.queue)) < length (from_key o (reverse rack.queue))) (sym c.in-Some.is) (fewer (reverse rack.queue) c.in-Some.key c.before-next.result one)

pub loop-next-preserved : goal.loop-next-preserved
loop-next-preserved g c =
    let rack = c.args.slots.now in
    let there = in_reverse c.in-Some.key rack.queue ∙ subst (IsWithin rack.queue) c.in-Some.is c.loop-next.invariant.within in
    let one = step (reverse rack.queue) c.in-Some.key c.before-next.result (distinct_reverse rack.queue c.requires.rack.distinct) there (previous_is_next rack.queue c.in-Some.key c.before-next.result c.before-next.ensures) in
    let known = known_place rack c.in-Some.key c.known-known.result c.known-known.ensures in
    let fails = ap (λ (r : Record). is_idle r.phase) known ∙ sym c.is_idle_phase.ensures ∙ c.if-is_idle_phase.false in
    record {
      within = within_reverse rack.queue c.before-next.result one.within;
      later = sym (found_later (entry_at rack) (λ q. q.is_idle) (reverse rack.queue) c.in-Some.key c.before-next.result one fails) ∙ ap (λ o. find (λ (q : QueueEntry). q.is_idle) (map (entry_at rack) (from_key o (reverse rack.queue)))) (sym c.in-Some.is) ∙ c.loop-next.invariant.later;
    }
