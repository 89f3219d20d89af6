use Rattle.std.proofs.Common.{◌≡◌, true, ◌<◌, Some, length, map, ap, sym, ◌∙◌, subst}
use Rattle.std.specs.Prelude.{find}
use Rattle.std.specs.Option.{option_map}
use Rattle.pool_journal.specs.declared.record.Record.{Record}
use Rattle.pool_places.specs.RepInvariant.{IsWithin}
use Rattle.pool_places.specs.Stored.{entry_at, entry_of, from_key}
use Rattle.pool_places.specs.QueueEntries.{QueueEntry, is_wanted}
use Rattle.pool_places.proofs.SlotLists.{known_place}
use Rattle.pool_places.proofs.Walks.{step, fewer, found_here, found_later}
use Rattle.pool_places.proofs.queue.first_wanted.Goals as goal

pub returns-then-is_wanted_record : goal.returns-then-is_wanted_record
returns-then-is_wanted_record g c =
    let rack = c.args.slots.now in
    let there = subst (IsWithin rack.queue) c.in-Some.is c.loop-next.invariant.within in
    let known = known_place rack c.in-Some.key c.known-known.result c.known-known.ensures in
    let passes : is_wanted c.args.after (entry_at rack c.in-Some.key) ≡ true = ap (λ (r : Record). is_wanted c.args.after (entry_of r)) known ∙ sym c.is_wanted_record.ensures ∙ c.if-is_wanted_record.true in
    let found = sym c.loop-next.invariant.later ∙ ap (λ o. find (is_wanted c.args.after) (map (entry_at rack) (from_key o rack.queue))) c.in-Some.is ∙ found_here (entry_at rack) (is_wanted c.args.after) rack.queue c.in-Some.key there passes in
    ap (λ (r : Record). Some r.id) (sym known) ∙ sym (ap (option_map (λ (q : QueueEntry). q.id)) found)

pub loop-next-smaller : goal.loop-next-smaller
loop-next-smaller g c =
    let rack = c.args.slots.now in
    let there = subst (IsWithin rack.queue) c.in-Some.is c.loop-next.invariant.within in
    let one = step rack.queue c.in-Some.key c.after-next.result c.requires.rack.distinct there c.after-next.ensures in
    subst (λ o. length (from_key c.after-next.result rack.queue) < length (from_key o rack.queue)) (sym c.in-Some.is) (fewer rack.queue c.in-Some.key c.after-next.result one)

pub loop-next-preserved : goal.loop-next-preserved
loop-next-preserved g c =
    let rack = c.args.slots.now in
    let there = subst (IsWithin rack.queue) c.in-Some.is c.loop-next.invariant.within in
    let one = step rack.queue c.in-Some.key c.after-next.result c.requires.rack.distinct there c.after-next.ensures in
    let known = known_place rack c.in-Some.key c.known-known.result c.known-known.ensures in
    let fails = ap (λ (r : Record). is_wanted c.args.after (entry_of r)) known ∙ sym c.is_wanted_record.ensures ∙ c.if-is_wanted_record.false in
    record {
      within = one.within;
      later = sym (found_later (entry_at rack) (is_wanted c.args.after) rack.queue c.in-Some.key c.after-next.result one fails) ∙ ap (λ o. find (is_wanted c.args.after) (map (entry_at rack) (from_key o rack.queue))) (sym c.in-Some.is) ∙ c.loop-next.invariant.later;
    }
