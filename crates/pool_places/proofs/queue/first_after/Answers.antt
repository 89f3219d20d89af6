use Rattle.std.proofs.Common.{◌≡◌, ◌<◌, true, false, length, ap, sym, ◌∙◌, subst, arith, nat_lt}
use Rattle.std.proofs.lemmas.Bool.{lt-ltb, le-ltb}
use Rattle.pool_journal.specs.declared.record.Record.{Record}
use Rattle.pool_places.specs.RepInvariant.{IsWithin}
use Rattle.pool_places.specs.Stored.{entry_at, first_parked, from_key}
use Rattle.pool_places.proofs.SlotLists.{known_place}
use Rattle.pool_places.proofs.Walks.{step, fewer, key_here, key_later, none_first}
use Rattle.pool_places.proofs.queue.first_after.Goals as goal

pub returns-in_err-first-clause-first : goal.returns-in_err-first-clause-first
returns-in_err-first-clause-first g c =
    let rack = c.args.slots.now in
    let none = none_first rack.queue (sym c.first.ensures.first ∙ c.in_err-first.was) in
    c.from_residual.ensures ∙ sym (ap (first_parked rack c.args.position) none)

pub returns-then-known-position-clause-first : goal.returns-then-known-position-clause-first
returns-then-known-position-clause-first g c =
    let rack = c.args.slots.now in
    let there = subst (IsWithin rack.queue) c.in-Some.is c.loop-next.invariant.within in
    let known = known_place rack c.in-Some.key c.known.result c.known.ensures in
    let passes : nat_lt c.args.position (entry_at rack c.in-Some.key).parked ≡ true = lt-ltb c.args.position (entry_at rack c.in-Some.key).parked (omega (arith, ap (λ (r : Record). r.parked) known, c.if-known-position.true)) in
    sym (key_here (λ k. nat_lt c.args.position (entry_at rack k).parked) rack.queue c.in-Some.key there passes) ∙ ap (λ o. first_parked rack c.args.position (from_key o rack.queue)) (sym c.in-Some.is) ∙ c.loop-next.invariant.later

pub loop-next-smaller : goal.loop-next-smaller
loop-next-smaller g c =
    let rack = c.args.slots.now in
    let there = subst (IsWithin rack.queue) c.in-Some.is c.loop-next.invariant.within in
    let one = step rack.queue c.in-Some.key c.after-next.result c.first.ensures.rack.distinct there c.after-next.ensures in
    subst (λ o. length (from_key c.after-next.result rack.queue) < length (from_key o rack.queue)) (sym c.in-Some.is) (fewer rack.queue c.in-Some.key c.after-next.result one)

pub loop-next-preserved : goal.loop-next-preserved
loop-next-preserved g c =
    let rack = c.args.slots.now in
    let there = subst (IsWithin rack.queue) c.in-Some.is c.loop-next.invariant.within in
    let one = step rack.queue c.in-Some.key c.after-next.result c.first.ensures.rack.distinct there c.after-next.ensures in
    let known = known_place rack c.in-Some.key c.known.result c.known.ensures in
    let fails : nat_lt c.args.position (entry_at rack c.in-Some.key).parked ≡ false = le-ltb c.args.position (entry_at rack c.in-Some.key).parked (omega (arith, ap (λ (r : Record). r.parked) known, c.if-known-position.false)) in
    record {
      within = one.within;
      later = sym (key_later (λ k. nat_lt c.args.position (entry_at rack k).parked) rack.queue c.in-Some.key c.after-next.result one fails) ∙ ap (λ o. first_parked rack c.args.position (from_key o rack.queue)) (sym c.in-Some.is) ∙ c.loop-next.invariant.later;
    }
