use Rattle.std.proofs.Common.{◌≡◌, ◌≤◌, ◌<◌, Some, None, length, reverse, ap, sym, ◌∙◌, arith, subst}
use Rattle.std.specs.Prelude.{IfSome}
use Rattle.pool_journal.specs.declared.record.Record.{Record}
use Rattle.pool_places.specs.RepInvariant.{IsWithin}
use Rattle.pool_places.specs.Stored.{entry_at, from_key}
use Rattle.pool_places.proofs.SlotLists.{known_place}
use Rattle.pool_places.proofs.Walks.{step, fewer, distinct_reverse, in_reverse, previous_is_next, within_reverse, start_here, start_parked}
use Rattle.pool_places.proofs.queue.start_after.Goals as goal

pub known-requires : goal.known-requires
known-requires g c =
    let rack = c.args.slots.now in
    let one = step (reverse rack.queue) c.loop-before.start c.before-in-loop-before.result (distinct_reverse rack.queue c.requires.rack.distinct) (in_reverse c.loop-before.start rack.queue ∙ c.loop-before.invariant) (previous_is_next rack.queue c.loop-before.start _ c.before-in-loop-before.ensures) in
    c.requires.rack.present c.in-Some.before (subst (IsWithin rack.queue) c.in-Some.is (within_reverse rack.queue _ one.within))

pub returns-then-known-position-clause-start : goal.returns-then-known-position-clause-start
returns-then-known-position-clause-start g c =
    let rack = c.args.slots.now in
    let known = known_place rack c.in-Some.before c.known.result c.known.ensures in
    let parked : (entry_at rack c.in-Some.before).parked ≤ c.args.position = omega (arith, ap (λ (r : Record). r.parked) known, c.if-known-position.true) in
    start_here (entry_at rack) c.args.position rack.queue c.loop-before.start c.before-in-loop-before.result c.requires.ascends c.loop-before.invariant c.before-in-loop-before.ensures (subst (λ o. IfSome o (λ k. (entry_at rack k).parked ≤ c.args.position)) (sym c.in-Some.is) parked)

pub loop-before-smaller : goal.loop-before-smaller
loop-before-smaller g c =
    let rack = c.args.slots.now in
    let one = step (reverse rack.queue) c.loop-before.start c.before-in-loop-before.result (distinct_reverse rack.queue c.requires.rack.distinct) (in_reverse c.loop-before.start rack.queue ∙ c.loop-before.invariant) (previous_is_next rack.queue c.loop-before.start _ c.before-in-loop-before.ensures) in
    subst (λ o. length (from_key o (reverse rack.queue)) < length (from_key (Some c.loop-before.start) (reverse rack.queue))) c.in-Some.is (fewer (reverse rack.queue) c.loop-before.start c.before-in-loop-before.result one)

pub loop-before-preserved : goal.loop-before-preserved
loop-before-preserved g c =
    let rack = c.args.slots.now in
    let one = step (reverse rack.queue) c.loop-before.start c.before-in-loop-before.result (distinct_reverse rack.queue c.requires.rack.distinct) (in_reverse c.loop-before.start rack.queue ∙ c.loop-before.invariant) (previous_is_next rack.queue c.loop-before.start _ c.before-in-loop-before.ensures) in
    subst (IsWithin rack.queue) c.in-Some.is (within_reverse rack.queue _ one.within)

pub returns-clause-start : goal.returns-clause-start
returns-clause-start g c =
    let rack = c.args.slots.now in
    let none : c.before-in-loop-before.result ≡ None = c.in_default.is in
    start_here (entry_at rack) c.args.position rack.queue c.loop-before.start c.before-in-loop-before.result c.requires.ascends c.loop-before.invariant c.before-in-loop-before.ensures (subst (λ o. IfSome o (λ k. (entry_at rack k).parked ≤ c.args.position)) (sym none) tt)

pub returns-then-known-position-clause-parked : goal.returns-then-known-position-clause-parked
returns-then-known-position-clause-parked g c =
    let rack = c.args.slots.now in
    let known = known_place rack c.in-Some.before c.known.result c.known.ensures in
    let parked : (entry_at rack c.in-Some.before).parked ≤ c.args.position = omega (arith, ap (λ (r : Record). r.parked) known, c.if-known-position.true) in
    start_parked (entry_at rack) c.args.position rack.queue c.loop-before.start c.before-in-loop-before.result c.requires.ascends c.loop-before.invariant c.before-in-loop-before.ensures (subst (λ o. IfSome o (λ k. (entry_at rack k).parked ≤ c.args.position)) (sym c.in-Some.is) parked)

pub returns-clause-parked : goal.returns-clause-parked
returns-clause-parked g c =
    let rack = c.args.slots.now in
    let none : c.before-in-loop-before.result ≡ None = c.in_default.is in
    start_parked (entry_at rack) c.args.position rack.queue c.loop-before.start c.before-in-loop-before.result c.requires.ascends c.loop-before.invariant c.before-in-loop-before.ensures (subst (λ o. IfSome o (λ k. (entry_at rack k).parked ≤ c.args.position)) (sym none) tt)
