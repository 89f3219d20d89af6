use Rattle.std.proofs.Common.{◌||◌, sym, ap, ◌∙◌, arith}
use Rattle.sorted_index.specs.Pairs.{has_id}
use Rattle.pool_calls.proofs.Orders.{waited, left, left_signalled, left_queue, left_fewer}
use Rattle.pool_calls.proofs.waiters.Waiters.leave.Goals as goal

pub invariant_of-self : goal.invariant_of-self
invariant_of-self c =
    let q = c.self.inside in
    let signalled = c.remove-was_signalled in
    let asleep = c.remove-was_asleep in
    left_queue c.args.ticket q.latest q.drawn q.overtakes q.max_overtakes q.signalled q.asleep q.times signalled.new.self asleep.new.self c.remove.new.self c.self.invariant signalled.ensures.pairs asleep.ensures.pairs c.remove.ensures.pairs signalled.ensures.capacity asleep.ensures.capacity c.remove.ensures.capacity

pub returns-clause-waited : goal.returns-clause-waited
returns-clause-waited c =
    let q = c.self.inside in
    rw (← c.self.view_is) (ap (λ b. b || c.remove-was_asleep.result) c.remove-was_signalled.ensures.had ∙ ap (λ b. has_id c.args.ticket q.signalled.pairs || b) c.remove-was_asleep.ensures.had ∙ sym (waited c.args.ticket q.overtakes q.times.pairs q.signalled.pairs q.asleep.pairs))

pub returns-clause-waiting : goal.returns-clause-waiting
returns-clause-waiting c =
    let q = c.self.inside in
    rw (← c.self.view_is) (left c.args.ticket q.overtakes q.times.pairs q.signalled.pairs q.asleep.pairs _ _ _ c.remove.ensures.pairs c.remove-was_signalled.ensures.pairs c.remove-was_asleep.ensures.pairs)

pub returns-clause-signalled : goal.returns-clause-signalled
returns-clause-signalled c =
    let q = c.self.inside in
    rw (← c.self.view_is) (left_signalled c.args.ticket q.overtakes q.times.pairs q.signalled.pairs q.asleep.pairs _ c.remove-was_signalled.ensures.pairs)

pub returns-clause-spare : goal.returns-clause-spare
returns-clause-spare c =
    let q = c.self.inside in
    rw (← c.self.view_is) (omega (arith, left_fewer c.args.ticket q.signalled.pairs q.asleep.pairs _ _ c.remove-was_signalled.ensures.pairs c.remove-was_asleep.ensures.pairs, c.remove-was_signalled.ensures.capacity, c.remove-was_asleep.ensures.capacity, c.remove.ensures.capacity))
