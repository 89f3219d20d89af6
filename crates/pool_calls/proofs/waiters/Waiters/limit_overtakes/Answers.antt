use Rattle.std.proofs.Common.{◌≤◌, ◌++◌, sym, ◌∙◌, arith}
use Rattle.std.specs.Prelude.{map}
use Rattle.pool_calls.specs.Order.{waiter_of}
use Rattle.pool_calls.specs.Waiting.{most_overtaken}
use Rattle.pool_calls.proofs.Orders.{limited_queue, most_of_first, most_of_none}
use Rattle.pool_calls.proofs.waiters.Waiters.limit_overtakes.Goals as goal
use Rattle.pool_calls.proofs.waiters.Waiters.limit_overtakes.Goals.{in-None, in-Some}

pub invariant_of-self : goal.invariant_of-self
invariant_of-self c =
    let q = c.self.inside in
    let pairs = q.signalled.pairs ++ q.asleep.pairs in
    let within : most_overtaken (map (waiter_of q.overtakes q.times.pairs) pairs) ≤ c.max-self-inside.result =
    elim c.match-oldest.branch [
      | in-None w ↦ omega (arith, most_of_none q.overtakes q.times.pairs pairs (sym c.oldest.ensures ∙ w.in-None.is))
      | in-Some w ↦ omega (arith, most_of_first q.overtakes q.times.pairs pairs w.in-Some.pair (sym c.oldest.ensures ∙ w.in-Some.is), w.overtaken-is, c.max-self-inside.ensures)
    ]
    in
    limited_queue q.latest q.drawn q.overtakes q.max_overtakes c.max-self-inside.result q.signalled q.asleep q.times c.self.invariant within
