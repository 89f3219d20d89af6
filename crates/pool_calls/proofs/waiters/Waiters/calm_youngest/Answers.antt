use Rattle.pool_calls.proofs.Orders.{youngest_above}
use Rattle.pool_calls.proofs.waiters.Waiters.calm_youngest.Goals as goal

pub push_front-requires-clause-below : goal.push_front-requires-clause-below
push_front-requires-clause-below c =
    youngest_above c.self.inside.signalled.pairs c.self.inside.asleep.pairs c.pop_back.new.self.pairs c.in-Some.pair c.in-Some.ensures.pairs c.self.invariant.ascending
