use Rattle.pool_calls.proofs.Orders.{oldest_below, oldest_ticket}
use Rattle.pool_calls.proofs.waiters.Waiters.signal_oldest.Goals as goal

pub push_back-requires-clause-above : goal.push_back-requires-clause-above
push_back-requires-clause-above c =
    oldest_below c.self.inside.signalled.pairs c.self.inside.asleep.pairs c.pop_front.new.self.pairs c.in_ok-pair.pair c.in_ok-pair.ensures.pairs c.self.invariant.ascending

pub returns-clause-oldest : goal.returns-clause-oldest
returns-clause-oldest c =
    rw (← c.self.view_is) (oldest_ticket c.self.inside.overtakes c.self.inside.times.pairs c.self.inside.signalled.pairs c.self.inside.asleep.pairs c.pop_front.new.self.pairs c.in_ok-pair.pair c.in_ok-pair.ensures.pairs)
