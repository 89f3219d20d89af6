use Rattle.std.proofs.Common.{sym, ◌∙◌}
use Rattle.std.proofs.lemmas.List.{length-map}
use Rattle.pool_calls.specs.Order.{waiter_of}
use Rattle.pool_calls.proofs.Orders.{fair_waiters}
use Rattle.pool_calls.proofs.Times.{by_arrival, timed_few}
use Rattle.pool_calls.proofs.waiters.Waiters.len.Goals as goal

pub returns-clause-value : goal.returns-clause-value
returns-clause-value c =
    let q = c.self.inside in
    rw (← c.self.view_is) (c.len.ensures.value ∙ timed_few q.latest _ _ c.self.invariant.timed ∙ sym (length-map _ (waiter_of q.overtakes q.times.pairs)))

pub returns-clause-arrival : goal.returns-clause-arrival
returns-clause-arrival c = rw (← c.self.view_is) (by_arrival c.self.inside.overtakes c.self.inside.latest _ _ c.self.invariant.ascending c.self.invariant.timed)

pub returns-clause-fair : goal.returns-clause-fair
returns-clause-fair c = rw (← c.self.view_is) (fair_waiters c.self.inside.overtakes c.self.inside.max_overtakes c.self.inside.times.pairs _ c.self.invariant.fair)
