use Rattle.std.proofs.Common.{arith}
use Rattle.sorted_index.proofs.There.{length_there, ascending_there}
use Rattle.sorted_index.proofs.sorted_queue.SortedQueue.len.Goals as goal

pub returns-clause-value : goal.returns-clause-value
returns-clause-value c =
    let ss = c.self.inside.stored in
    rw (← c.self.view_is) (omega (arith, length_there ss.items, c.self.invariant.counted.counted, ss.ok.0))

pub returns-clause-ascending : goal.returns-clause-ascending
returns-clause-ascending c = rw (← c.self.view_is) (ascending_there c.self.inside.stored.items c.self.invariant.counted.ascending)

pub returns-clause-within : goal.returns-clause-within
returns-clause-within c =
    let ss = c.self.inside.stored in
    rw (← c.self.view_is) (omega (arith, length_there ss.items, ss.ok.0, ss.small.1))
