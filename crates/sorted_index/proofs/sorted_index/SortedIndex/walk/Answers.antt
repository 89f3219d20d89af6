use Rattle.sorted_index.proofs.There.{ascending_there}
use Rattle.sorted_index.proofs.sorted_index.SortedIndex.walk.Goals as goal

pub returns-clause-ascending : goal.returns-clause-ascending
returns-clause-ascending c = rw (← c.self.view_is) (ascending_there c.self.inside.stored.items c.self.invariant.counted.ascending)
