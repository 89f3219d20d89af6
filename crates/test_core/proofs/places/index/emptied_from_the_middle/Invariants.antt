use Rattle.sorted_index.specs.Pairs.{IdsBelow}
use Rattle.test_core.proofs.places.index.emptied_from_the_middle.Given as goal

abbrev pub invariant-loop-id : goal.invariant-loop-id
invariant-loop-id g l = IdsBelow l.id l.index.pairs

abbrev pub invariant-loop-distance : goal.invariant-loop-distance
invariant-loop-distance g l = Unit {0}
