use Rattle.sorted_index.specs.Pairs.{IdsBelow}
use Rattle.test_core.proofs.places.index.as_a_plain_list.Given as goal

abbrev pub invariant-loop-id : goal.invariant-loop-id
invariant-loop-id g l = IdsBelow l.id l.index.pairs
