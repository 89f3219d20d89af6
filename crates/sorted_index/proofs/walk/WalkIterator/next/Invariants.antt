use Rattle.std.proofs.Common.{◌≡◌, length}
use Rattle.sorted_index.specs.Marks.{pairs_in}
use Rattle.sorted_index.proofs.walk.WalkIterator.next.Given as goal

abbrev pub invariant-loop-self : goal.invariant-loop-self
invariant-loop-self l = pairs_in l.self-inside.rest.now ≡ pairs_in l.initial.self-inside.rest.now

abbrev pub decreases-loop-self : goal.decreases-loop-self
decreases-loop-self l = length l.self-inside.rest.now
