use Rattle.std.proofs.Common.{◌≡◌, slice_get}
use Rattle.sorted_index.specs.Marks.{pairs_in}
use Rattle.sorted_index.proofs.reading.pair_there.Given as goal

abbrev pub invariant-loop-pair : goal.invariant-loop-pair
invariant-loop-pair l = slice_get l.pair-iterator l.left ≡ slice_get (pairs_in l.stored) l.position
