use Rattle.std.proofs.Common.{◌≡◌, ◌≤◌}
use Rattle.std.specs.Vec.{vec_len, vec_capacity}
use Rattle.sorted_index.specs.Marks.{pairs_in, IsCounted}
use Rattle.sorted_index.proofs.marks.trim.Given as goal

abbrev pub invariant-loop-stored : goal.invariant-loop-stored
invariant-loop-stored l = record {
  pairs : pairs_in l.stored.items ≡ pairs_in l.initial.stored.items;
  counted : IsCounted l.stored.items l.gone;
  len : vec_len l.stored ≤ vec_len l.initial.stored;
  capacity : vec_capacity l.stored ≡ vec_capacity l.initial.stored;
}

abbrev pub decreases-loop-stored : goal.decreases-loop-stored
decreases-loop-stored l = vec_len l.stored
