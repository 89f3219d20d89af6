use Rattle.std.proofs.Common.{length, ap, arith}
use Rattle.sorted_index.specs.declared.pair.Pair.{Pair}
use Rattle.sorted_index.proofs.There.{length_there}
use Rattle.sorted_index.proofs.queue_marks.make_room.Goals as goal

pub returns-then-len-capacity-clause-room : goal.returns-then-len-capacity-clause-room
returns-then-len-capacity-clause-room c =
    let ss = c.sweep.new.stored in
    omega (arith, length_there ss.items, c.sweep.ensures.trimmed.counted.counted, c.sweep.ensures.none, ss.ok.0, c.sweep.ensures.capacity, c.requires.room, ap (length {A = Pair}) c.sweep.ensures.pairs)
