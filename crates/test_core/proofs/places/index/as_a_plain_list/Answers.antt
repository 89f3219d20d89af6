use Rattle.std.proofs.Common.{◌+◌}
use Rattle.test_core.proofs.places.index.as_a_plain_list.Goals as goal

pub loop-id-preserved : goal.loop-id-preserved
loop-id-preserved g c =
    c.take-in-loop-id.ensures (c.loop-id.id + 1) (c.take.ensures (c.loop-id.id + 1) c.add.ensures)
