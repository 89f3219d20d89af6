use Rattle.std.proofs.Common.{◌∙◌}
use Rattle.sorted_index.proofs.Found.{has_by_position}
use Rattle.sorted_index.proofs.sorted_queue.SortedQueue.contains.Goals as goal

pub returns : goal.returns
returns c =
    rw (← c.self.view_is) (c.is_some.ensures ∙ has_by_position c.args.id c.self.inside.stored.items c.position_there.result c.self.invariant.counted.ascending c.position_there.ensures.there c.position_there.ensures.absent)
