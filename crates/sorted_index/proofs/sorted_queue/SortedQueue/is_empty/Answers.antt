use Rattle.std.proofs.Common.{◌==◌, ap, ◌∙◌}
use Rattle.sorted_index.proofs.There.{empty_alike}
use Rattle.sorted_index.proofs.sorted_queue.SortedQueue.is_empty.Goals as goal

pub returns : goal.returns
returns c =
    let ss = c.self.inside.stored in
    rw (← c.self.view_is) (c.is_empty.ensures ∙ ap (λ n. n == 0) ss.ok.0 ∙ empty_alike ss.items c.self.invariant.first)
