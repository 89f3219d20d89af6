use Rattle.std.proofs.Common.{refl, sym, ap, ◌∙◌, subst}
use Rattle.sorted_index.specs.Pairs.{Row, IdsBelow}
use Rattle.sorted_index.proofs.Pushed.{push_trimmed}
use Rattle.sorted_index.proofs.sorted_queue.SortedQueue.push_back.Goals as goal

pub invariant_of-self : goal.invariant_of-self
invariant_of-self c =
    let above = subst (IdsBelow c.args.id) (ap (λ (q : Row). q.pairs) (sym c.self.view_is) ∙ sym c.make_room.ensures.pairs) c.requires.above in
    rw c.push_back_reserved.ensures.items (push_trimmed c.make_room.new.stored.items _ c.make_room.new.gone c.make_room.ensures.trimmed above refl)
