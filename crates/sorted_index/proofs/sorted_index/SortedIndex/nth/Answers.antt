use Rattle.std.proofs.Common.{slice_get, ap, sym, ◌∙◌, arith}
use Rattle.sorted_index.specs.Marks.{all_in}
use Rattle.sorted_index.proofs.There.{none_marked}
use Rattle.sorted_index.proofs.sorted_index.SortedIndex.nth.Goals as goal

pub returns-then-self-eq0 : goal.returns-then-self-eq0
returns-then-self-eq0 c =
    let ss = c.self.inside.stored.items in
    let all = none_marked ss (omega (arith, c.self.invariant.counted.counted, c.if-self-eq0.true)) in
    rw (← c.self.view_is) (c.pair_stored.ensures ∙ ap (λ ts. slice_get (all_in ts) c.args.position) (c.deref.ensures.value ∙ sym all))
