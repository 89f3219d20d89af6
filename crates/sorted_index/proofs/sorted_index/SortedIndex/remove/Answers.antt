use Rattle.std.proofs.Common.{refl, ap, subst, ◌∙◌}
use Rattle.sorted_index.specs.Marks.{pairs_in, IsThereAt}
use Rattle.sorted_index.specs.Pairs.{key_of}
use Rattle.sorted_index.proofs.Found.{key_there}
use Rattle.sorted_index.proofs.Keys.{key_without, key_without_other}
use Rattle.sorted_index.proofs.Marked.{mark_pairs, mark_counted}
use Rattle.sorted_index.proofs.sorted_index.SortedIndex.remove.Goals as goal

pub tidy-requires : goal.tidy-requires
tidy-requires c =
    let at = subst (λ xs. IsThereAt xs c.args.id c.in-Some.position) c.deref.ensures.value c.in-Some.ensures.there in
    mark_counted c.args.id c.in-Some.position c.self.inside.gone _ c.index_mut-taken.result.now c.self.inside.stored.items c.self.invariant.counted at c.index_mut-taken.ensures.value refl refl

pub returns-clause-value : goal.returns-clause-value
returns-clause-value c =
    let at = subst (λ xs. IsThereAt xs c.args.id c.in-Some.position) c.deref.ensures.value c.in-Some.ensures.there in
    rw (← c.self.view_is) (key_there c.args.id c.in-Some.position c.index_mut-taken.result.now c.self.inside.stored.items c.self.invariant.counted.ascending at c.index_mut-taken.ensures.value)

pub returns-clause-gone : goal.returns-clause-gone
returns-clause-gone c =
    let at = subst (λ xs. IsThereAt xs c.args.id c.in-Some.position) c.deref.ensures.value c.in-Some.ensures.there in
    let left = c.tidy.ensures.pairs ∙ mark_pairs c.args.id c.in-Some.position _ c.index_mut-taken.result.now c.self.inside.stored.items c.self.invariant.counted.ascending at refl in
    ap (λ ps. key_of ps c.args.id) left ∙ key_without c.args.id (pairs_in c.self.inside.stored.items)

pub returns-clause-others : goal.returns-clause-others
returns-clause-others c j other =
    let at = subst (λ xs. IsThereAt xs c.args.id c.in-Some.position) c.deref.ensures.value c.in-Some.ensures.there in
    let left = c.tidy.ensures.pairs ∙ mark_pairs c.args.id c.in-Some.position _ c.index_mut-taken.result.now c.self.inside.stored.items c.self.invariant.counted.ascending at refl in
    rw (← c.self.view_is) (ap (λ ps. key_of ps j) left ∙ key_without_other c.args.id j (pairs_in c.self.inside.stored.items) other)

pub returns-clause-pairs : goal.returns-clause-pairs
returns-clause-pairs c =
    let at = subst (λ xs. IsThereAt xs c.args.id c.in-Some.position) c.deref.ensures.value c.in-Some.ensures.there in
    rw (← c.self.view_is) (c.tidy.ensures.pairs ∙ mark_pairs c.args.id c.in-Some.position _ c.index_mut-taken.result.now c.self.inside.stored.items c.self.invariant.counted.ascending at refl)
