use Rattle.std.proofs.Common.{refl, sym, ap, ◌∙◌, subst}
use Rattle.sorted_index.specs.Pairs.{key_of, IdsBelow}
use Rattle.sorted_index.specs.Marks.{pairs_in}
use Rattle.sorted_index.proofs.There.{push_pairs}
use Rattle.sorted_index.proofs.Pushed.{push_tidy}
use Rattle.sorted_index.proofs.Keys.{key_pushed, key_push_other}
use Rattle.sorted_index.proofs.sorted_index.SortedIndex.push.Goals as goal

pub invariant_of-self : goal.invariant_of-self
invariant_of-self c =
    let above = subst (λ s. IdsBelow c.args.id s.pairs) (sym c.self.view_is) c.requires.above in
    rw c.push_reserved.ensures.items (push_tidy c.self.inside.stored.items _ c.self.inside.gone c.self.invariant above refl)

pub returns-clause-found : goal.returns-clause-found
returns-clause-found c =
    let above = subst (λ s. IdsBelow c.args.id s.pairs) (sym c.self.view_is) c.requires.above in
    let pushed = ap pairs_in c.push_reserved.ensures.items ∙ push_pairs c.self.inside.stored.items _ refl in
    ap (λ ps. key_of ps c.args.id) pushed ∙ key_pushed (pairs_in c.self.inside.stored.items) _ above

pub returns-clause-others : goal.returns-clause-others
returns-clause-others c j other =
    let pushed = ap pairs_in c.push_reserved.ensures.items ∙ push_pairs c.self.inside.stored.items _ refl in
    rw (← c.self.view_is) (ap (λ ps. key_of ps j) pushed ∙ key_push_other j (pairs_in c.self.inside.stored.items) _ other)
