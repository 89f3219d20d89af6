use Rattle.std.proofs.Common.{rules}
use Rattle.std.proofs.lemmas.List.Sorted.{answers_always}
use Rattle.sorted_index.specs.declared.stored.Stored.{Stored}
use Rattle.sorted_index.proofs.Found.{found_stored, found_nowhere}
use Rattle.sorted_index.proofs.positions.position_searched.Goals as goal

pub returns-clause-found : goal.returns-clause-found
returns-clause-found c =
    rw c.ok.ensures.value (found_stored c.args.id c.args.stored.now c.binary_search_by_key.result c.binary_search_by_key.ensures.bound
    (c.binary_search_by_key.ensures.position (λ (s : Stored). s.pair.id) (answers_always _ _ _ (λ f a r g called. search rules))))

pub returns-clause-absent : goal.returns-clause-absent
returns-clause-absent c =
    rw c.ok.ensures.value (found_nowhere c.args.id c.args.stored.now c.binary_search_by_key.result c.requires
    (c.binary_search_by_key.ensures.position (λ (s : Stored). s.pair.id) (answers_always _ _ _ (λ f a r g called. search rules))))
