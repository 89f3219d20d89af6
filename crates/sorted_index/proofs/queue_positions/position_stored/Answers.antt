use Rattle.std.proofs.Common.{ℕ, subst, rules}
use Rattle.std.specs.List.Sorted.{IsSearchInRange}
use Rattle.std.proofs.lemmas.List.Sorted.{answers_always}
use Rattle.sorted_index.specs.declared.stored.Stored.{Stored}
use Rattle.sorted_index.proofs.Found.{found_stored, found_nowhere}
use Rattle.sorted_index.proofs.queue_positions.position_stored.Goals as goal

pub returns-clause-found : goal.returns-clause-found
returns-clause-found c =
    let within = subst (λ (n : ℕ). IsSearchInRange c.binary_search_by_key.result n) c.args.stored.now.ok.0 c.binary_search_by_key.ensures.bound in
    rw c.ok.ensures.value (found_stored c.args.id c.args.stored.now.items c.binary_search_by_key.result within
    (c.binary_search_by_key.ensures.position (λ (s : Stored). s.pair.id) (answers_always _ _ _ (λ f a r g called. search rules))))

pub returns-clause-absent : goal.returns-clause-absent
returns-clause-absent c =
    rw c.ok.ensures.value (found_nowhere c.args.id c.args.stored.now.items c.binary_search_by_key.result c.requires
    (c.binary_search_by_key.ensures.position (λ (s : Stored). s.pair.id) (answers_always _ _ _ (λ f a r g called. search rules))))
