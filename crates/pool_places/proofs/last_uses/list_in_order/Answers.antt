use Rattle.std.proofs.Common.{rules}
use Rattle.std.proofs.lemmas.List.Sorted.{IsNonDecreasingBy-from_sort_by_key}
use Rattle.pool_places.proofs.Bounds.{listed_again}
use Rattle.pool_places.proofs.last_uses.list_in_order.Goals as goal

pub returns-clause-listed : goal.returns-clause-listed
returns-clause-listed g c = listed_again _ _ _ c.sort_unstable_by_key.ensures.permutation c.in_ok-list_lent.ensures

pub returns-clause-ascending : goal.returns-clause-ascending
returns-clause-ascending g c = IsNonDecreasingBy-from_sort_by_key (λ one. one.at) c.sort_unstable_by_key.new.self.items c.sort_unstable_by_key.ensures.sorted (λ a r q k. search rules)
