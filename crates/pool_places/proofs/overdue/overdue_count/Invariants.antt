use Rattle.std.proofs.Common.{◌≡◌, ◌+◌}
use Rattle.std.specs.Prelude.{count_by}
use Rattle.std.specs.List.{AllByRecursion}
use Rattle.pool_places.specs.Overdue.{is_overdue}
use Rattle.pool_places.specs.PlacesModel.{records_in}
use Rattle.pool_places.specs.Stored.{objects_of}
use Rattle.pool_places.proofs.SlotLists.{Good}
use Rattle.pool_places.proofs.overdue.overdue_count.Given as goal

abbrev pub invariant-loop-pair : goal.invariant-loop-pair
invariant-loop-pair g l = record {
  can_next : (goal.iterator-loop-pair g).can_next l.pair-iterator;
  is_finite : (goal.iterator-loop-pair g).is_finite l.pair-iterator;
  good : AllByRecursion (Good l.slots l.index.pairs) l.pair-iterator;
  later : l.count + count_by (is_overdue l.at l.timeout) (records_in (objects_of l.slots l.pair-iterator)) ≡ count_by (is_overdue l.at l.timeout) (records_in (objects_of l.slots l.index.pairs));
}
