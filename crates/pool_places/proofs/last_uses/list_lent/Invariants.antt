use Rattle.std.proofs.Common.{List}
use Rattle.std.specs.List.{AllByRecursion}
use Rattle.pool_places.specs.declared.last_uses.LastUse.{LastUse}
use Rattle.pool_places.specs.LastUses.{HasAll, IsListed}
use Rattle.pool_places.specs.PlacesModel.{records_in}
use Rattle.pool_places.specs.Stored.{objects_of}
use Rattle.pool_places.proofs.SlotLists.{Good}
use Rattle.pool_places.proofs.last_uses.list_lent.Given as goal

abbrev pub invariant-loop-pair : goal.invariant-loop-pair
invariant-loop-pair g l = record {
  can_next : (goal.iterator-loop-pair g).can_next l.pair-iterator;
  is_finite : (goal.iterator-loop-pair g).is_finite l.pair-iterator;
  good : AllByRecursion (Good l.slots l.index.pairs) l.pair-iterator;
  whole : (all : List LastUse) → HasAll all l.order.items → IsListed all (records_in (objects_of l.slots l.pair-iterator)) → IsListed all (records_in (objects_of l.slots l.index.pairs));
}
