use Rattle.std.proofs.Common.{List, arith, sym, ap, ◌∙◌, subst}
use Rattle.std.specs.Prelude.{count_by}
use Rattle.std.specs.List.{AllByRecursion}
use Rattle.sorted_index.specs.declared.pair.Pair.{Pair}
use Rattle.pool_places.specs.Overdue.{is_overdue}
use Rattle.pool_places.specs.PlacesModel.{records_in}
use Rattle.pool_places.specs.Stored.{objects_of}
use Rattle.pool_places.proofs.SlotLists.{Good, each_good}
use Rattle.pool_places.proofs.overdue.overdue_count.Goals as goal

pub loop-pair-init : goal.loop-pair-init
loop-pair-init g c =
    let all = c.into_iter-pair-iterator.ensures.into_iter_gives ∙ c.walk-pair-items.ensures.pairs in
    record {
      can_next = tt;
      is_finite = tt;
      good = subst (AllByRecursion (Good c.args.slots.now c.args.index.now.pairs)) (sym all) (each_good c.args.slots.now c.args.index.now.pairs c.requires.tied);
      later = omega (arith, ap (λ (ps : List Pair). count_by (is_overdue c.args.at c.args.timeout) (records_in (objects_of c.args.slots.now ps))) all);
    }
