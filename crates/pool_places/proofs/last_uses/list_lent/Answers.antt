use Rattle.std.proofs.Common.{◌≡◌, true, List, ◌∷◌, sym, subst, ◌∙◌}
use Rattle.std.specs.List.{AllByRecursion, Contains}
use Rattle.pool_journal.specs.declared.record.Record.{Record}
use Rattle.sorted_index.specs.declared.pair.Pair.{Pair}
use Rattle.pool_places.specs.LastUses.{IsListed, use_of}
use Rattle.pool_places.specs.Overdue.{is_lent}
use Rattle.pool_places.specs.PlacesModel.{records_in}
use Rattle.pool_places.specs.Stored.{objects_of, place_at}
use Rattle.pool_places.proofs.SlotLists.{Good, each_good, known_place}
use Rattle.pool_places.proofs.last_uses.list_lent.Goals as goal

pub loop-pair-init : goal.loop-pair-init
loop-pair-init g c =
    let all = c.into_iter-pair-iterator.ensures.into_iter_gives ∙ c.walk-pair-items.ensures.pairs in
    record {
      can_next = tt;
      is_finite = tt;
      good = subst (AllByRecursion (Good c.args.slots.now c.args.index.now.pairs)) (sym all) (each_good c.args.slots.now c.args.index.now.pairs c.requires);
      whole = λ order has listed. subst (λ (ps : List Pair). IsListed order (records_in (objects_of c.args.slots.now ps))) all listed;
    }

pub loop-pair-preserved : goal.loop-pair-preserved
loop-pair-preserved g c =
    let split : c.loop-pair.pair-iterator ≡ c.in-Some.pair ∷ c.next.new.self = c.in-Some.ensures.steps in
    let rest = subst (AllByRecursion (Good c.args.slots.now c.args.index.now.pairs)) split c.loop-pair.invariant.good in
    let known = known_place c.args.slots.now c.in-Some.pair.key c.known.result c.known.ensures in
    record {
      can_next = tt;
      is_finite = tt;
      good = rest.1;
      whole = λ order has listed.
          let P : Record → Type 0 = λ r. is_lent r.phase ≡ true → Contains order (use_of r) in
          let here : P (place_at c.args.slots.now c.in-Some.pair.key).known = subst P (sym known) (λ lent. has _ (c.in_ok-list_one.ensures.listed lent)) in
          c.loop-pair.invariant.whole order (λ one there. has one (c.in_ok-list_one.ensures.kept one there)) (subst (λ (ps : List Pair). IsListed order (records_in (objects_of c.args.slots.now ps))) (sym split) (here, listed));
    }

pub returns : goal.returns
returns g c =
    let order = c.loop-pair.order.items in
    c.loop-pair.invariant.whole order (λ one there. there) (subst (λ (ps : List Pair). IsListed order (records_in (objects_of c.args.slots.now ps))) (sym c.in-None.ensures.steps.0) tt)
