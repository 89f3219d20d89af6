use Rattle.std.proofs.Common.{◌≡◌, ◌≤◌, true, List, ◌∷◌, ap, arith, sym, subst, ◌∙◌}
use Rattle.pool_journal.specs.declared.record.Record.{Record}
use Rattle.std.specs.List.{AllByRecursion}
use Rattle.sorted_index.specs.declared.pair.Pair.{Pair}
use Rattle.pool_places.specs.Overdue.{is_lent, IsBound}
use Rattle.pool_places.specs.PlacesModel.{records_in}
use Rattle.pool_places.specs.Stored.{objects_of, place_at}
use Rattle.pool_places.proofs.SlotLists.{Good, each_good, known_place}
use Rattle.pool_places.proofs.overdue.least_use.Goals as goal

pub loop-pair-init : goal.loop-pair-init
loop-pair-init g c =
    let all = c.into_iter-pair-iterator.ensures.into_iter_gives ∙ c.walk-pair-items.ensures.pairs in
    record {
      can_next = tt;
      is_finite = tt;
      good = subst (AllByRecursion (Good c.args.slots.now c.args.index.now.pairs)) (sym all) (each_good c.args.slots.now c.args.index.now.pairs c.requires);
      whole = λ n le bound. subst (λ (ps : List Pair). IsBound n (records_in (objects_of c.args.slots.now ps))) all bound;
    }

pub loop-pair-preserved : goal.loop-pair-preserved
loop-pair-preserved g c =
    let split : c.loop-pair.pair-iterator ≡ c.in-Some.pair ∷ c.next.new.self = c.in-Some.ensures.steps in
    let rest = subst (AllByRecursion (Good c.args.slots.now c.args.index.now.pairs)) split c.loop-pair.invariant.good in
    let known = known_place c.args.slots.now c.in-Some.pair.key c.known.result c.known.ensures in
    record {
      can_next = tt;
      is_finite = tt;
      good = rest.1;
      whole = λ n le bound.
          let here : is_lent (place_at c.args.slots.now c.in-Some.pair.key).known.phase ≡ true → n ≤ (place_at c.args.slots.now c.in-Some.pair.key).known.used = λ lent. (let used = c.last_use-used.ensures (ap (λ (r : Record). is_lent r.phase) (sym known) ∙ lent) in omega (arith, le, c.earlier-least.ensures.other, used, ap (λ (r : Record). r.used) known)) in
          c.loop-pair.invariant.whole n (omega (arith, le, c.earlier-least.ensures.one)) (subst (λ (ps : List Pair). IsBound n (records_in (objects_of c.args.slots.now ps))) (sym split) (here, bound));
    }
