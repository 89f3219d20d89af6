use Rattle.std.proofs.Common.{◌≢◌, ap, arith, refl, subst, sym, ◌∙◌, length}
use Rattle.std.proofs.lemmas.List.{length_push, length-map}
use Rattle.std.specs.List.{AllByRecursion}
use Rattle.pool_slots.specs.SlotsModel.{is_in}
use Rattle.sorted_index.specs.declared.pair.Pair.{Pair}
use Rattle.sorted_index.specs.Pairs.{IsAscending}
use Rattle.pool_places.specs.declared.place.Place.{Place}
use Rattle.pool_places.specs.Changes.{IdsBelow, IsFreePosition}
use Rattle.pool_places.specs.Counts.{IsCounts}
use Rattle.pool_places.specs.LastUses.{AreLastUses}
use Rattle.pool_places.specs.PlacesModel.{records_in, PlacesInvariant}
use Rattle.pool_places.specs.Stored.{objects_of, place_at, parked_of}
use Rattle.pool_places.specs.QueueEntries.{IsAscendingQueue}
use Rattle.pool_places.proofs.Bounds.{bound_push, bound_earlier}
use Rattle.pool_places.proofs.WellFormed.{well_formed_push, all_places}
use Rattle.pool_places.proofs.Values.{value_push_here, value_push_other}
use Rattle.pool_places.proofs.Found.{records_push}
use Rattle.pool_places.proofs.Outstanding.{push_owed}
use Rattle.pool_places.proofs.Numbers.{counted_push, small}
use Rattle.pool_places.proofs.Keeping.{record_absent, entries_free}
use Rattle.pool_places.proofs.SlotLists.{line_turned, parked_same, queue_kept}
use Rattle.sorted_index.proofs.Pushed.{ascending_push}
use Rattle.pool_places.proofs.Turned.{pairs_below, kept_opened, tied_opened, key_absent, sets_queued}
use Rattle.pool_places.proofs.places.Places.restore.Goals as goal

pub enter-requires-clause-ascends : goal.enter-requires-clause-ascends
enter-requires-clause-ascends g c =
    let rack = c.self.inside.slots in
    let out = sym (ap (is_in c.insert_with-key.result) c.insert_with-key.ensures.queue) ∙ c.insert_with-key.ensures.out in
    subst IsAscendingQueue (sym (parked_same rack c.insert_with-key.new.self c.insert_with-key.result _ c.insert_with-key.ensures.sets c.insert_with-key.ensures.queue out)) c.self.invariant.line.ascends

pub enter-requires-clause-free : goal.enter-requires-clause-free
enter-requires-clause-free g c queued =
    let rack = c.self.inside.slots in
    let pairs = c.self.inside.index.pairs in
    let out = sym (ap (is_in c.insert_with-key.result) c.insert_with-key.ensures.queue) ∙ c.insert_with-key.ensures.out in
    let free = subst (λ s. IsFreePosition c.args.known.parked (records_in s.objects)) (sym c.self.view_is) (c.requires.position queued) in
    subst (AllByRecursion (λ q. q.parked ≢ c.args.known.parked)) (sym (parked_same rack c.insert_with-key.new.self c.insert_with-key.result _ c.insert_with-key.ensures.sets c.insert_with-key.ensures.queue out)) (entries_free c.args.known.parked (records_in (objects_of rack pairs)) (parked_of rack) free (queue_kept rack pairs c.self.invariant.tied c.self.invariant.line))

pub push-requires-clause-above : goal.push-requires-clause-above
push-requires-clause-above g c = pairs_below _ _ _ c.self.invariant.tied (subst (λ s. IdsBelow c.args.known.id (records_in s.objects)) (sym c.self.view_is) c.requires.above)

pub add-requires : goal.add-requires
add-requires g c = small _ _ c.self.invariant.well_formed.bounded c.self.invariant.counted

pub invariant_of-self : goal.invariant_of-self
invariant_of-self g c =
    let rack = c.self.inside.slots in
    let pairs = c.self.inside.index.pairs in
    let ps = objects_of rack pairs in
    let after = c.enter.new.slots in
    let place : Place g.row.T.Denot = record { known = c.args.known; value = c.args.value } in
    let p : Pair = record { id = c.args.known.id; key = c.insert_with-key.result } in
    let above = subst (λ s. IdsBelow c.args.known.id (records_in s.objects)) (sym c.self.view_is) c.requires.above in
    let sets = sets_queued c.insert_with-key.ensures.sets c.enter.ensures.rest in
    let is = ap (objects_of after) c.push.ensures.pairs ∙ kept_opened rack after pairs p _ c.self.invariant.tied c.insert_with-key.ensures.vacant sets in
    let absent = key_absent rack pairs c.args.known.id c.self.invariant.tied (record_absent c.args.known.id (records_in ps) above) in
    record {
      well_formed = subst PlacesInvariant (sym is) (well_formed_push ps place c.self.invariant.well_formed (all_places _ ps above) c.requires.valued (omega (arith, length-map pairs (λ (x : Pair). place_at rack x.key), ap (λ s. s.spare_capacity) c.self.view_is, c.requires.reserved)));
      counted = subst (λ qs. IsCounts c.add.new.self (records_in qs)) (sym is) (counted_push ps _ _ place c.self.invariant.counted c.add.ensures);
      tied = tied_opened rack after pairs c.push.new.self.pairs p _ c.self.invariant.tied c.insert_with-key.ensures.vacant sets refl (subst IsAscending (sym c.push.ensures.pairs) (ascending_push pairs p c.self.invariant.tied.ascending (pairs_below _ _ _ c.self.invariant.tied above))) absent c.push.ensures.found c.push.ensures.others;
      line = line_turned rack after c.insert_with-key.result _ c.self.invariant.line (record {
        sets = sets;
        here = c.enter.ensures.here;
        others = λ other apart. c.enter.ensures.others other apart ∙ ap (is_in other) c.insert_with-key.ensures.queue;
        ascends = c.enter.ensures.ascends;
      });
      remembered = c.enter.ensures.remembered;
      last_uses = subst (λ qs. AreLastUses (record c.self.inside.uses { recent = c.earlier-self-inside.result }) (records_in qs)) (sym is) (bound_push _ place ps (λ yes. omega (arith, c.earlier-self-inside.ensures.other, c.last_use.ensures yes)) (bound_earlier _ _ (records_in ps) c.earlier-self-inside.ensures.one c.self.invariant.last_uses));
    }

pub returns : goal.returns
returns g c =
    let rack = c.self.inside.slots in
    let pairs = c.self.inside.index.pairs in
    let ps = objects_of rack pairs in
    let after = c.enter.new.slots in
    let place : Place g.row.T.Denot = record { known = c.args.known; value = c.args.value } in
    let p : Pair = record { id = c.args.known.id; key = c.insert_with-key.result } in
    let above = subst (λ s. IdsBelow c.args.known.id (records_in s.objects)) (sym c.self.view_is) c.requires.above in
    let sets = sets_queued c.insert_with-key.ensures.sets c.enter.ensures.rest in
    let is = ap (objects_of after) c.push.ensures.pairs ∙ kept_opened rack after pairs p _ c.self.invariant.tied c.insert_with-key.ensures.vacant sets in
    rw (← c.self.view_is, is)
    record {
      objects = refl;
      records = records_push ps place;
      value = value_push_here ps place (all_places _ ps above);
      others = λ j other. value_push_other ps place j other;
      owed = push_owed ps place;
      spare_capacity = omega (arith, ap (λ s. s.spare_capacity) c.self.view_is, c.requires.reserved, c.insert_with-key.ensures.room, ap (λ r. r.room) c.enter.ensures.rest, c.push.ensures.spare, ap length c.push.ensures.pairs, length_push pairs p);
      well_formed = well_formed_push ps place c.self.invariant.well_formed (all_places _ ps above) c.requires.valued (omega (arith, length-map pairs (λ (x : Pair). place_at rack x.key), ap (λ s. s.spare_capacity) c.self.view_is, c.requires.reserved));
    }
