use Rattle.std.proofs.Common.{ap, arith, refl, subst, sym, ◌∙◌, length}
use Rattle.std.proofs.lemmas.List.{length_push, length-map}
use Rattle.pool_slots.specs.SlotsModel.{is_in}
use Rattle.sorted_index.specs.declared.pair.Pair.{Pair}
use Rattle.sorted_index.specs.Pairs.{IsAscending}
use Rattle.pool_places.specs.Changes.{IdsBelow}
use Rattle.pool_places.specs.Counts.{IsCounts}
use Rattle.pool_places.specs.RepInvariant.{IsWithin}
use Rattle.pool_places.specs.PlacesModel.{records_in, new_place, PlacesInvariant}
use Rattle.pool_places.specs.Stored.{objects_of, place_at}
use Rattle.pool_places.proofs.WellFormed.{well_formed_push, all_places}
use Rattle.pool_places.proofs.Values.{value_push}
use Rattle.pool_places.proofs.Found.{records_push}
use Rattle.pool_places.proofs.NotIdle.{opened_not_idle}
use Rattle.pool_places.proofs.Outstanding.{push_owed}
use Rattle.pool_places.proofs.Numbers.{counted_push, small}
use Rattle.pool_places.proofs.Keeping.{record_absent, opened_not_queued}
use Rattle.pool_places.proofs.SlotLists.{line_apart}
use Rattle.pool_places.specs.LastUses.{AreLastUses}
use Rattle.pool_places.proofs.Bounds.{bound_push, opened_not_lent}
use Rattle.sorted_index.proofs.Pushed.{ascending_push}
use Rattle.pool_places.proofs.Turned.{pairs_below, kept_opened, tied_opened, key_absent}
use Rattle.pool_places.proofs.places.Places.open.Goals as goal

pub push-requires-clause-above : goal.push-requires-clause-above
push-requires-clause-above g c = pairs_below _ _ _ c.self.invariant.tied (subst (λ s. IdsBelow c.args.id (records_in s.objects)) (sym c.self.view_is) c.requires.above)

pub add-requires : goal.add-requires
add-requires g c = small _ _ c.self.invariant.well_formed.bounded c.self.invariant.counted

pub invariant_of-self : goal.invariant_of-self
invariant_of-self g c =
    let rack = c.self.inside.slots in
    let pairs = c.self.inside.index.pairs in
    let ps = objects_of rack pairs in
    let p : Pair = record { id = c.args.id; key = c.insert-key.result } in
    let above = subst (λ s. IdsBelow c.args.id (records_in s.objects)) (sym c.self.view_is) c.requires.above in
    let out = opened_not_queued c.args.phase c.requires.phase in
    let is = ap (objects_of c.insert-key.new.self) c.push.ensures.pairs ∙ kept_opened rack c.insert-key.new.self pairs p _ c.self.invariant.tied c.insert-key.ensures.vacant c.insert-key.ensures.sets in
    let absent = key_absent rack pairs c.args.id c.self.invariant.tied (record_absent c.args.id (records_in ps) above) in
    record {
      well_formed = subst PlacesInvariant (sym is) (well_formed_push ps _ c.self.invariant.well_formed (all_places _ ps above) (sym (opened_not_idle c.args.phase c.requires.phase)) (omega (arith, length-map pairs (λ (x : Pair). place_at rack x.key), ap (λ s. s.spare_capacity) c.self.view_is, c.requires.reserved)));
      counted = subst (λ qs. IsCounts c.add.new.self (records_in qs)) (sym is) (counted_push ps _ _ (new_place c.args.id c.args.phase) c.self.invariant.counted c.add.ensures);
      tied = tied_opened rack c.insert-key.new.self pairs c.push.new.self.pairs p _ c.self.invariant.tied c.insert-key.ensures.vacant c.insert-key.ensures.sets refl (subst IsAscending (sym c.push.ensures.pairs) (ascending_push pairs p c.self.invariant.tied.ascending (pairs_below _ _ _ c.self.invariant.tied above))) absent c.push.ensures.found c.push.ensures.others;
      line = line_apart rack c.insert-key.new.self c.insert-key.result _ c.self.invariant.line c.insert-key.ensures.sets c.insert-key.ensures.queue (sym (ap (is_in c.insert-key.result) c.insert-key.ensures.queue) ∙ c.insert-key.ensures.out) out;
      remembered = subst (λ ks. IsWithin ks c.self.inside.remembered) (sym c.insert-key.ensures.queue) c.self.invariant.remembered;
      last_uses = subst (λ qs. AreLastUses c.self.inside.uses (records_in qs)) (sym is) (bound_push _ (new_place c.args.id c.args.phase) ps (λ yes. absurd (cc (yes, opened_not_lent c.args.phase c.requires.phase))) c.self.invariant.last_uses);
    }

pub returns : goal.returns
returns g c =
    let rack = c.self.inside.slots in
    let pairs = c.self.inside.index.pairs in
    let ps = objects_of rack pairs in
    let p : Pair = record { id = c.args.id; key = c.insert-key.result } in
    let is = ap (objects_of c.insert-key.new.self) c.push.ensures.pairs ∙ kept_opened rack c.insert-key.new.self pairs p _ c.self.invariant.tied c.insert-key.ensures.vacant c.insert-key.ensures.sets in
    rw (← c.self.view_is, is)
    record {
      objects = refl;
      records = records_push ps (new_place c.args.id c.args.phase);
      values = λ j. value_push ps (new_place c.args.id c.args.phase) j refl;
      owed = push_owed ps (new_place c.args.id c.args.phase);
      spare_capacity = omega (arith, ap (λ s. s.spare_capacity) c.self.view_is, c.requires.reserved, c.insert-key.ensures.room, c.push.ensures.spare, ap length c.push.ensures.pairs, length_push pairs p);
    }
