use Rattle.std.proofs.Common.{◌≡◌, ap, arith, length, None, refl, subst, sym, ◌∙◌}
use Rattle.std.proofs.lemmas.List.{length-map}
use Rattle.std.proofs.lemmas.List.Edits.{length-remove}
use Rattle.std.specs.Prelude.{IsSomeAnd}
use Rattle.pool_slots.specs.SlotsModel.{is_in, item_at}
use Rattle.sorted_index.specs.declared.pair.Pair.{Pair}
use Rattle.sorted_index.specs.Pairs.{IsAscending}
use Rattle.sorted_index.proofs.Keys.{ascending_filter}
use Rattle.pool_places.specs.Counts.{IsCounts}
use Rattle.pool_places.specs.RepInvariant.{IsWithin}
use Rattle.pool_places.specs.PlacesModel.{records_in, PlacesInvariant}
use Rattle.pool_places.specs.Stored.{objects_of, place_at}
use Rattle.pool_places.proofs.Found.{found_known, found_empty, well_formed_remove, remove_kept, remove_records, remove_values}
use Rattle.pool_places.proofs.Outstanding.{remove_owed_of}
use Rattle.pool_places.proofs.Numbers.{has_one, counted_remove}
use Rattle.pool_places.proofs.SlotLists.{line_left}
use Rattle.pool_places.proofs.Walks.{key_is_gone}
use Rattle.pool_places.specs.LastUses.{AreLastUses}
use Rattle.pool_places.proofs.Bounds.{bound_remove}
use Rattle.pool_places.proofs.Turned.{Reads, here, key_seen, item_there, follows_known, no_value, sets_requeued, kept_freed, tied_freed}
use Rattle.pool_places.proofs.places.Places.free.Goals as goal

pub remove-key-requires : goal.remove-key-requires
remove-key-requires g c = key_seen _ c.self.inside.slots c.self.inside.index.pairs c.args.id c.self.invariant.tied c.self.view_is c.requires.present

pub known-phase-requires : goal.known-phase-requires
known-phase-requires g c = item_there c.self.inside.slots c.self.inside.index.pairs c.args.id c.remove-key.result c.self.invariant.tied c.remove-key.ensures.value

pub leave-requires-clause-follows : goal.leave-requires-clause-follows
leave-requires-clause-follows g c = follows_known c.self.inside.slots c.remove-key.result c.known-phase.result c.self.invariant.line c.known-phase.ensures

pub remove-requires-clause-empty : goal.remove-requires-clause-empty
remove-requires-clause-empty g c =
    let reads : Reads c.self.inside.slots c.self.inside.index.pairs c.args.id c.remove-key.result c.known-phase.result = record { tied = c.self.invariant.tied; well_formed = c.self.invariant.well_formed; at = c.remove-key.ensures.value; known = c.known-phase.ensures } in
    let found = here _ _ _ _ _ reads in
    let empty = no_value c.self.inside.slots c.remove-key.result c.known-phase.result c.known-phase.ensures (found_empty found (found_known _ found c.self.view_is c.requires.present)) in
    subst (λ rack. IsSomeAnd (item_at rack c.remove-key.result) (λ item. item.value ≡ None)) (sym c.leave.ensures.queue) empty

pub remove-requires-clause-out : goal.remove-requires-clause-out
remove-requires-clause-out g c = ap (λ rack. is_in c.remove-key.result rack.queue) c.leave.ensures.queue ∙ key_is_gone c.remove-key.result c.self.inside.slots.queue

pub remove-requires-2 : goal.remove-requires-2
remove-requires-2 g c =
    let reads : Reads c.self.inside.slots c.self.inside.index.pairs c.args.id c.remove-key.result c.known-phase.result = record { tied = c.self.invariant.tied; well_formed = c.self.invariant.well_formed; at = c.remove-key.ensures.value; known = c.known-phase.ensures } in
    let found = here _ _ _ _ _ reads in
    has_one _ found c.self.invariant.counted

pub invariant_of-self : goal.invariant_of-self
invariant_of-self g c =
    let rack = c.self.inside.slots in
    let pairs = c.self.inside.index.pairs in
    let reads : Reads rack pairs c.args.id c.remove-key.result c.known-phase.result = record { tied = c.self.invariant.tied; well_formed = c.self.invariant.well_formed; at = c.remove-key.ensures.value; known = c.known-phase.ensures } in
    let found = here _ _ _ _ _ reads in
    let sets = sets_requeued c.remove.ensures.sets c.leave.ensures.queue in
    let is = ap (objects_of c.remove.new.self) c.remove-key.ensures.pairs ∙ kept_freed rack c.remove.new.self pairs c.args.id c.remove-key.result _ reads sets ∙ sym (remove_kept found) in
    record {
      well_formed = subst PlacesInvariant (sym is) (well_formed_remove found);
      counted = subst (λ qs. IsCounts c.remove-2.new.self (records_in qs)) (sym is) (counted_remove _ _ found c.self.invariant.counted c.remove-2.ensures);
      tied = tied_freed rack c.remove.new.self pairs c.remove-key.new.self.pairs c.args.id c.remove-key.result _ reads sets (subst IsAscending (sym c.remove-key.ensures.pairs) (ascending_filter _ pairs c.self.invariant.tied.ascending)) c.remove-key.ensures.gone c.remove-key.ensures.others;
      line = line_left rack c.remove.new.self c.remove-key.result None c.self.invariant.line sets (c.remove.ensures.queue ∙ ap (λ r. r.queue) c.leave.ensures.queue) refl;
      remembered = subst (λ ks. IsWithin ks c.leave.new.remembered) (sym c.remove.ensures.queue) c.leave.ensures.remembered;
      last_uses = subst (λ qs. AreLastUses c.self.inside.uses (records_in qs)) (sym is) (bound_remove _ _ (objects_of rack pairs) c.self.invariant.last_uses);
    }

pub returns : goal.returns
returns g c =
    let rack = c.self.inside.slots in
    let pairs = c.self.inside.index.pairs in
    let reads : Reads rack pairs c.args.id c.remove-key.result c.known-phase.result = record { tied = c.self.invariant.tied; well_formed = c.self.invariant.well_formed; at = c.remove-key.ensures.value; known = c.known-phase.ensures } in
    let found = here _ _ _ _ _ reads in
    let none = found_empty found (found_known _ found c.self.view_is c.requires.present) in
    let sets = sets_requeued c.remove.ensures.sets c.leave.ensures.queue in
    let is = ap (objects_of c.remove.new.self) c.remove-key.ensures.pairs ∙ kept_freed rack c.remove.new.self pairs c.args.id c.remove-key.result _ reads sets ∙ sym (remove_kept found) in
    rw (← c.self.view_is, is)
    record {
      objects = remove_kept found;
      records = remove_records found;
      values = remove_values found none;
      owed = remove_owed_of found;
      spare_capacity = omega (arith, ap length is, length-map c.remove-key.new.self.pairs (λ (x : Pair). place_at c.remove.new.self x.key), length-map pairs (λ (x : Pair). place_at rack x.key), length-remove (objects_of rack pairs) _ found.at.in_range, c.remove.ensures.room, ap (λ r. r.room) c.leave.ensures.queue, c.remove-key.ensures.spare);
    }
