use Rattle.std.proofs.Common.{None, refl, ap, sym, ◌∙◌, arith, subst}
use Rattle.pool_places.specs.Counts.{HasOne, HasOneMore}
use Rattle.pool_journal.specs.Queue.{is_queued}
use Rattle.pool_places.proofs.SlotLists.{item_known}
use Rattle.pool_slots.specs.SlotsModel.{is_in}
use Rattle.pool_slots.specs.SlotsModel.{without as without_key}
use Rattle.std.proofs.Common.{if◌then◌else◌, List, ℕ}
use Rattle.pool_places.specs.RepInvariant.{IsWithin}
use Rattle.pool_places.specs.PlacesModel.{to_taken, to_lent}
use Rattle.pool_journal.specs.declared.record.Phase.TheVariants as phases
use Rattle.pool_places.proofs.Found.{found_known, found_full, found_value, set_kept, changed_twice}
use Rattle.pool_places.proofs.Numbers.{has_one, counted_set, small, small_less}
use Rattle.pool_places.proofs.Outstanding.{set_owed_from}
use Rattle.pool_places.proofs.Bounds.{bound_set, bound_earlier}
use Rattle.pool_places.proofs.Turned.{Reads, here, key_seen, item_there, follows_known, kept_is, kept_after, line_changed, value_set, sets_after}
use Rattle.pool_places.proofs.places.Places.lend_value.Goals as goal

pub key_under-key-requires : goal.key_under-key-requires
key_under-key-requires g c = key_seen _ c.self.inside.slots c.self.inside.index.pairs c.args.id c.self.invariant.tied c.self.view_is c.requires.present

pub known-known-requires : goal.known-known-requires
known-known-requires g c = item_there c.self.inside.slots c.self.inside.index.pairs c.args.id c.key_under-key.result c.self.invariant.tied c.key_under-key.ensures

pub take-given-requires : goal.take-given-requires
take-given-requires g c =
    let reads : Reads c.self.inside.slots c.self.inside.index.pairs c.args.id c.key_under-key.result c.known-known.result = record { tied = c.self.invariant.tied; well_formed = c.self.invariant.well_formed; at = c.key_under-key.ensures; known = c.known-known.ensures } in
    let found = here _ _ _ _ _ reads in
    found_full found (found_known _ found c.self.view_is c.requires.present)

pub remove-requires : goal.remove-requires
remove-requires g c =
    let reads : Reads c.self.inside.slots c.self.inside.index.pairs c.args.id c.key_under-key.result c.known-known.result = record { tied = c.self.invariant.tied; well_formed = c.self.invariant.well_formed; at = c.key_under-key.ensures; known = c.known-known.ensures } in
    let found = here _ _ _ _ _ reads in
    subst (HasOne c.self.inside.counts) (found_known _ found c.self.view_is c.requires.present) (has_one _ found c.self.invariant.counted)

pub add-requires : goal.add-requires
add-requires g c = small_less _ _ _ (small _ _ c.self.invariant.well_formed.bounded c.self.invariant.counted) c.remove.ensures

pub change-requires : goal.change-requires
change-requires g c =
    let valued = value_set c.self.inside.slots c.take-given.new.self c.key_under-key.result c.known-known.result None c.known-known.ensures c.take-given.ensures.sets in
    record {
      known = valued.known;
      follows = ap (is_in c.key_under-key.result) c.take-given.ensures.queue ∙ follows_known c.self.inside.slots c.key_under-key.result c.known-known.result c.self.invariant.line c.known-known.ensures;
      remembered = subst (λ queue. IsWithin queue c.self.inside.remembered) (sym c.take-given.ensures.queue) c.self.invariant.remembered;
    }

pub invariant_of-self : goal.invariant_of-self
invariant_of-self g c =
    let reads : Reads c.self.inside.slots c.self.inside.index.pairs c.args.id c.key_under-key.result c.known-known.result = record { tied = c.self.invariant.tied; well_formed = c.self.invariant.well_formed; at = c.key_under-key.ensures; known = c.known-known.ensures } in
    let found = here _ _ _ _ _ reads in
    let valued = value_set c.self.inside.slots c.take-given.new.self c.key_under-key.result c.known-known.result None c.known-known.ensures c.take-given.ensures.sets in
    let sets = sets_after _ _ _ _ _ _ _ valued c.change.ensures.sets in
    let queue = c.change.ensures.queue ∙ ap (λ (ks : List ℕ). if is_queued phases.Lent then ks else without_key c.key_under-key.result ks) c.take-given.ensures.queue in
    kept_after _ _ _ _ _ _ _ _ _ _ reads sets refl refl (counted_set _ _ _ _ found c.self.invariant.counted (subst (HasOneMore c.remove.new.self c.self.inside.counts) (sym (found_known _ found c.self.view_is c.requires.present)) c.remove.ensures) c.add.ensures) (line_changed _ _ _ _ _ c.self.invariant.line sets (item_known c.self.inside.slots c.key_under-key.result c.known-known.result c.known-known.ensures) queue (λ yes. (ap is_queued (found_known _ found c.self.view_is c.requires.present), refl))) c.change.ensures.remembered (bound_set _ _ _ _ (λ yes. c.earlier-self-inside.ensures.other) (bound_earlier _ _ _ c.earlier-self-inside.ensures.one c.self.invariant.last_uses))

pub returns : goal.returns
returns g c =
    let reads : Reads c.self.inside.slots c.self.inside.index.pairs c.args.id c.key_under-key.result c.known-known.result = record { tied = c.self.invariant.tied; well_formed = c.self.invariant.well_formed; at = c.key_under-key.ensures; known = c.known-known.ensures } in
    let found = here _ _ _ _ _ reads in
    let valued = value_set c.self.inside.slots c.take-given.new.self c.key_under-key.result c.known-known.result None c.known-known.ensures c.take-given.ensures.sets in
    let sets = sets_after _ _ _ _ _ _ _ valued c.change.ensures.sets in
    let is = kept_is _ _ _ _ _ _ _ reads sets refl in
    let f = to_taken phases.Readying in
    let g = to_lent c.args.at in
    rw (← c.self.view_is, is)
    record {
      objects = set_kept (λ p. g (f p)) found ∙ changed_twice c.args.id f g _ (λ p. refl);
      value = found_value found ∙ c.take-given.ensures.value;
      owed_between = rw (← set_kept f found) (set_owed_from _ found (found_known _ found c.self.view_is c.requires.present));
      owed = set_owed_from _ found (found_known _ found c.self.view_is c.requires.present);
      spare_capacity = omega (arith, c.change.ensures.room, c.take-given.ensures.room);
    }
