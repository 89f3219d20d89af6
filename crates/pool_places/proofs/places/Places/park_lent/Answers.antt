use Rattle.std.proofs.Common.{Some, refl, ap, sym, ◌∙◌, arith, subst}
use Rattle.pool_places.proofs.SlotLists.{item_known, line_joined, queue_kept}
use Rattle.std.proofs.Common.{◌++◌, ◌∷◌, []}
use Rattle.std.specs.Option.{option_map, option_and_then}
use Rattle.pool_slots.specs.SlotsModel.{Item, is_in}
use Rattle.pool_journal.specs.Queue.{is_idle, is_queued}
use Rattle.pool_journal.specs.declared.record.Phase.TheVariants as phases
use Rattle.pool_places.specs.Changes.{QueueBelow}
use Rattle.pool_places.specs.Counts.{HasOne, HasOneMore}
use Rattle.pool_places.specs.RepInvariant.{IsWithin}
use Rattle.pool_places.specs.PlacesModel.{records_in, to_idle, to_phase}
use Rattle.pool_places.proofs.Found.{found_known, found_empty, set_kept, set_value, changed_twice}
use Rattle.pool_places.proofs.Keeping.{entries_below}
use Rattle.pool_places.proofs.Numbers.{has_one, counted_set, small, small_less}
use Rattle.pool_places.proofs.Outstanding.{set_owed_from}
use Rattle.pool_places.proofs.Bounds.{bound_set}
use Rattle.pool_places.proofs.Turned.{Reads, here, key_seen, item_there, follows_known, kept_is, kept_after, known_set, value_set, sets_then, sets_queued, no_value}
use Rattle.pool_places.proofs.Walks.{within_push}
use Rattle.pool_places.proofs.places.Places.park_lent.Goals as goal

pub key_under-key-requires : goal.key_under-key-requires
key_under-key-requires g c = key_seen _ c.self.inside.slots c.self.inside.index.pairs c.args.id c.self.invariant.tied c.self.view_is c.requires.present

pub known-known-requires : goal.known-known-requires
known-known-requires g c = item_there c.self.inside.slots c.self.inside.index.pairs c.args.id c.key_under-key.result c.self.invariant.tied c.key_under-key.ensures

pub remove-requires : goal.remove-requires
remove-requires g c =
    let reads : Reads c.self.inside.slots c.self.inside.index.pairs c.args.id c.key_under-key.result c.known-known.result = record { tied = c.self.invariant.tied; well_formed = c.self.invariant.well_formed; at = c.key_under-key.ensures; known = c.known-known.ensures } in
    let found = here _ _ _ _ _ reads in
    subst (HasOne c.self.inside.counts) (found_known _ found c.self.view_is c.requires.present) (has_one _ found c.self.invariant.counted)

pub add-requires : goal.add-requires
add-requires g c = small_less _ _ _ (small _ _ c.self.invariant.well_formed.bounded c.self.invariant.counted) c.remove.ensures

pub put-requires : goal.put-requires
put-requires g c =
    let reads : Reads c.self.inside.slots c.self.inside.index.pairs c.args.id c.key_under-key.result c.known-known.result = record { tied = c.self.invariant.tied; well_formed = c.self.invariant.well_formed; at = c.key_under-key.ensures; known = c.known-known.ensures } in
    let found = here _ _ _ _ _ reads in
    let first = known_set c.self.inside.slots c.set_known.new.self c.key_under-key.result c.known-known.result _ c.known-known.ensures c.set_known.ensures.sets in
    let empty = found_empty found (ap is_idle (found_known _ found c.self.view_is c.requires.present)) in
    no_value c.set_known.new.self c.key_under-key.result _ (ap (option_map (λ (item : Item g.row.T.Denot). item.known)) first.changed) (ap (option_and_then (λ (item : Item g.row.T.Denot). item.value)) first.changed ∙ empty)

pub link_last-requires-clause-out : goal.link_last-requires-clause-out
link_last-requires-clause-out g c =
    let reads : Reads c.self.inside.slots c.self.inside.index.pairs c.args.id c.key_under-key.result c.known-known.result = record { tied = c.self.invariant.tied; well_formed = c.self.invariant.well_formed; at = c.key_under-key.ensures; known = c.known-known.ensures } in
    let found = here _ _ _ _ _ reads in
    ap (is_in c.key_under-key.result) (c.put.ensures.queue ∙ c.set_known.ensures.queue) ∙ follows_known c.self.inside.slots c.key_under-key.result c.known-known.result c.self.invariant.line c.known-known.ensures ∙ ap is_queued (found_known _ found c.self.view_is c.requires.present)

pub invariant_of-self : goal.invariant_of-self
invariant_of-self g c =
    let reads : Reads c.self.inside.slots c.self.inside.index.pairs c.args.id c.key_under-key.result c.known-known.result = record { tied = c.self.invariant.tied; well_formed = c.self.invariant.well_formed; at = c.key_under-key.ensures; known = c.known-known.ensures } in
    let found = here _ _ _ _ _ reads in
    let first = known_set c.self.inside.slots c.set_known.new.self c.key_under-key.result c.known-known.result _ c.known-known.ensures c.set_known.ensures.sets in
    let valued = value_set c.set_known.new.self c.put.new.self c.key_under-key.result _ (Some c.args.value) (ap (option_map (λ (item : Item g.row.T.Denot). item.known)) first.changed) c.put.ensures.sets in
    let both = sets_then _ _ _ _ _ _ first valued.sets in
    let sets = sets_queued both c.link_last.ensures in
    let queue = ap (λ r. r.queue) c.link_last.ensures ∙ ap (λ ks. ks ++ c.key_under-key.result ∷ []) (c.put.ensures.queue ∙ c.set_known.ensures.queue) in
    let above = subst (λ s. QueueBelow c.args.parked (records_in s.objects)) (sym c.self.view_is) c.requires.above in
    let below = entries_below _ _ _ above (queue_kept _ _ c.self.invariant.tied c.self.invariant.line) in
    kept_after _ _ _ _ _ _ _ _ _ _ reads sets refl refl (counted_set _ _ _ _ found c.self.invariant.counted (subst (HasOneMore c.remove.new.self c.self.inside.counts) (sym (found_known _ found c.self.view_is c.requires.present)) c.remove.ensures) c.add.ensures) (line_joined _ _ _ _ _ c.self.invariant.line sets (item_known c.self.inside.slots c.key_under-key.result c.known-known.result c.known-known.ensures) queue (ap is_queued (found_known _ found c.self.view_is c.requires.present)) refl below) (subst (λ ks. IsWithin ks c.self.inside.remembered) (sym queue) (within_push _ c.self.inside.slots.queue c.self.inside.remembered c.self.invariant.remembered)) (bound_set _ _ _ _ (λ yes. absurd (cc yes)) c.self.invariant.last_uses)

pub returns : goal.returns
returns g c =
    let reads : Reads c.self.inside.slots c.self.inside.index.pairs c.args.id c.key_under-key.result c.known-known.result = record { tied = c.self.invariant.tied; well_formed = c.self.invariant.well_formed; at = c.key_under-key.ensures; known = c.known-known.ensures } in
    let found = here _ _ _ _ _ reads in
    let first = known_set c.self.inside.slots c.set_known.new.self c.key_under-key.result c.known-known.result _ c.known-known.ensures c.set_known.ensures.sets in
    let valued = value_set c.set_known.new.self c.put.new.self c.key_under-key.result _ (Some c.args.value) (ap (option_map (λ (item : Item g.row.T.Denot). item.known)) first.changed) c.put.ensures.sets in
    let both = sets_then _ _ _ _ _ _ first valued.sets in
    let sets = sets_queued both c.link_last.ensures in
    let is = kept_is _ _ _ _ _ _ _ reads sets refl in
    let f = to_phase phases.Returning in
    let h = to_idle c.args.parked c.args.since c.args.value in
    rw (← c.self.view_is, is)
    record {
      objects = set_kept (λ p. h (f p)) found ∙ changed_twice c.args.id f h _ (λ p. refl);
      value = set_value (λ p. h (f p)) (λ p. refl) found;
      owed_between = rw (← set_kept f found) (set_owed_from _ found (found_known _ found c.self.view_is c.requires.present));
      owed = set_owed_from _ found (found_known _ found c.self.view_is c.requires.present);
      spare_capacity = omega (arith, ap (λ r. r.room) c.link_last.ensures, c.put.ensures.room, c.set_known.ensures.room);
    }
