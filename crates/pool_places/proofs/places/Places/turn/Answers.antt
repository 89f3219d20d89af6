use Rattle.std.proofs.Common.{refl, ap, arith, set, subst, sym, ◌∙◌}
use Rattle.pool_journal.specs.Queue.{is_idle, is_queued}
use Rattle.pool_journal.specs.declared.record.Record.{Record}
use Rattle.pool_slots.specs.SlotsModel.{value_at}
use Rattle.pool_places.specs.declared.place.Place.{Place}
use Rattle.pool_places.specs.Counts.{HasOne, HasOneMore, max_remaining}
use Rattle.pool_places.specs.Stored.{objects_of}
use Rattle.pool_places.specs.Turn.{phase_after, turned}
use Rattle.pool_places.proofs.SlotLists.{item_known, spot}
use Rattle.pool_places.proofs.WellFormed.{empty_valued}
use Rattle.pool_places.proofs.Found.{found_known, found_empty, set_kept, set_records, set_values}
use Rattle.pool_places.proofs.NotIdle.{not_queued, turned_id, turned_phase}
use Rattle.pool_places.proofs.Numbers.{has_one, counted_set, small, small_less}
use Rattle.pool_places.proofs.Outstanding.{set_owed_from}
use Rattle.pool_places.proofs.Bounds.{bound_set, bound_earlier}
use Rattle.pool_places.proofs.Turned.{Reads, here, key_seen, item_there, follows_known, kept_is, kept_after, line_changed}
use Rattle.pool_places.proofs.places.Places.turn.Goals as goal

pub key_under-key-requires : goal.key_under-key-requires
key_under-key-requires g c = key_seen _ c.self.inside.slots c.self.inside.index.pairs c.args.id c.self.invariant.tied c.self.view_is c.requires.present

pub known-known-requires : goal.known-known-requires
known-known-requires g c = item_there c.self.inside.slots c.self.inside.index.pairs c.args.id c.key_under-key.result c.self.invariant.tied c.key_under-key.ensures

pub remove-requires : goal.remove-requires
remove-requires g c =
    let reads : Reads c.self.inside.slots c.self.inside.index.pairs c.args.id c.key_under-key.result c.known-known.result = record { tied = c.self.invariant.tied; well_formed = c.self.invariant.well_formed; at = c.key_under-key.ensures; known = c.known-known.ensures } in
    let found = here _ _ _ _ _ reads in
    subst (HasOne c.self.inside.counts) (found_known _ found c.self.view_is c.requires.present) (has_one _ found c.self.invariant.counted)

pub add-requires : goal.add-requires
add-requires g c = small_less _ _ _ (small _ _ c.self.invariant.well_formed.bounded c.self.invariant.counted) c.remove.ensures

pub change-requires-clause-follows : goal.change-requires-clause-follows
change-requires-clause-follows g c = follows_known c.self.inside.slots c.key_under-key.result c.known-known.result c.self.invariant.line c.known-known.ensures

pub invariant_of-self : goal.invariant_of-self
invariant_of-self g c =
    let reads : Reads c.self.inside.slots c.self.inside.index.pairs c.args.id c.key_under-key.result c.known-known.result = record { tied = c.self.invariant.tied; well_formed = c.self.invariant.well_formed; at = c.key_under-key.ensures; known = c.known-known.ensures } in
    let found = here _ _ _ _ _ reads in
    let seen = found_known _ found c.self.view_is c.requires.present in
    let same = ap (λ (r : Record). r.id) c.of-next.ensures ∙ turned_id c.args.turn c.known-known.result in
    let phase = ap (λ (r : Record). r.phase) c.of-next.ensures ∙ turned_phase c.args.turn c.known-known.result ∙ ap (phase_after c.args.turn) seen in
    let queued = ap is_queued phase ∙ c.requires.after in
    kept_after _ _ _ _ _ _ _ _ _ _ reads c.change.ensures.sets same (empty_valued (value_at c.self.inside.slots c.key_under-key.result) (found_empty found (ap is_idle seen ∙ c.requires.before)) (not_queued c.of-next.result.phase queued)) (counted_set _ _ _ _ found c.self.invariant.counted (subst (HasOneMore c.remove.new.self c.self.inside.counts) (sym seen) c.remove.ensures) c.add.ensures) (line_changed _ _ _ _ _ c.self.invariant.line c.change.ensures.sets (item_known c.self.inside.slots c.key_under-key.result c.known-known.result c.known-known.ensures) c.change.ensures.queue (λ yes. absurd (cc (yes, queued)))) c.change.ensures.remembered (bound_set _ _ _ _ (λ yes. omega (arith, c.earlier-self-inside.ensures.other, c.last_use.ensures yes)) (bound_earlier _ _ _ c.earlier-self-inside.ensures.one c.self.invariant.last_uses))

pub returns : goal.returns
returns g c =
    let reads : Reads c.self.inside.slots c.self.inside.index.pairs c.args.id c.key_under-key.result c.known-known.result = record { tied = c.self.invariant.tied; well_formed = c.self.invariant.well_formed; at = c.key_under-key.ensures; known = c.known-known.ensures } in
    let found = here _ _ _ _ _ reads in
    let seen = found_known _ found c.self.view_is c.requires.present in
    let same = ap (λ (r : Record). r.id) c.of-next.ensures ∙ turned_id c.args.turn c.known-known.result in
    let ps = objects_of c.self.inside.slots c.self.inside.index.pairs in
    let is = kept_is _ _ _ _ _ _ _ reads c.change.ensures.sets same ∙ ap (λ (r : Record). set ps (spot c.args.id ps) (record { known = r; value = value_at c.self.inside.slots c.key_under-key.result })) c.of-next.ensures in
    let f = λ (p : Place _). record p { known = turned c.args.turn p.known } in
    rw (← c.self.view_is, is)
    record {
      objects = set_kept f found;
      records = set_records f (turned c.args.turn) (λ p. refl) found;
      values = set_values f (λ p. turned_id c.args.turn p.known) (λ p. refl) found;
      owed = omega (arith, set_owed_from (f (record { known = c.known-known.result; value = value_at c.self.inside.slots c.key_under-key.result })) found seen, ap max_remaining (turned_phase c.args.turn c.known-known.result ∙ ap (phase_after c.args.turn) seen));
      spare_capacity = omega (arith, c.change.ensures.room);
    }
