use Rattle.std.proofs.Common.{sym, ◌∙◌, ap}
use Rattle.std.specs.Option.{option_map}
use Rattle.pool_places.specs.Stored.{place_at}
use Rattle.pool_places.proofs.Outstanding.{found_record, owed_by-with_changed, owed_by-without_id}
use Rattle.pool_places.proofs.SlotLists.{record_under}
use Rattle.pool_places.proofs.Turned.{Reads, here, item_there}
use Rattle.pool_places.proofs.places.Places.find.Goals as goal

pub returns-in_err-key-clause-value : goal.returns-in_err-key-clause-value
returns-in_err-key-clause-value g c =
    let none = sym c.find.ensures.value ∙ c.in_err-key.was in
    rw (← c.self.view_is)
    (c.from_residual.ensures ∙ sym (record_under c.self.inside.slots c.self.inside.index.pairs c.args.id c.self.invariant.tied ∙ ap (option_map (λ key. (place_at c.self.inside.slots key).known)) none))

pub known-requires : goal.known-requires
known-requires g c = item_there c.self.inside.slots c.self.inside.index.pairs c.args.id c.in_ok-key.key c.self.invariant.tied (sym c.find.ensures.value ∙ c.in_ok-key.was)

pub returns-clause-value : goal.returns-clause-value
returns-clause-value g c =
    let reads : Reads c.self.inside.slots c.self.inside.index.pairs c.args.id c.in_ok-key.key c.known.result = record { tied = c.self.invariant.tied; well_formed = c.self.invariant.well_formed; at = sym c.find.ensures.value ∙ c.in_ok-key.was; known = c.known.ensures } in
    rw (← c.self.view_is) (sym (found_record (here _ _ _ _ _ reads)))

pub returns-clause-owed_changed : goal.returns-clause-owed_changed
returns-clause-owed_changed g c change =
    let reads : Reads c.self.inside.slots c.self.inside.index.pairs c.args.id c.in_ok-key.key c.known.result = record { tied = c.self.invariant.tied; well_formed = c.self.invariant.well_formed; at = sym c.find.ensures.value ∙ c.in_ok-key.was; known = c.known.ensures } in
    rw (← c.self.view_is) (owed_by-with_changed change (here _ _ _ _ _ reads))

pub returns-clause-owed_without : goal.returns-clause-owed_without
returns-clause-owed_without g c =
    let reads : Reads c.self.inside.slots c.self.inside.index.pairs c.args.id c.in_ok-key.key c.known.result = record { tied = c.self.invariant.tied; well_formed = c.self.invariant.well_formed; at = sym c.find.ensures.value ∙ c.in_ok-key.was; known = c.known.ensures } in
    rw (← c.self.view_is) (owed_by-without_id (here _ _ _ _ _ reads))
