use Rattle.std.proofs.Common.{Some, ap, sym, ◌∙◌}
use Rattle.std.proofs.lemmas.Option.{slice_get-map}
use Rattle.std.specs.Option.{option_map}
use Rattle.sorted_index.specs.declared.pair.Pair.{Pair}
use Rattle.pool_places.specs.declared.place.Place.{Place}
use Rattle.pool_places.specs.Stored.{objects_of, place_at}
use Rattle.pool_places.proofs.Entries.{at_position}
use Rattle.pool_places.proofs.SlotLists.{Good, each_good, known_place}
use Rattle.pool_places.proofs.places.Places.nth.Goals as goal

pub known-requires : goal.known-requires
known-requires g c =
    let rack = c.self.inside.slots in
    let pairs = c.self.inside.index.pairs in
    (at_position (Good rack pairs) pairs c.args.n c.in_ok-pair.pair (each_good rack pairs c.self.invariant.tied) (sym c.nth.ensures ∙ c.in_ok-pair.was)).there

pub returns : goal.returns
returns g c =
    let rack = c.self.inside.slots in
    let pairs = c.self.inside.index.pairs in
    let at = sym c.nth.ensures ∙ c.in_ok-pair.was in
    let place = slice_get-map (λ (p : Pair). place_at rack p.key) pairs c.args.n ∙ ap (option_map (λ (p : Pair). place_at rack p.key)) at in
    let known = slice_get-map (λ (p : Place g.row.T.Denot). p.known) (objects_of rack pairs) c.args.n ∙ ap (option_map (λ (p : Place g.row.T.Denot). p.known)) place in
    rw (← c.self.view_is) (sym (known ∙ ap Some (known_place rack c.in_ok-pair.pair.key c.known.result c.known.ensures)))
