use Rattle.std.proofs.Common.{◌≡◌, ◌==◌, true, ap, sym, ◌∙◌, arith}
use Rattle.std.specs.Option.{option_map}
use Rattle.std.proofs.lemmas.Bool.Decides.{nat_tests}
use Rattle.pool_places.specs.PlacesModel.{records_in}
use Rattle.pool_places.specs.Stored.{objects_of, place_at}
use Rattle.pool_places.proofs.Bounds.{unused_by}
use Rattle.pool_places.proofs.Outstanding.{found_record}
use Rattle.pool_places.proofs.Picks.{each_is_found}
use Rattle.pool_places.proofs.SlotLists.{record_under}
use Rattle.pool_places.proofs.Turned.{Reads, here, item_there}
use Rattle.pool_places.proofs.last_uses.is_current.Goals as goal

pub known-requires : goal.known-requires
known-requires g c = item_there c.args.slots.now c.args.index.now.pairs c.args.one.id c.in-Some.key c.requires.tied (sym c.find.ensures.value ∙ c.in-Some.is)

pub returns-in-Some : goal.returns-in-Some
returns-in-Some g c is =
    let slots = c.args.slots.now in
    let pairs = c.args.index.now.pairs in
    let reads : Reads slots pairs c.args.one.id c.in-Some.key c.known.result = record { tied = c.requires.tied; well_formed = c.requires.well_formed; at = sym c.find.ensures.value ∙ c.in-Some.is; known = c.known.ensures } in
    unused_by c.args.one (records_in (objects_of slots pairs)) _ (each_is_found (objects_of slots pairs) c.requires.well_formed.ascending) (found_record (here _ _ _ _ _ reads)) (
    λ lent used.
    let same : c.last_use.result ≡ c.args.one.at = c.last_use.ensures lent ∙ used in
    let equal : (c.last_use.result == c.args.one.at) ≡ true = grind (arith, nat_tests, same) in
    absurd (cc (is, equal))
    )

pub returns-in-None : goal.returns-in-None
returns-in-None g c is =
    let slots = c.args.slots.now in
    let pairs = c.args.index.now.pairs in
    let none = sym c.find.ensures.value ∙ c.in-None.is in
    unused_by c.args.one (records_in (objects_of slots pairs)) _ (each_is_found (objects_of slots pairs) c.requires.well_formed.ascending)
    (record_under slots pairs c.args.one.id c.requires.tied ∙ ap (option_map (λ key. (place_at slots key).known)) none) tt
