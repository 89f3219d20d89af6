use Rattle.std.proofs.Common.{sym, ◌∙◌}
use Rattle.pool_places.proofs.Turned.{item_there}
use Rattle.pool_places.proofs.places.Places.start_search_at.Goals as goal

pub known-requires : goal.known-requires
known-requires g c = item_there c.self.inside.slots c.self.inside.index.pairs c.args.id c.in-Some.key c.self.invariant.tied (sym c.find.ensures.value ∙ c.in-Some.is)
