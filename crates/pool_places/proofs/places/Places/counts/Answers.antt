use Rattle.pool_places.proofs.Numbers.{small}
use Rattle.pool_places.proofs.places.Places.counts.Goals as goal

pub returns-clause-small : goal.returns-clause-small
returns-clause-small g c = (small _ _ c.self.invariant.well_formed.bounded c.self.invariant.counted).owed
