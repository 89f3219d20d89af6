-- Counts as a list of numbers.
use Rattle.std.specs.Prelude.{ℕ, List, [], ◌∷◌}
use Rattle.pool_stats.specs.declared.counts.Counts.{Counts}

-- the eight numbers, in the order of the fields
abbrev pub words_of : Counts → List ℕ
words_of c = c.steps ∷ c.idle ∷ c.lent ∷ c.reserved ∷ c.created ∷ c.destroyed ∷ c.evicted ∷ c.reclaimed ∷ []
