-- The bound on the ids is preserved if a pair is removed.
use Rattle.std.proofs.Common.{ℕ, ◌<◌, eqb, Bool, true, false, not, cond, List, [], ◌∷◌}
use Rattle.sorted_index.specs.declared.pair.Pair.{Pair}
use Rattle.sorted_index.specs.Pairs.{without, IdsBelow}

pub below_without : (n i : ℕ) (ps : List Pair) → IdsBelow n ps → IdsBelow n (without i ps)
below_without n i [] below = tt
below_without n i (p ∷ ps) below = by_test (not (eqb i p.id)) below.0 (below_without n i ps below.1)
  where
    by_test : (b : Bool) → p.id < n → IdsBelow n (without i ps) → IdsBelow n (cond b (p ∷ without i ps) (without i ps))
    by_test true here rest = (here, rest)
    by_test false here rest = rest
