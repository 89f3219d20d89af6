use Rattle.pool_history.proofs.Moves.{adds_caller_as}
use Rattle.pool_history.proofs.opening.add_caller.Goals as goal

pub split-pass-requires-clause-forks : goal.split-pass-requires-clause-forks
split-pass-requires-clause-forks g c = adds_caller_as _ g.B.PoolBrand.settings _ _ _ _ c.requires.new
