use Rattle.pool_history.proofs.Moves.{fixes_settings_as}
use Rattle.pool_history.proofs.opening.fix_settings.Goals as goal

pub load-requires-clause-turns : goal.load-requires-clause-turns
load-requires-clause-turns g c = fixes_settings_as _ g.B.PoolBrand.settings _ _ c.requires.new
