use Rattle.std.proofs.Common.{rules}
use Rattle.pool_history.proofs.Moves.{begins}
use Rattle.pool_history.proofs.cell.begin.Goals as goal

pub ruled-requires : goal.ruled-requires
ruled-requires c = (search rules, (search rules, begins))
