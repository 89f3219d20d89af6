use Rattle.std.proofs.Common.{rules}
use Rattle.pool_core.proofs.state.State.decide.Goals as goal

pub returns-in-Invalidate : goal.returns-in-Invalidate
returns-in-Invalidate g c = search rules
