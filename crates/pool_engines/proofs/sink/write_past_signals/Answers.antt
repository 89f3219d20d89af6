use Rattle.std.proofs.Common.{rules}
use Rattle.pool_engines.proofs.sink.write_past_signals.Goals as goal

pub returns-in-Ok-clause-some : goal.returns-in-Ok-clause-some
returns-in-Ok-clause-some g c = search rules
