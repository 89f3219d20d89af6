use Rattle.std.proofs.Common.{rules}
use Rattle.pool_engines.proofs.sink.flush_past_signals.Goals as goal

pub returns-in-Ok-clause-retried : goal.returns-in-Ok-clause-retried
returns-in-Ok-clause-retried g c = search rules
