use Rattle.std.proofs.Common.{rules}
use Rattle.pool_engines.proofs.source.read_past_signals.Goals as goal

pub returns-then-ne-clause-retried : goal.returns-then-ne-clause-retried
returns-then-ne-clause-retried g c = search rules
