use Rattle.std.proofs.Common.{rules}
use Rattle.pool_core.proofs.object_names.next_after.Goals as goal

pub returns-in-Make : goal.returns-in-Make
returns-in-Make c = search rules
