use Rattle.std.proofs.Common.{rules}
use Rattle.pool_stats.proofs.lendings.note_begun.Goals as goal

pub returns-in_ok-insert-clause-noted : goal.returns-in_ok-insert-clause-noted
returns-in_ok-insert-clause-noted c = search rules
