use Rattle.std.proofs.Common.{rules}
use Rattle.pool_places.proofs.overdue.is_overdue_record.Goals as goal

pub returns-then-is_lent_phase : goal.returns-then-is_lent_phase
returns-then-is_lent_phase c = search rules
