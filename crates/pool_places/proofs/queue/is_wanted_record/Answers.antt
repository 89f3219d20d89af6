use Rattle.std.proofs.Common.{rules}
use Rattle.pool_places.proofs.queue.is_wanted_record.Goals as goal

pub returns-in-None : goal.returns-in-None
returns-in-None c = search rules

pub returns-then-is_idle_phase : goal.returns-then-is_idle_phase
returns-then-is_idle_phase c = search rules
