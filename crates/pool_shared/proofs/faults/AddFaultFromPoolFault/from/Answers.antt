use Rattle.std.proofs.Common.{rules}
use Rattle.pool_shared.proofs.faults.AddFaultFromPoolFault.from.Goals as goal

pub returns-in-JournalFull : goal.returns-in-JournalFull
returns-in-JournalFull g c = search rules
