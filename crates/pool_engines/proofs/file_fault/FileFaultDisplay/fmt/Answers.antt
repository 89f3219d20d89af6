use Rattle.std.proofs.Common.{rules}
use Rattle.pool_engines.proofs.file_fault.FileFaultDisplay.fmt.Goals as goal

pub returns-in-NotUtf8-clause-writes : goal.returns-in-NotUtf8-clause-writes
returns-in-NotUtf8-clause-writes g c = search rules
