use Rattle.std.proofs.Common.{rules}
use Rattle.pool_engines.proofs.settings_file.judge.Goals as goal

pub returns-in-Ok-clause-judged : goal.returns-in-Ok-clause-judged
returns-in-Ok-clause-judged c = search rules

pub returns-in-Err-clause-judged : goal.returns-in-Err-clause-judged
returns-in-Err-clause-judged c = search rules
