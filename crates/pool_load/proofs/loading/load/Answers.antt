use Rattle.std.proofs.Common.{rules}
use Rattle.pool_load.proofs.Lendings.{ok_rounds}
use Rattle.pool_load.proofs.loading.load.Goals as goal

pub returns-in-Ok-clause-rounds : goal.returns-in-Ok-clause-rounds
returns-in-Ok-clause-rounds g c = ok_rounds c.args.settings c.args.workers c.args.rounds c.load_on.result c.load_on.ensures.load

pub returns-in-Err-clause-fault : goal.returns-in-Err-clause-fault
returns-in-Err-clause-fault g c = search rules
