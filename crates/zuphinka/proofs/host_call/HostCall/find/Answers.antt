use Rattle.std.proofs.Common.{Option, Some, None, IfNone}
use Rattle.pool_host.specs.declared.call.Call.{Call}
use Rattle.pool_host.specs.Words.{ReadsNone}
use Rattle.zuphinka.specs.HostCalls.{HoldsNone}
use Rattle.zuphinka.proofs.host_call.HostCall.find.Goals as goal

pub returns-clause-none : goal.returns-clause-none
returns-clause-none c = by_result c.call.result c.call.ensures.none
  where
    by_result : (o : Option Call) → IfNone o (ReadsNone c.args.self.now.words) → IfNone o (HoldsNone c.args.pool c.args.self.now)
    by_result None none = λ call holds. none call holds.words
    by_result (Some call) none = none
