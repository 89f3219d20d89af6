use Rattle.std.proofs.Common.{Option, IfNone, sym, subst}
use Rattle.pool_host.specs.Words.{ReadsNone}
use Rattle.pool_host.specs.declared.call.Call.{Call}
use Rattle.pool_host.proofs.words.CallWords.call.Goals as goal

pub returns-in_err-operation-clause-none : goal.returns-in_err-operation-clause-none
returns-in_err-operation-clause-none c =
    let P : Option Call → Type 0 = λ o. IfNone o (ReadsNone c.args.self.now) in
    subst P (sym c.from_residual.ensures) (λ call reads. c.in_err-operation.ensures.none call.operation reads.operation)
