use Rattle.pool_shared.proofs.Sweeping.{goes_then}
use Rattle.std.proofs.Common.{refl, sym, ap, ◌∙◌}
use Rattle.pool_journal.specs.declared.answer.Answer.TheVariants.{Refused, Exhausted, TimedOut}
use Rattle.pool_journal.specs.declared.answer.Cause.TheVariants.{Closed}
use Rattle.pool_calls.specs.declared.action.End.TheVariants as ends
use Rattle.pool_calls.specs.declared.kind.Kind.TheVariants as kinds
use Rattle.pool_calls.specs.declared.stage.Stage.TheVariants as stages
use Rattle.pool_shared.specs.Stages.{asks}
use Rattle.pool_shared.specs.Borrows.{BorrowEnds}
use Rattle.pool_shared.proofs.Asking.{refuses, to_there}
use Rattle.pool_shared.proofs.Removing.{ends_stopped, not_from_factory}
use Rattle.pool_shared.proofs.TracesToResults.{row_at, row_on}
use Rattle.pool_shared.proofs.Traces.{trace_on}
use Rattle.pool_shared.proofs.pool.SharedPool.borrow_once.Goals as goal

pub returns-in-Some-clause-spec : goal.returns-in-Some-clause-spec
returns-in-Some-clause-spec g c =
    let s = g.B.PoolBrand.settings in
    let w = to_there s c.args.began _ _ _ _ c.in-Ok-Take-Some.field-0-0-is c.in-Ok-Take-Some.ensures.trace in
    let loan = c.in-Some.ensures.lent in
    row_at s (kinds.Borrow c.args.began) (BorrowEnds s c.args.self.now.number c.args.began) _ _ _ _ _
    (trace_on s (kinds.Borrow c.args.began) _ _ _ _ _ _ w (c.in-Some.ensures.trace c.args.began))
    (ap (λ i. stages.Ends (ends.Lent i)) (sym loan.1), loan.0, c.in-Some.ensures.ends)

pub returns-in-None-clause-again : goal.returns-in-None-clause-again
returns-in-None-clause-again g c =
    let s = g.B.PoolBrand.settings in
    let w = to_there s c.args.began _ _ _ _ c.in-Ok-Take-Some.field-0-0-is c.in-Ok-Take-Some.ensures.trace in
    trace_on s (kinds.Borrow c.args.began) _ _ _ _ _ _ w (c.in-None.ensures.trace c.args.began)

pub returns-in-Ok-Make-default-clause-spec : goal.returns-in-Ok-Make-default-clause-spec
returns-in-Ok-Make-default-clause-spec g c =
    let s = g.B.PoolBrand.settings in
    let w = to_there s c.args.began _ _ _ _ c.in-Ok-Make-default.field-0-0-is c.in-Ok-Make-default.ensures.trace in
    row_on s (kinds.Borrow c.args.began) (BorrowEnds s c.args.self.now.number c.args.began) _ _ _ _ _ _ w (c.lend_made.ensures.spec c.args.began)

pub returns-in-Some-clause-advances : goal.returns-in-Some-clause-advances
returns-in-Some-clause-advances g c = goes_then g.B.PoolBrand.settings _ _ _ c.in-Ok-Take-Some.ensures.advances c.in-Some.ensures.advances

pub returns-in-None-clause-advances : goal.returns-in-None-clause-advances
returns-in-None-clause-advances g c = goes_then g.B.PoolBrand.settings _ _ _ c.in-Ok-Take-Some.ensures.advances c.in-None.ensures.advances

pub returns-in-Ok-Make-default-clause-advances : goal.returns-in-Ok-Make-default-clause-advances
returns-in-Ok-Make-default-clause-advances g c = goes_then g.B.PoolBrand.settings _ _ _ c.in-Ok-Make-default.ensures.advances c.lend_made.ensures.advances

pub returns-in-Ok-Refused-Closed-default-clause-spec : goal.returns-in-Ok-Refused-Closed-default-clause-spec
returns-in-Ok-Refused-Closed-default-clause-spec g c =
    let s = g.B.PoolBrand.settings in
    let of = c.in-Ok-Refused-Closed-default in
    refuses s c.args.began c.args.self.now.number _ (Refused Closed) _ _ _ (of.field-0-0-is ∙ ap Refused of.field-0-0-0-is) of.ensures.trace (refl, (_, _, of.ensures.ends))

pub returns-in-Ok-Exhausted-default-clause-spec : goal.returns-in-Ok-Exhausted-default-clause-spec
returns-in-Ok-Exhausted-default-clause-spec g c =
    let s = g.B.PoolBrand.settings in
    let of = c.in-Ok-Exhausted-default in
    refuses s c.args.began c.args.self.now.number _ (Exhausted) _ _ _ (of.field-0-0-is) of.ensures.trace (refl, (_, _, of.ensures.ends))

pub returns-in-Ok-TimedOut-default-clause-spec : goal.returns-in-Ok-TimedOut-default-clause-spec
returns-in-Ok-TimedOut-default-clause-spec g c =
    let s = g.B.PoolBrand.settings in
    let of = c.in-Ok-TimedOut-default in
    refuses s c.args.began c.args.self.now.number _ (TimedOut) _ _ _ (of.field-0-0-is) of.ensures.trace (refl, (_, _, of.ensures.ends))

pub returns-in-Err-clause-spec : goal.returns-in-Err-clause-spec
returns-in-Err-clause-spec g c =
    let s = g.B.PoolBrand.settings in
    let of = c.in-Err.ensures in
    rw c.from.ensures (row_at s (kinds.Borrow c.args.began) (BorrowEnds s c.args.self.now.number c.args.began) asks asks _ _ _ of.none (ends_stopped s c.args.began g.row.T.Denot g.row.E.Denot c.args.self.now.number asks c.in-Err.fault _ of.refused))

pub returns-in-Err-clause-fault : goal.returns-in-Err-clause-fault
returns-in-Err-clause-fault g c = rw c.from.ensures (not_from_factory _ _ c.in-Err.fault)
