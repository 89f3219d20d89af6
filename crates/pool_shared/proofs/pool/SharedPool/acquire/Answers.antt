use Rattle.std.proofs.lemmas.Result.{err_from_is_err_and}
use Rattle.pool_shared.proofs.TracesToResults.{room_fault_for}
use Rattle.pool_shared.proofs.Asking.{waited, asked_on, is_found}
use Rattle.pool_shared.proofs.Traces.{ends_of, goes_far}
use Rattle.pool_shared.proofs.pool.SharedPool.acquire.Goals as goal

pub loop-preserved : goal.loop-preserved
loop-preserved g c =
    let i = c.loop.invariant in
    waited g.B.PoolBrand.settings c.args.began c.in_ok-answer.answer c.args.me.now c.loop.me c.step.new.me c.in-Wait.is i.0 i.1 c.in_ok-answer.ensures.advances c.in_ok-answer.ensures.appended

pub returns-in_default : goal.returns-in_default
returns-in_default g c =
    let i = c.loop.invariant in
    record {
      advances = goes_far g.B.PoolBrand.settings c.args.me.now c.loop.me c.step.new.me i.0 c.in_ok-answer.ensures.advances;
      found = is_found c.args.began c.in_ok-answer.answer c.in_ok-answer.ensures.possible_answer c.in_default.not-Wait;
      trace = asked_on g.B.PoolBrand.settings c.args.began c.in_ok-answer.answer c.args.me.now c.loop.me c.step.new.me i.1 c.in_ok-answer.ensures.appended;
      ends = ends_of _ _ c.loop.me c.step.new.me c.in_ok-answer.ensures.advances.number c.in_ok-answer.ensures.appended;
      returned = c.in_ok-answer.ensures.returned;
      none = tt;
      refused = tt;
    }

pub returns-in_err-answer-clause-advances : goal.returns-in_err-answer-clause-advances
returns-in_err-answer-clause-advances g c = goes_far g.B.PoolBrand.settings c.args.me.now c.loop.me c.step.new.me c.loop.invariant.0 c.in_err-answer.ensures.advances

pub returns-in_err-answer-clause-refused : goal.returns-in_err-answer-clause-refused
returns-in_err-answer-clause-refused g c =
    let p = err_from_is_err_and c.from_residual.result c.from_residual.ensures.1 in
    rw (p.1, p.2) (room_fault_for g.B.PoolBrand.settings _ c.in_err-answer.field-0.0 _ _ c.in_err-answer.ensures.refused)
