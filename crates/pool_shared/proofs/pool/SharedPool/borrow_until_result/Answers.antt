use Rattle.pool_calls.specs.declared.kind.Kind.TheVariants as kinds
use Rattle.pool_shared.specs.Borrows.{BorrowEnds}
use Rattle.pool_shared.proofs.Asking.{once_more}
use Rattle.pool_shared.proofs.Traces.{goes_far}
use Rattle.pool_shared.proofs.TracesToResults.{row_on}
use Rattle.pool_shared.proofs.pool.SharedPool.borrow_until_result.Goals as goal

pub returns-in-Some-borrow_once-clause-spec : goal.returns-in-Some-borrow_once-clause-spec
returns-in-Some-borrow_once-clause-spec g c =
    row_on g.B.PoolBrand.settings (kinds.Borrow c.args.began) (BorrowEnds g.B.PoolBrand.settings c.args.self.now.number c.args.began) _ _ _ _ _ _ c.loop.invariant.1 c.in-Some-borrow_once.ensures.spec

pub loop-preserved : goal.loop-preserved
loop-preserved g c =
    let i = c.loop.invariant in
    once_more g.B.PoolBrand.settings c.args.began c.args.me.now c.loop.me c.borrow_once.new.me i.0 i.1 c.in-None-borrow_once.ensures.advances c.in-None-borrow_once.ensures.again

pub returns-in-Some-borrow_once-clause-advances : goal.returns-in-Some-borrow_once-clause-advances
returns-in-Some-borrow_once-clause-advances g c = goes_far g.B.PoolBrand.settings c.args.me.now c.loop.me c.borrow_once.new.me c.loop.invariant.0 c.in-Some-borrow_once.ensures.advances
