use Rattle.pool_calls.proofs.AtOnce.{lent}
use Rattle.pool_calls.proofs.operation.Operation.lent_at_once.Goals as goal

pub returns-in-Borrow : goal.returns-in-Borrow
returns-in-Borrow c =
    let same = c.ended.ensures.given in
    lent c.args.self.now c.ended.result c.args.id c.in-Borrow.field-0 c.in-Borrow.is (c.asks.ensures c.if-not-asks.false) c.if-self.false c.if-self-2.false c.if-self-3.false same.0 same.1 same.2 same.3 c.ended.ensures.place
