use Rattle.pool_calls.proofs.AtOnce.{parked}
use Rattle.pool_calls.proofs.operation.Operation.parked_at_once.Goals as goal

pub returns-in-Return : goal.returns-in-Return
returns-in-Return c =
    let same = c.ended.ensures.given in
    parked c.args.self.now c.ended.result c.args.id c.in-Return.field-0 c.requires c.in-Return.is (c.asks.ensures c.if-not-asks.false) c.if-self.false c.if-self-2.false c.if-self-3.false same.0 same.1 same.2 same.3 c.ended.ensures.place
