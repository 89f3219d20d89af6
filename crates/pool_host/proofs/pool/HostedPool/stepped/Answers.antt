use Rattle.std.proofs.Common.{Option, sym, subst}
use Rattle.std.proofs.lemmas.Bool.{both_ways}
use Rattle.pool_journal.specs.declared.input.Input.{Input}
use Rattle.pool_calls.specs.Operations.{lacks_room}
use Rattle.pool_host.specs.Hosting.{GoesFrom}
use Rattle.pool_host.proofs.pool.HostedPool.stepped.Goals as goal

pub returns : goal.returns
returns c report caller old heard before mid input hears asked stepped =
    let call = c.args.call.now in
    let next = c.action-action.ensures in
    let F : Option Input → Type 0 = λ s. GoesFrom s caller c.args.at heard c.args.self.now mid call in
    c.went.ensures report caller old heard before mid hears (record {
      goes = subst F (sym asked) (record { moves = stepped.takes.moves; starts = stepped.takes.starts });
      overtakes = stepped.overtakes;
      room = λ lacks drops. absurd (both_ways (lacks_room call.operation) stepped.room lacks);
      next = record { right = next.right; step = next.step; room = next.room; over = next.over };
      longer = stepped.longer;
    })
