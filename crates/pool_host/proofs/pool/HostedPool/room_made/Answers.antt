use Rattle.pool_host.proofs.pool.HostedPool.room_made.Goals as goal

pub returns-clause-told : goal.returns-clause-told
returns-clause-told c is =
    (c.tell.new.self, c.tell.ensures.proceeds c.if-not-tell.false, c.look_again.ensures.told)
