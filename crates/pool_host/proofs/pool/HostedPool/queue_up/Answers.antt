use Rattle.pool_host.proofs.Overtaking.{rests_queued}
use Rattle.pool_host.proofs.pool.HostedPool.queue_up.Goals as goal

pub returns-then-tell-clause-rests : goal.returns-then-tell-clause-rests
returns-then-tell-clause-rests c = rests_queued c.args.at c.tell.new.self c.args.self.now c.draw_ticket.new.self c.args.call.now c.draw_ticket.new.call c.requires c.draw_ticket.ensures.rests
