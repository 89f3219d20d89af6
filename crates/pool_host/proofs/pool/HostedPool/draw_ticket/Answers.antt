use Rattle.std.proofs.Common.{refl, sym}
use Rattle.pool_host.proofs.Overtaking.{no_ticket, rests_drawn}
use Rattle.pool_host.proofs.pool.HostedPool.draw_ticket.Goals as goal

pub returns-clause-rests : goal.returns-clause-rests
returns-clause-rests c =
    rw (← c.self.view_is)
    (rests_drawn c.args.at c.in-Ok.ticket _ _ c.args.call.now _ refl refl refl (sym c.in-Wait.ensures.wait) (no_ticket c.args.call.now.ticket c.if-is_some.ensures) refl c.in-Ok.ensures.waits c.in-Ok.ensures.latest c.in-Ok.ensures.fresh)
