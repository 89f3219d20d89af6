use Rattle.std.proofs.Common.{None, ap, subst}
use Rattle.pool_host.specs.Hosting.{HostedModel}
use Rattle.pool_host.specs.Queueing.{Queues}
use Rattle.pool_host.proofs.Queueing.{queues_leave}
use Rattle.pool_host.proofs.pool.HostedPool.leave.Goals as goal

pub returns-in-Some-clause-queue : goal.returns-in-Some-clause-queue
returns-in-Some-clause-queue c =
    let P : HostedModel → Type 0 = λ d. Queues c.args.call.now.ticket None d.queue c.leave.new.self in
    subst P c.self.view_is (queues_leave c.args.call.now.ticket c.in-Some.ticket c.self.inside.waiters c.leave.new.self c.in-Some.is (ap (λ q. q.most) c.leave.ensures.rest) c.leave.ensures.waiting)
