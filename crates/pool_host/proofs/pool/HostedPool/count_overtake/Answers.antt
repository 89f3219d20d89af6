use Rattle.std.proofs.Common.{ap, subst}
use Rattle.pool_host.specs.Hosting.{HostedModel}
use Rattle.pool_host.specs.Queueing.{Queues}
use Rattle.pool_host.proofs.Queueing.{queues_lent}
use Rattle.pool_host.proofs.pool.HostedPool.count_overtake.Goals as goal

pub returns-then-not-call-clause-queue : goal.returns-then-not-call-clause-queue
returns-then-not-call-clause-queue c =
    let P : HostedModel → Type 0 = λ d. Queues c.args.call.now.ticket c.args.call.now.ticket d.queue c.note_lent.new.self in
    subst P c.self.view_is (queues_lent c.args.available c.args.at c.args.call.now.ticket c.self.inside.waiters c.note_lent.new.self (ap (λ q. q.most) c.note_lent.ensures.rest) c.note_lent.ensures.waiting)
