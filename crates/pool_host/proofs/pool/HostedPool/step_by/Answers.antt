use Rattle.std.proofs.Common.{◌≡◌, true, sym}
use Rattle.pool_host.proofs.pool.HostedPool.step_by.Goals as goal

pub returns-clause-went : goal.returns-clause-went
returns-clause-went g c report before hears =
    let took : c.take_usual.result ≡ true = c.if-not-take_usual.false in
    c.stepped.ensures report c.args.caller c.args.self.now c.args.self.now before c.args.call.now c.in-Step.input hears (sym c.in-Step.ensures.step) (c.take_usual.ensures.stepped took)
