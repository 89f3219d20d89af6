use Rattle.std.proofs.Common.{◌≡◌, true, None, refl, ap}
use Rattle.pool_host.specs.Hosting.{handed}
use Rattle.pool_host.specs.declared.call.Call.{Call}
use Rattle.pool_host.proofs.Moving.{takes_step}
use Rattle.pool_host.proofs.Overtaking.{passes_other}
use Rattle.pool_host.proofs.Running.{takes_uncut}
use Rattle.pool_host.proofs.pool.HostedPool.take_usual.Goals as goal

pub returns-clause-stepped : goal.returns-clause-stepped
returns-clause-stepped g c is =
    let here = c.args.self.now in
    let new = c.step_usual.new.self in
    let call = c.args.call.now in
    let last : Call = record call { operation = c.in-Some.after } in
    let rest = c.step_usual.ensures.rest in
    let did : c.step_usual.result ≡ true = c.if-not-step_usual.false in
    let taken = takes_uncut c.args.caller c.args.at c.args.input (handed c.args.input call.token) here.drops here.core new.core c.args.answer None (c.step_usual.ensures.answered did) in
    record {
      takes = takes_step c.args.input c.args.caller c.args.at c.args.answer None here new call last c.requires.asked taken refl c.in-Some.ensures.comes (ap (λ d. d.plan) rest) (ap (λ d. d.drops) rest) (ap (λ d. d.queue) rest) refl;
      overtakes = passes_other c.args.caller c.args.at c.args.input c.args.answer None here new call last c.requires.other c.requires.asked taken (ap (λ d. d.drops) rest) refl refl (ap (λ d. d.queue.waiting) rest) (ap (λ d. d.queue.latest) rest);
      room = c.in-Some.ensures.room;
      longer = refl;
    }
