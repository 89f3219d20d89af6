use Rattle.std.proofs.Common.{◌≡◌, true, Some, None, refl, subst}
use Rattle.pool_journal.specs.declared.answer.Answer.TheVariants as answers
use Rattle.pool_journal.specs.declared.input.Input.{Input}
use Rattle.pool_journal.specs.declared.input.Input.TheVariants as inputs
use Rattle.pool_journal.specs.declared.input.Outcome.TheVariants as outcomes
use Rattle.pool_calls.specs.Operations.{step_at}
use Rattle.pool_host.specs.Hosting.{HostedModel, TakesFirst}
use Rattle.pool_host.specs.Overtaking.{CountsOvertakes}
use Rattle.pool_host.specs.declared.call.Call.{Call}
use Rattle.pool_host.proofs.Moving.{moves_step, takes_on, takes_step}
use Rattle.pool_host.proofs.Overtaking.{counts_on, passes_other}
use Rattle.pool_host.proofs.Running.{takes_uncut}
use Rattle.pool_host.proofs.pool.HostedPool.return_whole.Goals as goal

pub returns-clause-stepped : goal.returns-clause-stepped
returns-clause-stepped c is =
    let input : Input = inputs.GiveBack c.args.id in
    let park : Input = inputs.Park c.args.id outcomes.Good in
    let inside = c.self.inside in
    let here : HostedModel = record { core = inside.core; queue = inside.waiters; plan = inside.plan; drops = inside.drops; holds_back = inside.holds_back; last = inside.last } in
    let call = c.args.call.now in
    let parks = c.park_lent.ensures.parked in
    let goes = c.in-Some.ensures in
    let found : Call = record call { operation = goes.between } in
    let last : Call = record call { operation = c.in-Some.parked } in
    let mid : HostedModel = record here { core = parks.mid } in
    let new : HostedModel = record here { core = c.park_lent.new.self } in
    let checked = takes_uncut c.args.caller c.args.at input None here.drops here.core parks.mid answers.Check None parks.checked in
    let back = takes_uncut c.args.caller c.args.at park (Some found.token) here.drops parks.mid new.core answers.Parked None parks.parked in
    let asked : step_at found.operation ≡ Some park = goes.asks in
    let first = takes_step input c.args.caller c.args.at answers.Check None here mid call found c.requires.asked checked refl goes.begins.comes refl refl refl refl in
    let second = moves_step c.args.caller c.args.at mid new found last park answers.Parked None asked back refl goes.ends.comes refl refl refl refl in
    let T : HostedModel → Type 0 = λ d. TakesFirst input true c.args.caller c.args.at d new call last in
    let first_pass = passes_other c.args.caller c.args.at input answers.Check None here mid call found refl c.requires.asked checked refl refl refl refl refl in
    let second_pass = passes_other c.args.caller c.args.at park answers.Parked None mid new found last refl asked back refl refl refl refl refl in
    let O : HostedModel → Type 0 = λ d. CountsOvertakes c.args.caller c.args.at d new call last in
    record {
      takes = subst T c.self.view_is (takes_on input c.args.caller c.args.at true here mid new call found last refl first second);
      overtakes = subst O c.self.view_is (counts_on c.args.caller c.args.at here mid new call found last first_pass second_pass);
      room = c.in-Some.ensures.ends.room;
      longer = refl;
    }
