use Rattle.std.proofs.Common.{◌≡◌, ◌∙◌, true, None, unwrap_or, refl, sym, ap, subst, arith}
use Rattle.pool_journal.specs.declared.answer.Answer.TheVariants as answers
use Rattle.pool_journal.specs.declared.input.Input.{Input}
use Rattle.pool_journal.specs.declared.input.Input.TheVariants as inputs
use Rattle.pool_host.specs.Hosting.{Accepts, HostedModel, IsAvailable, TakesFirst, may_come_in}
use Rattle.pool_host.specs.Overtaking.{CountsOvertakes, Draws, is_newcomer}
use Rattle.pool_host.specs.declared.call.Call.{Call}
use Rattle.pool_host.specs.declared.report.Report.TheVariants as reports
use Rattle.pool_host.proofs.Moving.{takes_step, takes_then}
use Rattle.pool_host.proofs.Overtaking.{draws_none, passes_asked}
use Rattle.pool_host.proofs.Running.{takes_uncut}
use Rattle.pool_host.proofs.pool.HostedPool.take_idle.Goals as goal

pub returns-clause-stepped : goal.returns-clause-stepped
returns-clause-stepped c is =
    let input : Input = inputs.Borrow c.args.began in
    let inside = c.self.inside in
    let here : HostedModel = record { core = inside.core; queue = inside.waiters; plan = inside.plan; drops = inside.drops; holds_back = inside.holds_back; last = inside.last } in
    let mid : HostedModel = record here { core = c.step_due.new.self } in
    let call = c.args.call.now in
    let note = c.note_found.ensures in
    let new = c.note_found.new.self in
    let token = c.unwrap_or-call.result in
    let found : Call = record call { operation = c.in-Some.taken; token = token } in
    let last : Call = record c.note_found.new.call { operation = c.in-Some.taken; token = token } in
    let taken = takes_uncut c.args.caller c.args.at input None here.drops here.core mid.core (answers.Take c.args.id) c.in-Ok.out c.in-Ok.ensures.answered in
    let told = c.unwrap_or-call.ensures ∙ ap (unwrap_or c.in-Ok.out) note.accepts.token in
    let first = takes_step input c.args.caller c.args.at (answers.Take c.args.id) c.in-Ok.out here mid call found c.requires.asked taken told c.in-Some.ensures.comes refl refl refl refl in
    let rest : Accepts reports.GoOn mid new found last = record { core = note.accepts.core; rest = note.accepts.rest; token = refl; comes = λ turns come. come; queue = note.accepts.queue } in
    let T : HostedModel → Type 0 = λ d. TakesFirst input true c.args.caller c.args.at d new call last in
    let n = c.args.available in
    let there = subst (λ (d : HostedModel). IsAvailable d n) (sym c.self.view_is) c.requires.available in
    let may = λ (newcomer : is_newcomer call ≡ true). subst (λ (d : HostedModel). may_come_in n c.args.at d ≡ true) (sym c.self.view_is) (c.requires.may newcomer) in
    let O : HostedModel → Type 0 = λ d. CountsOvertakes c.args.caller c.args.at d new call last in
    record {
      takes = subst T c.self.view_is (takes_then input c.args.caller c.args.at true here mid new call found last first rest);
      overtakes = subst O c.self.view_is (passes_asked c.args.caller c.args.at c.args.began n (answers.Take c.args.id) c.in-Ok.out here mid new call found last c.requires.asked there may taken refl refl refl refl note.accepts.core note.accepts.rest.drops note.served (λ has none. draws_none None last.ticket (Draws c.args.at mid.queue new.queue last) note.ticket has refl) (omega (arith, note.latest)) note.others);
      room = c.in-Some.ensures.room;
      longer = c.note_found.ensures.longer;
    }
