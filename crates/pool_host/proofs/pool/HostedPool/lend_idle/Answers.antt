use Rattle.std.proofs.Common.{◌≡◌, ℕ, true, Some, None, refl, sym, subst, arith}
use Rattle.pool_journal.specs.declared.answer.Answer.TheVariants as answers
use Rattle.pool_journal.specs.declared.input.Input.{Input}
use Rattle.pool_journal.specs.declared.input.Input.TheVariants as inputs
use Rattle.pool_journal.specs.declared.input.Outcome.TheVariants as outcomes
use Rattle.pool_core.specs.Core.{Answered}
use Rattle.pool_core.specs.Pool.{CoreModel}
use Rattle.pool_calls.specs.Operations.{step_at}
use Rattle.pool_host.specs.declared.report.Report.TheVariants as reports
use Rattle.pool_host.specs.Hosting.{HostedModel, Accepts, IsAvailable, TakesFirst, may_come_in}
use Rattle.pool_host.specs.Overtaking.{CountsOvertakes, Draws, is_newcomer}
use Rattle.pool_host.specs.declared.call.Call.{Call}
use Rattle.pool_host.proofs.Moving.{moves_step, takes_on, takes_step, takes_then}
use Rattle.pool_host.proofs.Overtaking.{counts_on, draws_none, passes_asked, passes_other}
use Rattle.pool_host.proofs.Running.{takes_uncut}
use Rattle.pool_host.proofs.pool.HostedPool.lend_idle.Goals as goal

pub returns-clause-stepped : goal.returns-clause-stepped
returns-clause-stepped c is =
    let input : Input = inputs.Borrow c.args.began in
    let ready : Input = inputs.Ready c.args.id outcomes.Good in
    let inside = c.self.inside in
    let here : HostedModel = record { core = inside.core; queue = inside.waiters; plan = inside.plan; drops = inside.drops; holds_back = inside.holds_back; last = inside.last } in
    let call = c.args.call.now in
    let lends = c.in-Ok.ensures.lent in
    let token = c.in-Ok.token in
    let note = c.note_found.ensures in
    let new = c.note_found.new.self in
    let goes = c.in-Some.ensures in
    let mid : HostedModel = record here { core = lends.mid } in
    let noted : HostedModel = record new { core = lends.mid } in
    let found : Call = record call { operation = goes.between; token = token } in
    let served : Call = record c.note_found.new.call { operation = goes.between; token = token } in
    let last : Call = record c.note_found.new.call { operation = c.in-Some.lent; token = token } in
    let C : CoreModel ℕ → Type 0 = λ m. Answered c.args.caller c.args.at ready None lends.mid m answers.Lent None in
    let taken = takes_uncut c.args.caller c.args.at input None here.drops here.core lends.mid (answers.Take c.args.id) (Some token) lends.taken in
    let readied = takes_uncut c.args.caller c.args.at ready None noted.drops lends.mid new.core answers.Lent None (subst C (sym note.accepts.core) lends.lent) in
    let asked : step_at served.operation ≡ Some ready = goes.asks in
    let first = takes_step input c.args.caller c.args.at (answers.Take c.args.id) (Some token) here mid call found c.requires.asked taken refl goes.begins.comes refl refl refl refl in
    let rest : Accepts reports.GoOn mid noted found served = record { core = refl; rest = record { settings = refl; plan = note.accepts.rest.plan; drops = note.accepts.rest.drops }; token = refl; comes = λ turns come. come; queue = note.accepts.queue } in
    let then = takes_then input c.args.caller c.args.at true here mid noted call found served first rest in
    let second = moves_step c.args.caller c.args.at noted new served last ready answers.Lent None asked readied refl goes.ends.comes refl refl refl refl in
    let T : HostedModel → Type 0 = λ d. TakesFirst input true c.args.caller c.args.at d new call last in
    let n = c.args.available in
    let there = subst (λ (d : HostedModel). IsAvailable d n) (sym c.self.view_is) c.requires.available in
    let may = λ (newcomer : is_newcomer call ≡ true). subst (λ (d : HostedModel). may_come_in n c.args.at d ≡ true) (sym c.self.view_is) (c.requires.may newcomer) in
    let first_pass = passes_asked c.args.caller c.args.at c.args.began n (answers.Take c.args.id) (Some token) here mid noted call found served c.requires.asked there may taken refl refl refl refl refl note.accepts.rest.drops note.served (λ has none. draws_none None served.ticket (Draws c.args.at mid.queue noted.queue served) note.ticket has refl) (omega (arith, note.latest)) note.others in
    let second_pass = passes_other c.args.caller c.args.at ready answers.Lent None noted new served last refl asked readied refl refl refl refl refl in
    let O : HostedModel → Type 0 = λ d. CountsOvertakes c.args.caller c.args.at d new call last in
    record {
      takes = subst T c.self.view_is (takes_on input c.args.caller c.args.at true here noted new call served last refl then second);
      overtakes = subst O c.self.view_is (counts_on c.args.caller c.args.at here noted new call served last first_pass second_pass);
      room = c.in-Some.ensures.ends.room;
      longer = c.note_found.ensures.longer;
    }
