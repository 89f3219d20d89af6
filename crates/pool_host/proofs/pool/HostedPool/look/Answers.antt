use Rattle.std.proofs.Common.{◌≡◌, ◌∙◌, true, sym, subst, ap}
use Rattle.pool_journal.specs.declared.input.Input.TheVariants as inputs
use Rattle.std.specs.Option.{is_some}
use Rattle.pool_calls.specs.Operations.{is_waiting}
use Rattle.pool_calls.specs.Waiting.{Queue, may_lend}
use Rattle.pool_host.proofs.Moving.{takes_then}
use Rattle.pool_host.proofs.Overtaking.{asking_waits, counts_rest, may_lend_of, newcomer_of, passes_asked, rests_kept}
use Rattle.pool_host.proofs.pool.HostedPool.look.Goals as goal

pub note_answer-requires : goal.note_answer-requires
note_answer-requires c =
    let step = c.step_for in
    let call = c.args.call.now in
    let P : Queue → Type 0 = λ q. may_lend c.args.available c.args.at q ≡ true in
    λ none unserved. subst P (sym step.ensures.queue) (may_lend_of c.args.available c.args.at c.args.self.now (c.requires.may (newcomer_of call (sym step.ensures.ticket ∙ none) (sym step.ensures.turn ∙ unserved))))

pub returns-clause-moves : goal.returns-clause-moves
returns-clause-moves c =
    takes_then (inputs.Borrow c.args.began) c.args.caller c.args.at true c.args.self.now c.step_for.new.self c.note_answer.new.self c.args.call.now c.step_for.new.call c.note_answer.new.call c.in_ok-answer.ensures.moves c.note_answer.ensures.accepts

pub returns-clause-overtakes : goal.returns-clause-overtakes
returns-clause-overtakes c =
    let step = c.in_ok-answer.ensures in
    let note = c.note_answer.ensures in
    passes_asked c.args.caller c.args.at c.args.began c.args.available c.in_ok-answer.answer step.taken.0 c.args.self.now c.step_for.new.self c.note_answer.new.self c.args.call.now c.step_for.new.call c.note_answer.new.call c.requires.asked c.requires.available c.requires.may step.taken.1 step.drops step.queue step.ticket step.turn note.accepts.core note.accepts.rest.drops note.served note.draws note.latest note.others

pub returns-in_err-answer-clause-overtakes : goal.returns-in_err-answer-clause-overtakes
returns-in_err-answer-clause-overtakes c =
    let step = c.step_for.ensures in
    counts_rest c.args.caller c.args.at c.args.self.now c.step_for.new.self c.args.call.now c.step_for.new.call (rests_kept c.args.at c.args.self.now c.step_for.new.self c.args.call.now c.step_for.new.call c.in_err-answer.ensures.failed step.drops step.turn (λ waits. asking_waits c.args.call.now.operation (is_waiting c.step_for.new.call.operation ≡ true) (ap (λ s. is_some s) c.requires.asked) waits) step.ticket (ap (λ q. q.waiting) step.queue) (ap (λ q. q.latest) step.queue))
