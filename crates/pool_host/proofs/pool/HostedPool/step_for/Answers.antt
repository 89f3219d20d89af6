use Rattle.std.proofs.Common.{◌≡◌, ℕ, true, Option, sym, ap, subst}
use Rattle.std.specs.Option.{is_some}
use Rattle.pool_calls.specs.Operations.{is_waiting}
use Rattle.pool_host.specs.Hosting.{Takes}
use Rattle.pool_host.proofs.Moving.{takes_none, takes_step}
use Rattle.pool_host.proofs.Overtaking.{asking_waits, counts_rest, passes_other, rests_kept}
use Rattle.pool_host.proofs.Queueing.{queues_same}
use Rattle.pool_host.proofs.Running.{forgets_settings}
use Rattle.pool_host.specs.Queueing.{Queues}
use Rattle.pool_host.proofs.pool.HostedPool.step_for.Goals as goal

pub returns-in-Ok-clause-moves : goal.returns-in-Ok-clause-moves
returns-in-Ok-clause-moves c =
    let rest = c.take.ensures.rest in
    let A : Option ℕ → Type 0 = λ v. Takes c.args.caller c.args.at c.args.input v c.args.self.now.drops c.args.self.now.core c.take.new.self.core c.in-Ok.answer c.in-Ok.out in
    takes_step c.args.input c.args.caller c.args.at c.in-Ok.answer c.in-Ok.out c.args.self.now c.take.new.self c.args.call.now c.tell_answer.new.call c.requires.asked (subst A c.token_for-value.ensures.value c.in-Ok.ensures.taken) c.tell_answer.ensures.token (c.tell_answer.ensures.comes (ap (λ s. is_some s) c.requires.asked)) (ap (λ d. d.plan) rest) (ap (λ d. d.drops) rest) (ap (λ d. d.queue) rest) c.tell_answer.ensures.ticket

pub returns-in-Err-clause-moves : goal.returns-in-Err-clause-moves
returns-in-Err-clause-moves c =
    let rest = c.take.ensures.rest in
    let Q : Option ℕ → Type 0 = λ t. Queues c.args.call.now.ticket t c.args.self.now.queue c.take.new.self.queue in
    takes_none c.args.input c.args.caller c.args.at c.args.self.now c.take.new.self c.args.call.now c.tell_failure.new.call c.in-Err.ensures.failed c.tell_failure.ensures.token c.tell_failure.ensures.comes
    (record { settings = forgets_settings c.args.self.now.drops c.args.self.now.core c.take.new.self.core c.in-Err.ensures.failed; plan = ap (λ d. d.plan) rest; drops = ap (λ d. d.drops) rest })
    (subst Q (sym c.tell_failure.ensures.ticket) (queues_same c.args.call.now.ticket c.args.self.now.queue c.take.new.self.queue (ap (λ d. d.queue.most) rest) (ap (λ d. d.queue.waiting) rest)))

pub returns-in-Ok-clause-other : goal.returns-in-Ok-clause-other
returns-in-Ok-clause-other c =
    let rest = c.take.ensures.rest in
    let A : Option ℕ → Type 0 = λ v. Takes c.args.caller c.args.at c.args.input v c.args.self.now.drops c.args.self.now.core c.take.new.self.core c.in-Ok.answer c.in-Ok.out in
    λ other. passes_other c.args.caller c.args.at c.args.input c.in-Ok.answer c.in-Ok.out c.args.self.now c.take.new.self c.args.call.now c.tell_answer.new.call other c.requires.asked (subst A c.token_for-value.ensures.value c.in-Ok.ensures.taken) (ap (λ d. d.drops) rest) c.tell_answer.ensures.turn c.tell_answer.ensures.ticket (ap (λ d. d.queue.waiting) rest) (ap (λ d. d.queue.latest) rest)

pub returns-in-Err-clause-other : goal.returns-in-Err-clause-other
returns-in-Err-clause-other c =
    let rest = c.take.ensures.rest in
    λ other. counts_rest c.args.caller c.args.at c.args.self.now c.take.new.self c.args.call.now c.tell_failure.new.call (rests_kept c.args.at c.args.self.now c.take.new.self c.args.call.now c.tell_failure.new.call c.in-Err.ensures.failed (ap (λ d. d.drops) rest) c.tell_failure.ensures.turn (λ waits. asking_waits c.args.call.now.operation (is_waiting c.tell_failure.new.call.operation ≡ true) (ap (λ s. is_some s) c.requires.asked) waits) c.tell_failure.ensures.ticket (ap (λ d. d.queue.waiting) rest) (ap (λ d. d.queue.latest) rest))

pub returns-in-Ok-clause-taken : goal.returns-in-Ok-clause-taken
returns-in-Ok-clause-taken c =
    let A : Option ℕ → Type 0 = λ v. Takes c.args.caller c.args.at c.args.input v c.args.self.now.drops c.args.self.now.core c.take.new.self.core c.in-Ok.answer c.in-Ok.out in
    (c.in-Ok.out, subst A c.token_for-value.ensures.value c.in-Ok.ensures.taken)
