use Rattle.std.proofs.Common.{◌*◌, ◌≤◌, ◌++◌, ◌∷◌, [], ap, ◌∙◌, sym, arith, length, subst, rules}
use Rattle.std.specs.Prelude.{IfOk}
use Rattle.std.proofs.lemmas.Grind.{common_steps}
use Rattle.std.proofs.lemmas.Iterator.Adapters.{YieldsList-from_vec}
use Rattle.std.proofs.lemmas.Iterator.Consumers.{YieldsList-turn}
use Rattle.pool_load.specs.Workers.{added}
use Rattle.pool_load.proofs.Joined.{total_more, no_more, bound_more, bound_up}
use Rattle.pool_load.proofs.workers.collect_all.Goals as goal

pub add-total-requires-clause-total : goal.add-total-requires-clause-total
add-total-requires-clause-total g c =
    let turn = YieldsList-turn (YieldsList-from_vec {s = c.into_iter-worker-iterator.result} c.args.workers.items (search rules) (search rules)) c.loop-worker.yielded c.loop-worker.worker-iterator c.loop-worker.yielded_by c.next.result c.next.new.self c.in-Some.worker c.in-Some.is c.next.ensures.steps in
    bound_up c.loop-worker.total (1000000 * length c.loop-worker.yielded) 1023000000 (omega (arith, turn.0, c.requires.bounded)) c.loop-worker.invariant.2

pub add-total-requires-clause-more : goal.add-total-requires-clause-more
add-total-requires-clause-more g c =
    let turn = YieldsList-turn (YieldsList-from_vec {s = c.into_iter-worker-iterator.result} c.args.workers.items (search rules) (search rules)) c.loop-worker.yielded c.loop-worker.worker-iterator c.loop-worker.yielded_by c.next.result c.next.new.self c.in-Some.worker c.in-Some.is c.next.ensures.steps in
    no_more (λ w. w.outcome) 1000000 c.args.workers.items (length c.loop-worker.yielded) c.in-Some.worker c.requires.each turn.0 turn.1

pub loop-worker-preserved : goal.loop-worker-preserved
loop-worker-preserved g c =
    let i = c.loop-worker.invariant in
    let worker = c.in-Some.worker in
    let turn = YieldsList-turn (YieldsList-from_vec {s = c.into_iter-worker-iterator.result} c.args.workers.items (search rules) (search rules)) c.loop-worker.yielded c.loop-worker.worker-iterator c.loop-worker.yielded_by c.next.result c.next.new.self worker c.in-Some.is c.next.ensures.steps in
    let most = no_more (λ w. w.outcome) 1000000 c.args.workers.items (length c.loop-worker.yielded) worker c.requires.each turn.0 turn.1 in
    let sum = c.add-total.ensures.sum in (
      grind (arith, common_steps),
      sum ∙ ap (λ t. added t worker.outcome) i.1 ∙ sym (total_more (λ w. w.outcome) c.loop-worker.yielded worker),
      subst (λ o. IfOk o (λ n. n ≤ 1000000 * length (c.loop-worker.yielded ++ worker ∷ []))) (sym sum) (bound_more c.loop-worker.yielded worker 1000000 c.loop-worker.total worker.outcome i.2 most),
    )
