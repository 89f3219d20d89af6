use Rattle.std.proofs.Common.{◌≡◌, ◌+◌, ◌≤◌, ◌++◌, ◌∷◌, [], ℕ, max, refl, sym, ap, ◌∙◌, subst, arith, rules}
use Rattle.pool_calls.specs.Order.{IsQueue}
use Rattle.pool_calls.specs.Waiting.{is_in, newest}
use Rattle.pool_calls.proofs.Orders.{all_back, below_out, pushed, pushed_queue}
use Rattle.pool_calls.proofs.Times.{timed_below, timed_few}
use Rattle.pool_calls.proofs.waiters.Waiters.wait.Goals as goal

pub push_back-requires-clause-above : goal.push_back-requires-clause-above
push_back-requires-clause-above c = all_back _ _ _ c.self-2.invariant.drawn_before

pub push_back-requires-2-clause-above : goal.push_back-requires-2-clause-above
push_back-requires-2-clause-above c = timed_below c.self-2.inside.latest c.self-2.inside.drawn _ _ c.self-2.invariant.timed c.self-2.invariant.drawn_before

pub push_back-requires-2-clause-room : goal.push_back-requires-2-clause-room
push_back-requires-2-clause-room c =
    let spare = subst (λ q. 1 ≤ q.spare) (sym c.self-2.view_is) c.in_ok-reserve.ensures.ok in
    omega (arith, spare, timed_few c.self-2.inside.latest _ _ c.self-2.invariant.timed)

pub invariant_of-self : goal.invariant_of-self
invariant_of-self c =
    let q = c.self-2.inside in
    let spare = subst (λ q. 1 ≤ q.spare) (sym c.self-2.view_is) c.in_ok-reserve.ensures.ok in
    let same : q.drawn ≡ c.self.inside.drawn = ap (λ q. q.drawn) (c.self-2.view_is ∙ c.in_ok-reserve.ensures.rest) ∙ ap (λ q. q.drawn) (sym c.self.view_is) in
    let next : c.in_ok-next.next ≡ c.self.inside.drawn + 1 = search rules in
    let drawn : q.drawn + 1 ≡ c.in_ok-next.next = omega (arith, same, next) in
    subst (λ (n : ℕ). IsQueue q.signalled c.push_back.new.self c.push_back-2.new.self c.max-since.result n q.overtakes q.max_overtakes) drawn
    (pushed_queue q.latest q.drawn q.overtakes q.max_overtakes q.signalled q.asleep q.times c.push_back.new.self c.push_back-2.new.self _ _ c.self-2.invariant refl refl refl (omega (arith, c.max-since.ensures)) c.push_back.ensures.pairs c.push_back-2.ensures.pairs c.push_back.ensures.capacity c.push_back-2.ensures.capacity (omega (arith, spare)))

pub returns-clause-waits : goal.returns-clause-waits
returns-clause-waits c =
    let q = c.self-2.inside in
    let same = c.self-2.view_is ∙ c.in_ok-reserve.ensures.rest in
    pushed q.overtakes q.latest q.times.pairs _ q.signalled.pairs q.asleep.pairs _ _ _ c.self-2.invariant.timed c.self-2.invariant.drawn_before refl refl c.push_back-2.ensures.pairs c.push_back.ensures.pairs
    ∙ ap (λ d. d.waiting ++ newest q.drawn c.max-since.result ∷ []) same
    ∙ ap (λ n. c.args.self.now.waiting ++ newest q.drawn n ∷ []) (c.max-since.ensures ∙ ap (λ d. max c.args.at d.latest) same)

pub returns-clause-fresh : goal.returns-clause-fresh
returns-clause-fresh c =
    ap (λ q. is_in c.self-2.inside.drawn q.waiting) (sym (c.self-2.view_is ∙ c.in_ok-reserve.ensures.rest)) ∙ below_out c.self-2.inside.drawn c.self-2.inside.overtakes c.self-2.inside.times.pairs _ c.self-2.invariant.drawn_before
