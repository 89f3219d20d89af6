use Rattle.std.proofs.Common.{◌≡◌, ◌==◌, true, List, ◌++◌, length, length-append, sym, ap, ◌∙◌, arith}
use Rattle.std.proofs.lemmas.Bool.Decides.{nat_tests}
use Rattle.std.proofs.lemmas.List.{length-map}
use Rattle.sorted_index.specs.declared.pair.Pair.{Pair}
use Rattle.pool_calls.specs.Order.{waiter_of}
use Rattle.pool_calls.proofs.Times.{timed_few}
use Rattle.pool_calls.proofs.waiters.Waiters.is_empty.Goals as goal

pub returns-clause-value : goal.returns-clause-value
returns-clause-value c =
    let q = c.self.inside in
    rw (← c.self.view_is) (c.is_empty.ensures ∙ ap (λ n. n == 0) (timed_few q.latest _ _ c.self.invariant.timed ∙ sym (length-map _ (waiter_of q.overtakes q.times.pairs))))

none_signalled : (ps qs : List Pair) → (length (ps ++ qs) == 0) ≡ true → length ps ≡ 0
none_signalled ps qs none =
    let zero : length (ps ++ qs) ≡ 0 = grind (arith, nat_tests) in
    omega (arith, zero, length-append ps qs)

pub returns-clause-signalled : goal.returns-clause-signalled
returns-clause-signalled c none =
    let q = c.self.inside in
    rw (← c.self.view_is) (none_signalled q.signalled.pairs q.asleep.pairs (sym (c.is_empty.ensures ∙ ap (λ n. n == 0) (timed_few q.latest _ _ c.self.invariant.timed)) ∙ none))
