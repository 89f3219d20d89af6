use Rattle.std.proofs.Common.{◌≡◌, ◌==◌, ℕ, true, min, sym, subst, arith}
use Rattle.std.specs.Prelude.{length}
use Rattle.std.proofs.lemmas.Bool.Decides.{nat_tests}
use Rattle.pool_host.specs.Hosting.{HostedModel, available_in}
use Rattle.pool_host.proofs.pool.HostedPool.next_wake.Goals as goal

-- where none waits, none is to be signalled
all_signalled : (n available signalled : ℕ) → (n == 0) ≡ true → signalled ≡ 0 → signalled ≡ min available n
all_signalled n available signalled none unsignalled =
    let zero : n ≡ 0 = grind (arith, nat_tests) in
    omega arith

pub returns-then-is_empty-clause-settled : goal.returns-then-is_empty-clause-settled
returns-then-is_empty-clause-settled c =
    let inside = c.self.inside in
    let queue = inside.waiters in
    let P : HostedModel → Type 0 = λ d. d.queue.signalled ≡ min (available_in d.core) (length d.queue.waiting) in
    subst P c.self.view_is (all_signalled (length queue.waiting) (available_in inside.core) queue.signalled (sym c.if-is_empty.ensures.value) (c.is_empty.ensures.signalled c.if-is_empty.true))
