use Rattle.std.proofs.Common.{sym, ◌∙◌, arith}
use Rattle.pool_load.proofs.Joined.{joined}
use Rattle.pool_load.proofs.workers.work_in.Goals as goal

pub returns-in-Ok-join_promised-clause-ok : goal.returns-in-Ok-join_promised-clause-ok
returns-in-Ok-join_promised-clause-ok g c =
    let begun = rw c.in-Ok.is at c.start_all-started.ensures.begun in
    let long = rw c.in-Ok.is at c.start_all-started.ensures.long in
    let back = c.in-Ok-join_promised.ensures in
    joined (λ h. h.promise.before.value) (λ h. h.promise.rounds) (λ w. w.caller) (λ w. w.outcome) g.B.PoolBrand.settings c.args.rounds c.in-Ok.threads.items c.args.callers.items c.in-Ok-join_promised.all.items begun long (sym c.in-Ok-join_promised.all.ok.0 ∙ back.len ∙ c.in-Ok.threads.ok.0) (λ i d lt. let k = (back.each i d (omega (arith, lt, c.in-Ok.threads.ok.0))).1 in (k.handle, k.handle_is, k.kept))
