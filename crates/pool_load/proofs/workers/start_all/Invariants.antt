use Rattle.std.proofs.Common.{◌≡◌, map}
use Rattle.pool_load.proofs.workers.start_all.Given as goal

abbrev pub invariant-loop-me : goal.invariant-loop-me
invariant-loop-me g l = (map (λ h. h.promise.before.value) l.threads.items ≡ l.yielded) × (map (λ h. h.promise.rounds) l.threads.items ≡ map (λ c. l.rounds) l.yielded)
