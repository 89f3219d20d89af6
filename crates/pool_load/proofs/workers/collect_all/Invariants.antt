use Rattle.std.proofs.Common.{◌≡◌, ◌*◌, ◌≤◌, length, map}
use Rattle.std.specs.Prelude.{IfOk}
use Rattle.pool_load.specs.Workers.{total_of}
use Rattle.pool_load.proofs.workers.collect_all.Given as goal

abbrev pub invariant-loop-worker : goal.invariant-loop-worker
invariant-loop-worker g l =
    (l.callers.items ≡ map (λ w. w.caller) l.yielded)
    × (l.total ≡ total_of (map (λ w. w.outcome) l.yielded))
    × IfOk l.total (λ n. n ≤ 1000000 * length l.yielded)
