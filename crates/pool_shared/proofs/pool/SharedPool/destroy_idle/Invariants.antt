use Rattle.std.proofs.Common.{◌≡◌, ℕ, ◌+◌}
use Rattle.pool_history.specs.CallerStates.{Advances}
use Rattle.pool_calls.specs.declared.kind.Kind.{Kind}
use Rattle.pool_calls.specs.Table.{go_through}
use Rattle.pool_shared.specs.Clears.{MaySweep, Takes}
use Rattle.pool_shared.specs.Traces.{Trace, EndsWithOwn}
use Rattle.pool_shared.proofs.pool.SharedPool.destroy_idle.Given as goal

abbrev pub invariant-loop-taken : goal.invariant-loop-taken
invariant-loop-taken g l = record {
  goes : Advances g.B.PoolBrand.settings l.initial.me l.me;
  ends : EndsWithOwn l.me;
  left : ℕ;
  all : left + l.taken ≡ l.count;
  trace : (k : Kind) → MaySweep k → Trace g.B.PoolBrand.settings k (go_through k l.count) l.initial.me l.me (go_through k left);
  counts : Takes l.taken l.initial.me l.me;
}
