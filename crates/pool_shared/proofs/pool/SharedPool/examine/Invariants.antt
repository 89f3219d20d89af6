use Rattle.std.proofs.Common.{◌≡◌, ℕ, ◌+◌, ◌≤◌}
use Rattle.pool_history.specs.CallerStates.{Advances}
use Rattle.pool_calls.specs.declared.kind.Kind.TheVariants as kinds
use Rattle.pool_shared.specs.Evicts.{goes_on, HasCounts}
use Rattle.pool_shared.specs.Traces.{Trace, EndsWithOwn}
use Rattle.pool_shared.proofs.pool.SharedPool.examine.Given as goal

abbrev pub invariant-loop-taken : goal.invariant-loop-taken
invariant-loop-taken g l = record {
  goes : Advances g.B.PoolBrand.settings l.initial.me l.me;
  ends : EndsWithOwn l.me;
  examined : l.run.examined ≡ l._taken;
  destroyed : l.run.destroyed ≤ l._taken;
  left : ℕ;
  all : left + l._taken ≡ l.count;
  trace : Trace g.B.PoolBrand.settings kinds.Evict (goes_on l.count) l.initial.me l.me (goes_on left);
  counts : HasCounts l.run l.initial.me l.me;
}
