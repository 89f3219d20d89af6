use Rattle.std.proofs.Common.{◌≡◌, ◌≤◌, min}
use Rattle.pool_calls.proofs.waiters.Waiters.calm.Given as goal

abbrev pub invariant-loop-self : goal.invariant-loop-self
invariant-loop-self l = record {
  same : l.self ≡ record l.initial.self { signalled = l.self.signalled };
  enough : min l.available l.initial.self.signalled ≤ l.self.signalled;
  fewer : l.self.signalled ≤ l.initial.self.signalled;
}

abbrev pub decreases-loop-self : goal.decreases-loop-self
decreases-loop-self l = l.self.signalled
