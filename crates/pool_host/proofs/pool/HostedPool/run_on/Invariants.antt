use Rattle.std.proofs.Common.{◌≡◌}
use Rattle.pool_host.specs.Hosting.{LacksRoomOnlyEmpty, Moves}
use Rattle.pool_host.specs.Overtaking.{CountsOvertakes}
use Rattle.pool_host.proofs.pool.HostedPool.run_on.Given as goal

abbrev pub invariant-loop : goal.invariant-loop
invariant-loop l = Moves l.caller l.at l.initial.self l.self l.initial.call l.call × CountsOvertakes l.caller l.at l.initial.self l.self l.initial.call l.call × (LacksRoomOnlyEmpty l.initial.self.drops l.initial.self.core l.initial.call.operation → LacksRoomOnlyEmpty l.initial.self.drops l.self.core l.call.operation) × (l.call.longer ≡ l.initial.call.longer)
