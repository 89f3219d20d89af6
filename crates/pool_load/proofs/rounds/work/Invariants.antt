use Rattle.std.proofs.Common.{◌≤◌}
use Rattle.pool_load.specs.Rounds.{MakesRounds}
use Rattle.pool_load.proofs.Rows.{GoesOn}
use Rattle.pool_load.proofs.rounds.work.Given as goal

abbrev pub invariant-loop-done : goal.invariant-loop-done
invariant-loop-done g l = GoesOn g.B.PoolBrand.settings l.initial.me l.me × (l.refused ≤ l.done) × MakesRounds g.B.PoolBrand.settings l.done l.refused l.initial.me l.me
