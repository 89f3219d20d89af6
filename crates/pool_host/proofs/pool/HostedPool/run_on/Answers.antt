use Rattle.std.proofs.Common.{◌∙◌}
use Rattle.pool_host.proofs.Moving.{moves_on}
use Rattle.pool_host.proofs.Overtaking.{counts_on}
use Rattle.pool_host.proofs.pool.HostedPool.run_on.Goals as goal

pub loop-preserved : goal.loop-preserved
loop-preserved c =
    let so_far = c.loop.invariant.0 in (
      moves_on c.args.caller c.args.at c.args.self.now c.loop.self c.take_step.new.self c.args.call.now c.loop.call c.take_step.new.call so_far c.take_step.ensures.moves.moves,
      counts_on c.args.caller c.args.at c.args.self.now c.loop.self c.take_step.new.self c.args.call.now c.loop.call c.take_step.new.call c.loop.invariant.1 c.take_step.ensures.overtakes,
      λ before lacks drops. c.take_step.ensures.room lacks (so_far.rest.drops ∙ drops),
      c.take_step.ensures.longer ∙ c.loop.invariant.3,
    )

pub returns-then-not-take_step-clause-moves : goal.returns-then-not-take_step-clause-moves
returns-then-not-take_step-clause-moves c =
    moves_on c.args.caller c.args.at c.args.self.now c.loop.self c.take_step.new.self c.args.call.now c.loop.call c.take_step.new.call c.loop.invariant.0 c.take_step.ensures.moves.moves

pub returns-then-not-take_step-clause-overtakes : goal.returns-then-not-take_step-clause-overtakes
returns-then-not-take_step-clause-overtakes c =
    counts_on c.args.caller c.args.at c.args.self.now c.loop.self c.take_step.new.self c.args.call.now c.loop.call c.take_step.new.call c.loop.invariant.1 c.take_step.ensures.overtakes
