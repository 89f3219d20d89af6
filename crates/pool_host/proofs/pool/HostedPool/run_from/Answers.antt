use Rattle.std.proofs.Common.{Bool, subst}
use Rattle.pool_host.specs.Hosting.{TakesFirst}
use Rattle.pool_host.proofs.Moving.{starts_alone, starts_then}
use Rattle.pool_host.proofs.Overtaking.{counts_on}
use Rattle.pool_host.proofs.pool.HostedPool.run_from.Goals as goal

pub returns-then-take_step-clause-moves : goal.returns-then-take_step-clause-moves
returns-then-take_step-clause-moves c =
    let P : Bool → Type 0 = λ taken. TakesFirst c.args.input taken c.args.caller c.args.at c.args.self.now c.take_step.new.self c.args.call.now c.take_step.new.call in
    starts_then c.args.input c.args.caller c.args.at c.args.self.now c.take_step.new.self c.run_on.new.self c.args.call.now c.take_step.new.call c.run_on.new.call (subst P c.if-take_step.true c.take_step.ensures.moves) c.run_on.ensures.moves

pub returns-else-take_step-clause-moves : goal.returns-else-take_step-clause-moves
returns-else-take_step-clause-moves c =
    let P : Bool → Type 0 = λ taken. TakesFirst c.args.input taken c.args.caller c.args.at c.args.self.now c.take_step.new.self c.args.call.now c.take_step.new.call in
    starts_alone c.args.input c.args.caller c.args.at c.args.self.now c.take_step.new.self c.args.call.now c.take_step.new.call (subst P c.if-take_step.false c.take_step.ensures.moves)

pub returns-then-take_step-clause-overtakes : goal.returns-then-take_step-clause-overtakes
returns-then-take_step-clause-overtakes c =
    counts_on c.args.caller c.args.at c.args.self.now c.take_step.new.self c.run_on.new.self c.args.call.now c.take_step.new.call c.run_on.new.call c.take_step.ensures.overtakes c.run_on.ensures.overtakes
