use Rattle.std.proofs.Common.{Bool, sym, subst}
use Rattle.pool_host.specs.Hosting.{TakesFirst}
use Rattle.pool_host.proofs.pool.HostedPool.take_other_step.Goals as goal

pub returns-clause-moves : goal.returns-clause-moves
returns-clause-moves c =
    let P : Bool → Type 0 = λ taken. TakesFirst c.args.input taken c.args.caller c.args.at c.args.self.now c.step_for.new.self c.args.call.now c.step_for.new.call in
    subst P (sym c.is_some.ensures) c.step_for.ensures.moves

pub returns-clause-overtakes : goal.returns-clause-overtakes
returns-clause-overtakes c = c.step_for.ensures.other c.requires.other
