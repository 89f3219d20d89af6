use Rattle.pool_cli.proofs.arguments.run_command.Goals as goal

pub returns : goal.returns
returns c = c.with_argument.ensures _ _ c.operand-2.ensures.rule c.operand-2.ensures.local (c.with_argument-command.ensures _ _ c.operand.ensures.rule c.operand.ensures.local (c.new.ensures.app, c.new.ensures.local))
