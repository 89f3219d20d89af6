use Rattle.pool_cli.proofs.arguments.load_command.Goals as goal

pub returns : goal.returns
returns c = c.with_argument.ensures _ _ c.operand-3.ensures.rule c.operand-3.ensures.local (c.with_argument-command-2.ensures _ _ c.operand-2.ensures.rule c.operand-2.ensures.local (c.with_argument-command.ensures _ _ c.operand.ensures.rule c.operand.ensures.local (c.new.ensures.app, c.new.ensures.local)))
