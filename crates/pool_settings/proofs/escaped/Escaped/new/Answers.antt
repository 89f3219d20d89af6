use Rattle.pool_settings.proofs.Escapes.{escaped_on_one_line}
use Rattle.pool_settings.proofs.escaped.Escaped.new.Goals as goal

pub returns-clause-one_line : goal.returns-clause-one_line
returns-clause-one_line c = escaped_on_one_line c.args.text.now
