use Rattle.pool_cli.proofs.Lines.{fault_line}
use Rattle.pool_cli.proofs.fault.Fault.report.Goals as goal

pub returns-clause-one_line : goal.returns-clause-one_line
returns-clause-one_line g c = fault_line c.args.self.now
