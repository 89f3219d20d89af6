use Rattle.std.proofs.Common.{rules}
use Rattle.zuphinka.proofs.tally.Tally.of.Goals as goal

pub returns : goal.returns
returns c = search rules
