use Rattle.std.proofs.Common.{rules}
use Rattle.zuphinka.proofs.request.plain_at.Goals as goal

pub returns-in-19 : goal.returns-in-19
returns-in-19 c = search rules
