use Rattle.std.proofs.Common.{rules}
use Rattle.zuphinka.proofs.reply.code_of.Goals as goal

pub returns-in-Gone : goal.returns-in-Gone
returns-in-Gone c = search rules
