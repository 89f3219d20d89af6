use Rattle.std.proofs.Common.{sym, ◌∙◌}
use Rattle.pool_calls.proofs.Orders.{is_signalled_in}
use Rattle.pool_calls.proofs.waiters.Waiters.is_signalled.Goals as goal

pub returns : goal.returns
returns c = rw (← c.self.view_is) (c.contains.ensures ∙ sym (is_signalled_in c.args.ticket c.self.inside.overtakes c.self.inside.times.pairs c.self.inside.signalled.pairs c.self.inside.asleep.pairs))
