use Rattle.std.proofs.Common.{sym, ap, ◌∙◌}
use Rattle.std.specs.Prelude.{nat_le}
use Rattle.pool_calls.proofs.Times.{due_of_first, due_of_none}
use Rattle.pool_calls.proofs.waiters.Waiters.is_due.Goals as goal

pub returns-in-None : goal.returns-in-None
returns-in-None c =
    let q = c.self.inside in
    rw (← c.self.view_is) (sym (due_of_none q.overtakes q.latest q.millis c.args.at _ _ c.self.invariant.timed (sym c.first.ensures ∙ c.in-None.is)))

pub returns-in-Some : goal.returns-in-Some
returns-in-Some c =
    let q = c.self.inside in
    rw (← c.self.view_is) (ap (nat_le q.millis) c.saturating_sub.ensures ∙ sym (due_of_first q.overtakes q.latest q.millis c.args.at _ _ c.in-Some.oldest c.self.invariant.timed (sym c.first.ensures ∙ c.in-Some.is)))
