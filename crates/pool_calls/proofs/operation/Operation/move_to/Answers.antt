use Rattle.std.proofs.Common.{ap, sym, ◌∙◌}
use Rattle.pool_calls.specs.Operations.{HasCome}
use Rattle.pool_calls.specs.Counting.{counts_after}
use Rattle.pool_calls.proofs.Coming.{comes_on, counts_on, waiting_borrows}
use Rattle.pool_calls.proofs.operation.Operation.move_to.Goals as goal

pub returns-clause-comes : goal.returns-clause-comes
unfolding HasCome
returns-clause-comes c turns come =
    let op = c.args.self.now in
    let fits = sym c.requires.fits in
    let reached = comes_on op.plan op.kind c.args.event op.given_up op.place c.args.place turns fits c.requires.takes.goes (come.expected, come.at) in
    record {
      expected = reached.0;
      at = reached.1;
      counts = c.counts_after-self.ensures ∙ ap (counts_after op.kind c.args.event) come.counts ∙ counts_on op.kind c.args.event op.given_up op.place turns fits;
    }

pub invariant_of-self-clause-only_borrows_wait : goal.invariant_of-self-clause-only_borrows_wait
invariant_of-self-clause-only_borrows_wait c waits =
    waiting_borrows c.args.self.now.kind c.args.event c.args.self.now.place (sym c.requires.takes.pauses.1 ∙ waits)
