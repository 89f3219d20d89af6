use Rattle.std.proofs.Common.{◌≡◌, true, sym, ap, subst, ◌∙◌}
use Rattle.std.specs.Prelude.{map, if◌then◌else◌}
use Rattle.pool_calls.specs.Waiting.{can_pass, overtaken_once}
use Rattle.pool_calls.proofs.Orders.{raised_queue, overtaken_all, may_pass}
use Rattle.pool_calls.proofs.waiters.Waiters.note_lent.Goals as goal

pub invariant_of-self : goal.invariant_of-self
invariant_of-self c =
    let q = c.self.inside in
    let counts = sym c.counts_overtake.ensures ∙ c.if-counts_overtake.true in
    let may = may_pass c.args.available c.args.at c.args.self.now c.requires counts in
    raised_queue q.latest q.drawn q.overtakes q.max_overtakes q.signalled q.asleep q.times c.self.invariant (subst (λ q. can_pass q.overtakes q.most q.waiting ≡ true) (sym c.self.view_is) may)

pub returns-then-counts_overtake-clause-waiting : goal.returns-then-counts_overtake-clause-waiting
returns-then-counts_overtake-clause-waiting c =
    let q = c.self.inside in
    let old = c.args.self.now.waiting in
    overtaken_all q.overtakes q.max_overtakes q.times.pairs _ c.self.invariant.fair ∙ ap (λ q. map overtaken_once q.waiting) c.self.view_is
    ∙ ap (λ b. if b then map overtaken_once old else old) (sym (sym c.counts_overtake.ensures ∙ c.if-counts_overtake.true))
