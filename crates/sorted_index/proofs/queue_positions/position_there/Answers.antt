use Rattle.std.proofs.Common.{ap, sym, ◌∙◌}
use Rattle.sorted_index.specs.declared.stored.Stored.{Stored}
use Rattle.sorted_index.proofs.Found.{key_nowhere, key_gone}
use Rattle.sorted_index.proofs.queue_positions.position_there.Goals as goal

pub returns-in_err-position-clause-absent : goal.returns-in_err-position-clause-absent
returns-in_err-position-clause-absent c =
    rw c.from_residual.ensures (key_nowhere c.args.id c.args.stored.now.items c.in_err-position.ensures.absent)

pub returns-then-index-clause-absent : goal.returns-then-index-clause-absent
returns-then-index-clause-absent c =
    key_gone c.args.id c.in_ok-position.position c.index.result.now c.args.stored.now.items c.requires c.in_ok-position.ensures.found (ap (λ (s : Stored). s.is_gone) (sym c.index.ensures) ∙ c.if-index.true)
