use Rattle.sorted_index.proofs.Found.{key_nowhere, key_gone}
use Rattle.sorted_index.proofs.positions.position_there.Goals as goal

pub returns-in_err-position-clause-absent : goal.returns-in_err-position-clause-absent
returns-in_err-position-clause-absent c =
    rw c.from_residual.ensures (key_nowhere c.args.id c.args.stored.now c.in_err-position.ensures.absent)

pub returns-then-stored-position-clause-absent : goal.returns-then-stored-position-clause-absent
returns-then-stored-position-clause-absent c =
    key_gone c.args.id c.in_ok-position.position _ c.args.stored.now c.requires c.in_ok-position.ensures.found c.if-stored-position.true
