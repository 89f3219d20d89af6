use Rattle.std.proofs.Common.{sym, ap, ◌∙◌}
use Rattle.pool_history.proofs.opening.join_caller.Goals as goal

pub join_fragments-requires : goal.join_fragments-requires
join_fragments-requires g c =
    let given = c.split_fragments-whole.ensures.given in
    record {
      cell = c.requires.cell.0;
      other = (given.0 ∙ c.caller.invariant.here ∙ sym c.requires.cell.1, given.2);
      carries = ap (λ v. v.is_authority) given.1;
    }
