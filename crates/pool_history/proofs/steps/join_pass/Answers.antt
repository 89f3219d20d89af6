use Rattle.std.proofs.Common.{ap}
use Rattle.pool_history.proofs.steps.join_pass.Goals as goal

pub join_fragments-requires-clause-carries : goal.join_fragments-requires-clause-carries
join_fragments-requires-clause-carries c = ap (λ v. v.is_authority) c.split_fragments-theirs.ensures.given.1
