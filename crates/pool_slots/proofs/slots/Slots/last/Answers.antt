use Rattle.std.proofs.Common.{◌∙◌, ap}
use Rattle.pool_journal.specs.Queue.{last_of}
use Rattle.pool_slots.proofs.Chains.{chain_last}
use Rattle.pool_slots.proofs.slots.Slots.last.Goals as goal

pub returns-clause-last : goal.returns-clause-last
returns-clause-last g c =
    chain_last _ _ _ _ c.self.invariant.chain ∙ ap (λ r. last_of r.queue) c.self.view_is
