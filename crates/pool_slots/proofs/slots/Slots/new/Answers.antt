use Rattle.std.proofs.Common.{rules}
use Rattle.pool_slots.proofs.slots.Slots.new.Goals as goal

pub invariant_of-result : goal.invariant_of-result
invariant_of-result g c = search rules
