use Rattle.std.proofs.Common.{refl}
use Rattle.pool_slots.proofs.Moves.{items_same}
use Rattle.pool_slots.proofs.joining.set_after.Goals as goal

pub returns-in-Some-clause-items : goal.returns-in-Some-clause-items
returns-in-Some-clause-items g c =
    let old = c.index_mut-slot.result.now in
    items_same c.args.slots.now c.in-Some.key old (record old { links = c.set_after.new.self }) c.index_mut-slot.ensures.value refl
