use Rattle.std.proofs.lemmas.Option.{IfSome_then}
use Rattle.pool_slots.proofs.Items.{present_same}
use Rattle.pool_slots.proofs.joining.join.Goals as goal

pub set_before-requires : goal.set_before-requires
set_before-requires g c =
    IfSome_then c.args.after c.requires.after (present_same c.args.slots.now c.set_after.new.slots c.set_after.ensures.items)
