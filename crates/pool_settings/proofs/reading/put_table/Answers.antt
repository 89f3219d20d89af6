use Rattle.pool_settings.proofs.ByteOrder.{in_byte_order-sorted}
use Rattle.pool_settings.proofs.reading.put_table.Goals as goal

-- The map's entries are in the order of their bytes.
pub loop-key-init : goal.loop-key-init
loop-key-init c =
    let sorted = in_byte_order-sorted c.args.table.now.entries c.iter-key-items.ensures.ordered in
    rw (c.into_iter-key-iterator.ensures.into_iter_gives, c.iter-key-items.ensures.rest, sorted)
