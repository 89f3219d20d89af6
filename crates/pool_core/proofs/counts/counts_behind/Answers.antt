use Rattle.std.proofs.Common.{arith}
use Rattle.pool_core.proofs.Counted.{counted_places, counts_in}
use Rattle.pool_core.proofs.counts.counts_behind.Goals as goal

pub overflow_sub-result-2 : goal.overflow_sub-result-2
overflow_sub-result-2 g c =
    let found = c.counts-places.ensures in
    omega (arith, found.present, found.queue, found.lent, counted_places c.args.state.now.places.objects c.requires.here)

pub returns : goal.returns
returns g c =
    let found = c.counts-places.ensures in
    counts_in c.args.state.now c.args.steps _ _ _ found.queue found.lent
    (omega (arith, found.present, found.queue, found.lent, counted_places c.args.state.now.places.objects c.requires.here))
