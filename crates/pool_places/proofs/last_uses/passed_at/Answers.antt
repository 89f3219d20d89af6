use Rattle.std.proofs.Common.{◌<◌, length, refl, arith}
use Rattle.std.proofs.lemmas.Option.{slice_get_read}
use Rattle.pool_places.proofs.Bounds.{pass_one}
use Rattle.pool_places.proofs.last_uses.passed_at.Goals as goal

pub loop-position-preserved : goal.loop-position-preserved
loop-position-preserved g c =
    let uses = c.args.uses.now in
    let below : c.loop-position.position < length uses.order.items = omega (arith, c.loop-position-test.true, c.len-position-end.ensures) in (
      omega (arith, below),
      pass_one uses.order.items uses.recent c.loop-position.position c.index-one.result.now _ (slice_get_read uses.order.items _ _ _ refl below c.index-one.ensures) (c.if-is_current.ensures refl) c.loop-position.invariant.1,
    )
