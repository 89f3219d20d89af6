use Rattle.std.proofs.Common.{subst, ◌∙◌}
use Rattle.pool_places.specs.RepInvariant.{IsWithin}
use Rattle.pool_places.proofs.Walks.{previous_stays, other_stays}
use Rattle.pool_places.proofs.queue.passed_on.Goals as goal

pub returns-then-kept-key : goal.returns-then-kept-key
returns-then-kept-key g c = previous_stays c.args.slots.now.queue c.args.key _ c.requires.queued c.before-then-kept-key.ensures

pub returns-else-kept-key : goal.returns-else-kept-key
returns-else-kept-key g c =
    let kept = subst (IsWithin c.args.slots.now.queue) c.in_ok-kept.was c.requires.remembered in
    other_stays c.in_ok-kept.kept c.args.key c.args.slots.now.queue c.if-kept-key.false ∙ kept
