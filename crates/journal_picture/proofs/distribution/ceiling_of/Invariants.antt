use Rattle.std.proofs.Common.{◌≡◌, ◌*◌, ◌-◌, ◌≤◌, ◌⊎◌, ◌+◌}
use Rattle.journal_picture.proofs.distribution.ceiling_of.Given as goal

-- the width is 1, or no more than a 64th of the duration
abbrev pub invariant-loop-width : goal.invariant-loop-width
invariant-loop-width l = (1 ≤ l.width) × ((l.width ≡ 1) ⊎ (64 * l.width ≤ l.duration))

abbrev pub decreases-loop-width : goal.decreases-loop-width
decreases-loop-width l = l.duration + 1 - l.width
