use Rattle.std.proofs.Common.{◌≡◌, drop}
use Rattle.judge.specs.Rules as Spec
use Rattle.judge.proofs.rules.settings_at.Given as goal

abbrev pub invariant-loop-change : goal.invariant-loop-change
invariant-loop-change l =
    Spec.settings_at l.settings (drop l.change-index l.changes) l.position ≡ Spec.settings_at l.fn.first l.changes l.position
