use Rattle.std.proofs.Common.{sym, ◌∙◌}
use Rattle.pool_settings.proofs.Escapes.{has_control_step}
use Rattle.pool_settings.proofs.escaped.has_control.Goals as goal

pub returns-then-is_control : goal.returns-then-is_control
returns-then-is_control c =
    let control = sym c.is_control.ensures ∙ c.if-is_control.true in
    rw (c.in-Some.ensures.steps.0, has_control_step c.in-Some.c _, control) at c.loop-c.invariant

pub loop-c-preserved : goal.loop-c-preserved
loop-c-preserved c =
    let plain = sym c.is_control.ensures ∙ c.if-is_control.false in
    rw (c.in-Some.ensures.steps.0, has_control_step c.in-Some.c _, plain) at c.loop-c.invariant
