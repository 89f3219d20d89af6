use Rattle.std.proofs.Common.{◌≡◌}
use Rattle.std.specs.Str.Iter.{chars_rest}
use Rattle.pool_settings.specs.Escaped.{has_control}
use Rattle.pool_settings.proofs.escaped.has_control.Given as goal

abbrev pub invariant-loop-c : goal.invariant-loop-c
invariant-loop-c l = has_control (chars_rest l.c-iterator) ≡ has_control l.fn.text
