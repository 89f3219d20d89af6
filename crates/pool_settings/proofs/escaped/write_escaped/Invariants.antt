use Rattle.std.proofs.Common.{◌≡◌, List, ℕ, ◌++◌, IsUtf8, chars}
use Rattle.std.specs.Str.Iter.{chars_rest}
use Rattle.std.specs.Fmt.{HasWritten, IsPlainFormatter}
use Rattle.std.specs.List.{flat_map}
use Rattle.pool_settings.specs.Escaped.{escape}
use Rattle.pool_settings.proofs.escaped.write_escaped.Given as goal

abbrev pub invariant-loop-c : goal.invariant-loop-c
invariant-loop-c g l =
    IsUtf8 (chars_rest l.c-iterator) × (done : List ℕ)
    × (done ++ flat_map escape (chars (chars_rest l.c-iterator)) ≡ flat_map escape (chars l.fn.text))
    × (IsPlainFormatter l.initial.f → HasWritten g.W.Write.write_str_gives l.initial.f done l.f)
