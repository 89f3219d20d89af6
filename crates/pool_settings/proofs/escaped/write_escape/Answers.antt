use Rattle.std.proofs.Common.{rules, arith}
use Rattle.std.proofs.lemmas.Grind.{common_steps}
use Rattle.std.proofs.Output.{has_written_append, has_written_of_eq}
use Rattle.pool_settings.proofs.escaped.write_escape.Goals as goal

pub returns-in_ok-write_char : goal.returns-in_ok-write_char
returns-in_ok-write_char g c plain ok =
    let one = c.write_str.ensures.writes plain (search rules) in
    let two = c.write_char.ensures.writes one.plain (search rules) in
    let three = c.write_char-then-letter-eq0.ensures.writes two.plain ok in
    has_written_of_eq _ _ _ _ _ (grind (arith, common_steps)) (has_written_append _ _ _ _ _ _ (has_written_append _ _ _ _ _ _ one two) three)

pub returns-in_ok-write_str-2 : goal.returns-in_ok-write_str-2
returns-in_ok-write_str-2 g c plain ok =
    let one = c.write_str-else-letter-eq0.ensures.writes plain (search rules) in
    let two = c.write_char-else-letter-eq0.ensures.writes one.plain ok in
    has_written_of_eq _ _ _ _ _ (grind (arith, common_steps)) (has_written_append _ _ _ _ _ _ one two)
