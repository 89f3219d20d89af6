use Rattle.std.proofs.Common.{sym, ◌∙◌, [], ◌++◌, rules, append_assoc, append-nil}
use Rattle.std.proofs.lemmas.Str.{IsUtf8-past_char, chars_past_char}
use Rattle.std.proofs.StrCases.{chars_of_empty}
use Rattle.std.proofs.Output.{has_written_append, has_written_of_eq}
use Rattle.pool_settings.specs.Escaped.{escape}
use Rattle.pool_settings.proofs.escaped.write_escaped.Goals as goal

pub loop-c-init : goal.loop-c-init
loop-c-init g c = (search rules, [], search rules, search rules)

pub loop-c-preserved : goal.loop-c-preserved
loop-c-preserved g c =
    let (text, done, whole, wrote) = c.loop-c.invariant in
    let parts = c.in-Some.ensures.steps.0 in (
      IsUtf8-past_char _ _ c.in-Some.c text parts,
      done ++ escape c.in-Some.c,
      rw append_assoc (rw (chars_past_char _ _ c.in-Some.c text parts) at whole),
      λ plain.
          let sofar = wrote plain in
          has_written_append _ _ _ _ _ _ sofar (c.in_ok-write_one.ensures sofar.plain (search rules)),
    )

pub returns : goal.returns
returns g c plain ok =
    let (text, done, whole, wrote) = c.loop-c.invariant in
    has_written_of_eq _ _ _ _ _ (sym (append-nil done) ∙ rw (chars_of_empty _ c.in-None.ensures.steps.0.0) at whole) (wrote plain)
