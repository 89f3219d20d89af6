use Rattle.std.proofs.Common.{◌≡◌, ℕ, List, refl, subst, Ok, rules}
use Rattle.pool_settings.specs.Answer.{settings_of_text}
use Rattle.zuphinka.specs.declared.status.Status.TheVariants.{Done}
use Rattle.zuphinka.proofs.zuphinka_settings.Goals as goal

pub returns-in-Ok-from_text : goal.returns-in-Ok-from_text
returns-in-Ok-from_text c =
    let read = c.in-Ok-from_text.read in
    let says = subst (λ (text : List ℕ). settings_of_text text ≡ Ok read) c.in-Ok.ensures.cases.0 c.in-Ok-from_text.ensures.answer in
    (Done, c.code-in-Ok-from_text.ensures, (read, says, c.of.ensures, refl, refl))

pub returns-in-Err : goal.returns-in-Err
returns-in-Err c = search rules
