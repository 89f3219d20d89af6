use Rattle.std.proofs.Common.{◌≡◌, ℕ, false, refl, arith}
use Rattle.pool_journal.specs.declared.answer.Answer.{Answer}
use Rattle.pool_journal.specs.declared.answer.Answer.TheVariants as answers
use Rattle.pool_journal.specs.Entries.{is_lent_answer, is_make_answer}
use Rattle.pool_stats.specs.Answers.{is_check}
use Rattle.pool_stats.proofs.tally.Tally.after.Goals as goal

not_lent : (answer : Answer) → (answer ≡ answers.Lent → ⊥) → is_lent_answer answer ≡ false
not_lent answers.Lent other = absurd (other refl)
not_lent _ other = refl

not_check : (answer : Answer) → (answer ≡ answers.Check → ⊥) → is_check answer ≡ false
not_check answers.Check other = absurd (other refl)
not_check _ other = refl

not_make : (answer : Answer) → ((id : ℕ) → answer ≡ answers.Make id → ⊥) → is_make_answer answer ≡ false
not_make (answers.Make id) other = absurd (other id refl)
not_make _ other = refl

pub returns-in_default : goal.returns-in_default
returns-in_default c =
    let lent = not_lent c.args.answer c.in_default.not-Lent in
    let check = not_check c.args.answer c.in_default.not-Check in
    let make = not_make c.args.answer c.in_default.not-Make in
    grind arith
