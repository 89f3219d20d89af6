use Rattle.std.proofs.Common.{◌≡◌, Bool, true, false, [], ◌∷◌, ◌++◌, refl, ap, sym, ◌∙◌, subst}
use Rattle.pool_journal.specs.Text.{request_of, IsRequest}
use Rattle.pool_journal.specs.declared.entry.Entry.{Entry}
use Rattle.pool_settings.specs.declared.settings.Settings.{Settings}
use Rattle.pool_core.specs.Core.{Faulted}
use Rattle.pool_core.specs.Stepper.{pool_of}
use Rattle.pool_core.specs.Fits.{FitsLimitFrom}
use Rattle.pool_core.specs.Legal.{IsLegalFrom}
use Rattle.pool_engines.specs.Made.{IsProducedFrom}
use Rattle.pool_engines.specs.Step.{Answers, with_answer}
use Rattle.pool_engines.proofs.Journals.{made_more}
use Rattle.pool_engines.proofs.step.step.Goals as goal

pub returns-in-Ok-clause-stepped : goal.returns-in-Ok-clause-stepped
returns-in-Ok-clause-stepped c =
    let e = c.in-Ok.entry in
    let q = c.args.request.now in
    let S = c.args.stepper.now.settings in
    λ b J after made.
    let a = c.in-Ok.ensures.answered b J after in
    let asked = subst IsRequest (sym (ap request_of a.due)) c.requires.asked in
    let legal = subst (λ (s : Settings). IsLegalFrom s b (J ++ e ∷ [])) a.settings_stay a.represents.legal in
    let fits = subst (λ (s : Settings). FitsLimitFrom s b (J ++ e ∷ [])) a.settings_stay a.represents.fits in
    subst (Answers q b J _ _) (a.due ∙ sym (ap (λ (x : Entry). with_answer q x.answer) a.due))
    (record {
      represents = a.represents;
      steps = record {
        due = a.due;
        settings = a.settings_stay;
        base = refl;
        journal = refl;
        made = subst (λ (s : Settings). IsProducedFrom s b (J ++ e ∷ [])) (sym a.settings_stay) (made_more S b J e made asked legal fits);
      };
    })

pub returns-in-Err-JournalFull-clause-stepped : goal.returns-in-Err-JournalFull-clause-stepped
returns-in-Err-JournalFull-clause-stepped c = λ b J after made.
    (subst (Faulted _ _ _ _ (pool_of c.args.stepper.now b J)) c.in-Err-JournalFull.field-0-is (c.in-Err-JournalFull.ensures.answered b J after)).0

not_completing : (x : Bool) → (x ≡ true → false ≡ true) → x ≡ false
not_completing true is = sym (is refl)
not_completing false is = refl

pub returns-in-Err-OutOfMemory-clause-stepped : goal.returns-in-Err-OutOfMemory-clause-stepped
returns-in-Err-OutOfMemory-clause-stepped c = λ b J after made. (
  (subst (Faulted _ _ _ _ (pool_of c.args.stepper.now b J)) c.in-Err-OutOfMemory.field-0-is (c.in-Err-OutOfMemory.ensures.answered b J after)).0,
  not_completing _ (c.in-Err-OutOfMemory.ensures.completing b J after),
)
