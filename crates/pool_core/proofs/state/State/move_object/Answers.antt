use Rattle.std.proofs.Common.{◌≡◌, ◌∙◌, refl, rules, true}
use Rattle.pool_journal.specs.declared.answer.Answer.{Answer}
use Rattle.pool_journal.specs.declared.answer.Answer.TheVariants as answers
use Rattle.pool_places.specs.PlacesModel.{records_in}
use Rattle.pool_core.proofs.Moving.{taken_known, test_known, destroy_idle_known, reclaimed_known, made_known, parked_known, kept_known, is_silent}
use Rattle.pool_core.proofs.Moving.{silent_known}
use Rattle.pool_core.proofs.state.State.move_object.Goals as goal

pub returns-in-Take-clause-known : goal.returns-in-Take-clause-known
returns-in-Take-clause-known g c =
    let s = c.args.self.now in
    let finds = rw c.in-Take.is at c.requires.finds in
    rw c.in-Take.is
    (c.take_ready.ensures.records
    ∙ taken_known c.args.now s.next c.in-Take.id c.args.input (records_in s.places.objects) finds.1 c.requires.before.stay)

pub returns-in-Take-clause-values : goal.returns-in-Take-clause-values
returns-in-Take-clause-values g c = search rules

pub returns-in-Test-clause-known : goal.returns-in-Test-clause-known
returns-in-Test-clause-known g c =
    let s = c.args.self.now in
    rw c.in-Test.is
    (c.take_value.ensures.records
    ∙ test_known c.args.now s.next c.in-Test.id c.args.input (records_in s.places.objects) c.requires.before.stay)

pub returns-in-DestroyIdle-clause-known : goal.returns-in-DestroyIdle-clause-known
returns-in-DestroyIdle-clause-known g c =
    let s = c.args.self.now in
    rw c.in-DestroyIdle.is
    (c.take_value-in-DestroyIdle.ensures.records
    ∙ destroy_idle_known c.args.now s.next c.in-DestroyIdle.id c.args.input (records_in s.places.objects) c.requires.before.stay)

pub returns-in-Reclaimed-clause-known : goal.returns-in-Reclaimed-clause-known
returns-in-Reclaimed-clause-known g c =
    let s = c.args.self.now in
    rw c.in-Reclaimed.is
    (c.free.ensures.records
    ∙ reclaimed_known c.args.now s.next c.in-Reclaimed.id c.args.input (records_in s.places.objects) c.requires.before.stay)

pub returns-in-Make-clause-known : goal.returns-in-Make-clause-known
returns-in-Make-clause-known g c =
    let s = c.args.self.now in
    let finds = rw c.in-Make.is at c.requires.finds in
    let makes = rw finds.0 at finds.1 in
    rw (c.in-Make.is, c.open.ensures.records, c.made_as.ensures, finds.0)
    (made_known c.args.now s.next c.args.input (records_in s.places.objects) makes c.requires.before.below c.requires.before.stay)

pub returns-in-Parked-clause-known : goal.returns-in-Parked-clause-known
returns-in-Parked-clause-known g c =
    let s = c.args.self.now in
    rw c.in-Parked.is
    (c.park.ensures.records
    ∙ parked_known c.args.now s.next c.named_by.result c.args.input (records_in s.places.objects) c.named_by.ensures c.requires.before.stay)

pub returns-in-Kept-clause-known : goal.returns-in-Kept-clause-known
returns-in-Kept-clause-known g c =
    let s = c.args.self.now in
    rw c.in-Kept.is
    (c.put_value.ensures.records
    ∙ kept_known c.args.now s.next c.named_by-in-Kept.result c.args.input (records_in s.places.objects) c.named_by-in-Kept.ensures c.requires.before.stay)

pub returns-in_default-clause-known : goal.returns-in_default-clause-known
returns-in_default-clause-known g c =
    let s = c.args.self.now in
    silent_known c.args.now s.next c.args.input (records_in s.places.objects) c.requires.before.stay c.args.answer
    (by_answer c.args.answer refl)
  where
    by_answer : (a : Answer) → c.args.answer ≡ a → is_silent a ≡ true
    by_answer (answers.Take i) is = absurd (c.in_default.not-Take i is)
    by_answer (answers.Make i) is = absurd (c.in_default.not-Make i is)
    by_answer (answers.Test i) is = absurd (c.in_default.not-Test i is)
    by_answer (answers.DestroyIdle i) is = absurd (c.in_default.not-DestroyIdle i is)
    by_answer (answers.Reclaimed i) is = absurd (c.in_default.not-Reclaimed i is)
    by_answer answers.Lent is = absurd (c.in_default.not-Lent is)
    by_answer answers.Check is = absurd (c.in_default.not-Check is)
    by_answer answers.Parked is = absurd (c.in_default.not-Parked is)
    by_answer answers.Kept is = absurd (c.in_default.not-Kept is)
    by_answer answers.Destroy is = absurd (c.in_default.not-Destroy is)
    by_answer answers.Freed is = absurd (c.in_default.not-Freed is)
    by_answer answers.Noted is = absurd (c.in_default.not-Noted is)
    by_answer _ is = refl
