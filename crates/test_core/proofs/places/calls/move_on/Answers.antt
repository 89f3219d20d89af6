use Rattle.std.proofs.Common.{◌+◌, refl, sym, arith, subst}
use Rattle.pool_journal.specs.declared.record.Phase.TheVariants as phases
use Rattle.pool_places.specs.Changes.{phase_set, lent_at, used_at, parked_at}
use Rattle.pool_places.specs.PlacesModel.{records_in}
use Rattle.test_core.specs.Before.{AllBefore}
use Rattle.test_core.proofs.Moments.{before_changed, before_without, before_later}
use Rattle.test_core.proofs.places.calls.move_on.Goals as goal

pub returns-in-Readying : goal.returns-in-Readying
returns-in-Readying c = subst (AllBefore (c.args.moment + 1)) (sym c.set_phase.ensures.records) (before_changed c.args.moment c.args.id (phase_set phases.Destroying) (records_in c.args.places.now.objects) (λ r. refl) (λ r under. omega (arith, under)) c.requires.before)

pub returns-in-Readying-2 : goal.returns-in-Readying-2
returns-in-Readying-2 c = subst (AllBefore (c.args.moment + 1)) (sym c.set_lent.ensures.records) (before_changed c.args.moment c.args.id (lent_at c.args.moment) (records_in c.args.places.now.objects) (λ r. refl) (λ r under. omega (arith, under)) c.requires.before)

pub returns-in-Lent : goal.returns-in-Lent
returns-in-Lent c = subst (AllBefore (c.args.moment + 1)) (sym c.set_used.ensures.records) (before_changed c.args.moment c.args.id (used_at c.args.moment) (records_in c.args.places.now.objects) (λ r. refl) (λ r under. omega (arith, under)) c.requires.before)

pub returns-in-Lent-2 : goal.returns-in-Lent-2
returns-in-Lent-2 c = subst (AllBefore (c.args.moment + 1)) (sym c.set_phase-in-Lent-2.ensures.records) (before_changed c.args.moment c.args.id (phase_set phases.Returning) (records_in c.args.places.now.objects) (λ r. refl) (λ r under. omega (arith, under)) c.requires.before)

pub returns-in-Returning : goal.returns-in-Returning
returns-in-Returning c = subst (AllBefore (c.args.moment + 1)) (sym c.park.ensures.records) (before_changed c.args.moment c.args.id (parked_at c.args.moment c.args.moment) (records_in c.args.places.now.objects) (λ r. refl) (λ r under. omega arith) c.requires.before)

pub returns-in-Testing : goal.returns-in-Testing
returns-in-Testing c = subst (AllBefore (c.args.moment + 1)) (sym c.set_phase-in-Testing.ensures.records) (before_changed c.args.moment c.args.id (phase_set phases.Destroying) (records_in c.args.places.now.objects) (λ r. refl) (λ r under. omega (arith, under)) c.requires.before)

pub returns-in-Testing-2 : goal.returns-in-Testing-2
returns-in-Testing-2 c = subst (AllBefore (c.args.moment + 1)) (sym c.put_value.ensures.records) (before_changed c.args.moment c.args.id (phase_set phases.Idle) (records_in c.args.places.now.objects) (λ r. refl) (λ r under. omega (arith, under)) c.requires.before)

pub returns-in-Destroying : goal.returns-in-Destroying
returns-in-Destroying c = subst (AllBefore (c.args.moment + 1)) (sym c.free.ensures.records) (before_without c.args.moment c.args.id (records_in c.args.places.now.objects) c.requires.before)

pub returns-in-Idle : goal.returns-in-Idle
returns-in-Idle c = before_later c.args.moment (records_in c.args.places.now.objects) c.requires.before
