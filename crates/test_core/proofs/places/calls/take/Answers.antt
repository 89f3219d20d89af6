use Rattle.std.proofs.Common.{◌+◌, refl, sym, arith, subst}
use Rattle.pool_journal.specs.declared.record.Phase.TheVariants as phases
use Rattle.pool_places.specs.Changes.{phase_set}
use Rattle.pool_places.specs.PlacesModel.{records_in}
use Rattle.test_core.specs.Before.{AllBefore}
use Rattle.test_core.proofs.Moments.{before_changed}
use Rattle.test_core.proofs.places.calls.take.Goals as goal

pub returns-in-Idle : goal.returns-in-Idle
returns-in-Idle c = subst (AllBefore (c.args.moment + 1)) (sym c.take_value.ensures.records) (before_changed c.args.moment c.args.id (phase_set phases.Destroying) (records_in c.args.places.now.objects) (λ r. refl) (λ r under. omega (arith, under)) c.requires.before)

pub returns-in-Idle-2 : goal.returns-in-Idle-2
returns-in-Idle-2 c = subst (AllBefore (c.args.moment + 1)) (sym c.take_value-in-Idle-2.ensures.records) (before_changed c.args.moment c.args.id (phase_set phases.Readying) (records_in c.args.places.now.objects) (λ r. refl) (λ r under. omega (arith, under)) c.requires.before)

pub returns-in-Idle-3 : goal.returns-in-Idle-3
returns-in-Idle-3 c = subst (AllBefore (c.args.moment + 1)) (sym c.take_value-in-Idle-3.ensures.records) (before_changed c.args.moment c.args.id (phase_set phases.Testing) (records_in c.args.places.now.objects) (λ r. refl) (λ r under. omega (arith, under)) c.requires.before)
