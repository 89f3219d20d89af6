use Rattle.std.proofs.Common.{◌∙◌, Some, ap, refl, sym, subst}
use Rattle.pool_host.specs.Hosting.{HostedModel}
use Rattle.pool_host.specs.declared.report.Report.TheVariants as reports
use Rattle.zuphinka.specs.Calling.{AdvancesTo, is_quiet, read_of, status_told}
use Rattle.zuphinka.specs.Opening.{OpenModel}
use Rattle.zuphinka.specs.declared.call_effects.CallEffects.{CallEffects}
use Rattle.zuphinka.specs.declared.status.Status.{Status}
use Rattle.zuphinka.proofs.Quiet.{advances_told}
use Rattle.zuphinka.proofs.open_pool.OpenPool.advance_by.Goals as goal

pub returns-in-Some-end_by : goal.returns-in-Some-end_by
returns-in-Some-end_by g c =
    let event = c.args.event.now in
    let old : OpenModel = record { hosted = c.self.inside.hosted; running = c.self.inside.running; number = c.self.inside.number; hooks = c.self.inside.hooks } in
    let last = c.advanced.new in
    let told = c.advanced.result in
    let quiet = is_quiet told in
    let read = c.args.effects.now in
    let reported = sym c.in-Some-report.ensures ∙ ap (λ r. Some r) c.in-Succeeded.is in
    let went = c.advanced.ensures event reports.Succeeded old c.in-Some.call reported c.in-Some-end_by.ensures.went refl in
    let P : OpenModel → Type 0 = λ p. AdvancesTo event p last.self c.args.host.now last.host read (read_of quiet told read) (status_told quiet) in
    let R : Status → Type 0 = λ s. AdvancesTo event c.args.self.now last.self c.args.host.now last.host read (read_of quiet told read) s in
    let S : CallEffects → Type 0 = λ e. AdvancesTo event c.args.self.now last.self c.args.host.now last.host read e c.tell.result in
    let done = subst P c.self.view_is (advances_told event old last.self c.args.host.now last.host told read quiet refl c.in-Some.call c.in-Some.ensures.holds went) in
    subst S (sym c.tell.ensures.read) (subst R (sym c.tell.ensures.status) done)

pub returns-in-None : goal.returns-in-None
returns-in-None g c =
    let old = c.self.inside in
    let same : HostedModel → OpenModel = λ d. record { hosted = d; running = old.running; number = old.number; hooks = old.hooks } in
    let last = c.advance_any-in-None.new in
    let P : OpenModel → Type 0 = λ p. AdvancesTo c.args.event.now p last.self c.args.host.now last.host c.args.effects.now last.effects c.advance_any-in-None.result in
    subst P (ap same c.in-None.ensures.unchanged.0 ∙ c.self.view_is) c.advance_any-in-None.ensures
