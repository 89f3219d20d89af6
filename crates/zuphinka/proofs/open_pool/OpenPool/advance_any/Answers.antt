use Rattle.std.proofs.Common.{◌≡◌, ◌∙◌, false, Option, IsSomeAnd, ap, refl, sym, subst}
use Rattle.pool_host.specs.Hosting.{HostedModel, fits_report}
use Rattle.pool_host.specs.declared.call.Call.{Call}
use Rattle.pool_host.specs.declared.report.Report.{Report}
use Rattle.zuphinka.specs.Calling.{Advanced}
use Rattle.zuphinka.specs.HostCalls.{Holds}
use Rattle.zuphinka.specs.Opening.{OpenModel}
use Rattle.zuphinka.proofs.open_pool.OpenPool.advance_any.Goals as goal

pub returns-in_default-report : goal.returns-in_default-report
returns-in_default-report c =
    let H : OpenModel → Type 0 = λ p. Holds p.number c.args.host.now c.in-Some.call in
    (c.in-Some.call, subst H c.self.view_is c.in-Some.ensures.holds, sym c.in_default-report.ensures, refl, refl, refl)

pub returns-in-Some-advance : goal.returns-in-Some-advance
returns-in-Some-advance c =
    let old : OpenModel = record { hosted = c.self.inside.hosted; running = c.self.inside.running; number = c.self.inside.number; hooks = c.self.inside.hooks } in
    let told = c.advanced.new in
    let P : OpenModel → Type 0 = λ p. (x : Call) × Holds p.number c.args.host.now x × Advanced c.args.event.now p told.self told.host c.advanced.result x in
    subst P c.self.view_is (c.in-Some.call, c.in-Some.ensures.holds, c.advanced.ensures c.args.event.now c.in-Some-report.report old c.in-Some.call (sym c.in-Some-report.ensures) c.in-Some-advance.ensures.went refl)

pub returns-in-None : goal.returns-in-None
returns-in-None c =
    let old = c.self.inside in
    let H : OpenModel → Type 0 = λ p. Holds p.number c.args.host.now c.in-Some.call in
    let F : Option Report → Type 0 = λ o. IsSomeAnd o (λ r. fits_report r c.in-Some.call.operation ≡ false) in
    let same : HostedModel → OpenModel = λ d. record { hosted = d; running = old.running; number = old.number; hooks = old.hooks } in
    (c.in-Some.call, subst H c.self.view_is c.in-Some.ensures.holds, subst F c.in-Some-report.ensures (sym c.in-None.ensures.fits), ap same c.in-None.ensures.unfit.0 ∙ c.self.view_is, refl, refl)
