use Rattle.std.proofs.Common.{◌≡◌, ◌∙◌, ℕ, true, max, sym, subst}
use Rattle.pool_host.specs.Hosting.{HostedModel}
use Rattle.pool_host.specs.Going.{WentOn}
use Rattle.pool_host.specs.declared.report.Report.TheVariants as reports
use Rattle.pool_host.proofs.Going.{heard_success}
use Rattle.pool_host.proofs.pool.HostedPool.end_by.Goals as goal

pub returns-clause-went : goal.returns-clause-went
returns-clause-went g c =
    let old = c.args.self.now in
    let call = c.args.call.now in
    let told = c.accept_success.new.call in
    let did = c.accept_success.ensures in
    let fits : c.accept_success.result ≡ true = c.if-not-accept_success.false in
    let last = c.step_by.new in
    let e = c.in_ok-effects.effects in
    let hears = heard_success c.max-at.result old call told (did.told fits) (sym did.fits ∙ fits) did.token (did.comes fits) did.ticket did.turn did.longer in
    let P : ℕ → Type 0 = λ n. WentOn reports.Succeeded c.args.caller n old last.self call last.call e in
    let Q : HostedModel → Type 0 = λ d. WentOn reports.Succeeded c.args.caller (max c.args.at d.last) old last.self call last.call e in
    subst Q c.self.view_is (subst P c.max-at.ensures (c.in_ok-effects.ensures.went reports.Succeeded call hears))
