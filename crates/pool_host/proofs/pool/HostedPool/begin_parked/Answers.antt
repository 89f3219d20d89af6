use Rattle.std.proofs.Common.{◌≡◌, ◌∙◌, ℕ, true, Some, ap, max, sym, subst}
use Rattle.std.specs.Option.{is_some}
use Rattle.pool_host.specs.Hosting.{HostedModel}
use Rattle.pool_host.specs.Going.{WentOn}
use Rattle.pool_host.specs.declared.report.Report.TheVariants as reports
use Rattle.pool_host.proofs.Going.{heard_none}
use Rattle.pool_host.proofs.pool.HostedPool.begin_parked.Goals as goal

pub returns-clause-went : goal.returns-clause-went
returns-clause-went c =
    let old = c.args.self.now in
    let call = c.args.call.now in
    let took : c.return_whole.result ≡ true = c.if-not-return_whole.false in
    let asked = sym c.in-Step.ensures.step ∙ ap (λ i. Some i) c.in-GiveBack.is in
    let hears = heard_none c.max-at.result old call (ap (λ s. is_some s) asked) in
    let went = c.stepped.ensures reports.GoOn c.args.caller old old call call _ hears asked (c.return_whole.ensures.stepped took) in
    let P : ℕ → Type 0 = λ n. WentOn reports.GoOn c.args.caller n old c.stepped.new.self call c.stepped.new.call c.stepped.result in
    let Q : HostedModel → Type 0 = λ d. WentOn reports.GoOn c.args.caller (max c.args.at d.last) old c.stepped.new.self call c.stepped.new.call c.stepped.result in
    subst Q c.self.view_is (subst P c.max-at.ensures went)
