use Rattle.std.proofs.Common.{ℕ, Option, Some, None, max, subst}
use Rattle.std.specs.Option.{IfSome}
use Rattle.pool_host.specs.Hosting.{HostedModel}
use Rattle.pool_host.specs.Going.{WentOn}
use Rattle.pool_host.specs.declared.effects.Effects.{Effects}
use Rattle.pool_host.specs.declared.report.Report.TheVariants as reports
use Rattle.pool_host.proofs.Going.{heard_none}
use Rattle.pool_host.proofs.pool.HostedPool.begin_checked.Goals as goal

-- what follows from a fact that is known of a value if there is one
if_known : (r : Option Effects) (P : Type 0) (Q : Effects → Type 0) → IfSome r (λ e. P) → (P → IfSome r Q) → IfSome r Q
if_known None P Q known follows = tt
if_known (Some e) P Q known follows = follows known

pub returns-clause-went : goal.returns-clause-went
returns-clause-went c =
    let old = c.args.self.now in
    let call = c.args.call.now in
    let last = c.step_by.new in
    let r = c.step_by.result in
    let did = c.step_by.ensures in
    let time : ℕ = c.max-at.result in
    let went = if_known r _ (WentOn reports.GoOn c.args.caller time old last.self call last.call) did.asked (λ asked. did.went reports.GoOn call (heard_none time old call asked)) in
    let P : ℕ → Type 0 = λ n. IfSome r (WentOn reports.GoOn c.args.caller n old last.self call last.call) in
    let Q : HostedModel → Type 0 = λ d. IfSome r (WentOn reports.GoOn c.args.caller (max c.args.at d.last) old last.self call last.call) in
    subst Q c.self.view_is (subst P c.max-at.ensures went)
