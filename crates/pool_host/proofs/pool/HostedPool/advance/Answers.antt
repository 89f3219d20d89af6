use Rattle.std.proofs.Common.{◌≡◌, ◌∙◌, ℕ, true, max, sym, subst}
use Rattle.pool_host.specs.Hosting.{HostedModel}
use Rattle.pool_host.specs.Going.{Heard, Ran, WentOn}
use Rattle.pool_host.proofs.pool.HostedPool.advance.Goals as goal

pub returns-clause-went : goal.returns-clause-went
returns-clause-went c =
    let old = c.args.self.now in
    let call = c.args.call.now in
    let time : ℕ = c.max-at.result in
    let told = c.accept.new in
    let took : c.accept.result ≡ true = c.if-not-accept.false in
    let did = c.accept.ensures in
    let ran = c.run-action.ensures in
    let hears : Heard c.args.report time old told.self call told.call = record { fits = sym did.fits ∙ took; told = did.told took; accepts = did.accepted took; hears = did.hears took; longer = did.longer } in
    let runs : Ran c.args.caller time told.self c.run-action.new.self told.call c.run-action.new.call c.run-action.result = record { goes = ran.moves; overtakes = ran.overtakes; room = ran.room; next = ran.action; longer = ran.longer } in
    let went = c.went.ensures c.args.report c.args.caller old told.self call told.call hears runs in
    let P : ℕ → Type 0 = λ n. WentOn c.args.report c.args.caller n old c.went.new.self call c.went.new.call c.went.result in
    let Q : HostedModel → Type 0 = λ d. WentOn c.args.report c.args.caller (max c.args.at d.last) old c.went.new.self call c.went.new.call c.went.result in
    subst Q c.self.view_is (subst P c.max-at.ensures went)
