use Rattle.std.proofs.Common.{◌∙◌, ℕ, Bool, not, ap, sym, subst}
use Rattle.pool_calls.specs.Operations.{is_over}
use Rattle.zuphinka.specs.Calling.{Advanced, running_after}
use Rattle.zuphinka.specs.HostCalls.{Keeps}
use Rattle.zuphinka.specs.Opening.{OpenModel}
use Rattle.zuphinka.proofs.open_pool.OpenPool.advanced.Goals as goal

pub returns : goal.returns
returns c event report old before reported went same =
    let told = c.told-is_running.new in
    let did = c.told-is_running.ensures in
    let over = is_over c.args.call.now.operation in
    let n : ℕ = c.running_after-self-inside.result in
    let kept = did.rest ∙ ap (λ (s : OpenModel). record s { hosted = told.self.hosted }) same in
    let counted = c.running_after-self-inside.ensures ∙ ap (λ (is : Bool). running_after is c.self.inside.running) did.running ∙ ap (λ (s : OpenModel). running_after (not over) s.running) (c.self.view_is ∙ kept) in
    let N : ℕ → Type 0 = λ m. Keeps over m told.host c.args.call.now in
    let P : OpenModel → Type 0 = λ s. Advanced event old (record s { running = n }) told.host c.told-is_running.result.0 before in
    subst P (sym c.self.view_is) (record {
      report = report;
      reported = reported;
      call = c.args.call.now;
      goes = did.goes report event.caller event.at old.hosted before went;
      keeps = subst N (ap (λ (s : OpenModel). s.number) same) did.keeps;
      rest = ap (λ (s : OpenModel). record s { running = n }) kept ∙ ap (λ (m : ℕ). record old { hosted = told.self.hosted; running = m }) counted;
    })
