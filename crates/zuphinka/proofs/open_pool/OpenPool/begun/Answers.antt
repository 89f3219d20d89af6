use Rattle.std.proofs.Common.{◌∙◌, ℕ, Bool, not, ap, sym, subst}
use Rattle.pool_calls.specs.Operations.{is_over}
use Rattle.pool_host.specs.declared.report.Report.TheVariants as reports
use Rattle.zuphinka.specs.Calling.{Began, running_with}
use Rattle.zuphinka.specs.HostCalls.{Keeps}
use Rattle.zuphinka.specs.Opening.{OpenModel}
use Rattle.zuphinka.proofs.open_pool.OpenPool.begun.Goals as goal

pub returns : goal.returns
returns c start old first kind begins is went same =
    let told = c.told-is_running.new in
    let did = c.told-is_running.ensures in
    let over = is_over c.args.call.now.operation in
    let n : ℕ = c.running_with-self-inside.result in
    let kept = did.rest ∙ ap (λ (s : OpenModel). record s { hosted = told.self.hosted }) same in
    let counted = c.running_with-self-inside.ensures ∙ ap (λ (is : Bool). running_with is c.self.inside.running) did.running ∙ ap (λ (s : OpenModel). running_with (not over) s.running) (c.self.view_is ∙ kept) in
    let N : ℕ → Type 0 = λ m. Keeps over m told.host c.args.call.now in
    let P : OpenModel → Type 0 = λ s. Began start old (record s { running = n }) told.host c.told-is_running.result.0 kind in
    subst P (sym c.self.view_is) (record {
      first = first;
      begins = begins;
      is = is;
      call = c.args.call.now;
      goes = did.goes reports.GoOn start.caller start.at old.hosted first went;
      keeps = subst N (ap (λ (s : OpenModel). s.number) same) did.keeps;
      rest = ap (λ (s : OpenModel). record s { running = n }) kept ∙ ap (λ (m : ℕ). record old { hosted = told.self.hosted; running = m }) counted;
    })
