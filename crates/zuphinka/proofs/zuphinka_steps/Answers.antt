use Rattle.std.proofs.Common.{◌≡◌, ◌∙◌, ℕ, length, Option, ap, sym, subst}
use Rattle.pool_core.specs.Pool.{CoreModel}
use Rattle.zuphinka.specs.Calls.{Reads, TellsSteps}
use Rattle.zuphinka.specs.Opening.{OpenModel, core_in}
use Rattle.zuphinka.proofs.zuphinka_steps.Goals as goal

pub returns-clause-reads : goal.returns-clause-reads
returns-clause-reads c =
    let core : c.core.result.now ≡ c.in-Some.held.value.hosted.core = c.core.ensures ∙ ap (λ (p : OpenModel). p.hosted.core) c.deref.ensures in
    let P : Option OpenModel → Type 0 = λ h. Reads TellsSteps (core_in h) (core_in c.put.new.self.held) c.args.steps.now (length c.journal.result.now) c.code-2.result in
    subst P (sym c.in-Some.ensures.taken) (c.code-2.ensures, ap core_in c.put.ensures.put, ap length (c.journal.ensures.entries ∙ ap (λ (k : CoreModel ℕ). k.journal) core))
