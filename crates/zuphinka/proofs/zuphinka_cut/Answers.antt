use Rattle.std.proofs.Common.{ap, Option, refl, sym, subst}
use Rattle.zuphinka.specs.Opening.{OpenModel, core_in}
use Rattle.zuphinka.specs.Calls.{Cuts}
use Rattle.zuphinka.specs.declared.status.Status.TheVariants.{NotOpen}
use Rattle.zuphinka.proofs.zuphinka_cut.Goals as goal

pub returns-in_default-clause-cuts : goal.returns-in_default-clause-cuts
returns-in_default-clause-cuts c = (NotOpen, c.code.ensures, subst (λ (h : Option OpenModel). Cuts (core_in h) (core_in c.take.new.self.held) NotOpen) (sym c.in_default.ensures.taken) (refl, ap core_in c.take.ensures.empty))
