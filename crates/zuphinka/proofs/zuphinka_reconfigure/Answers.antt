use Rattle.std.proofs.Common.{Option, refl, sym, subst}
use Rattle.zuphinka.specs.Opening.{OpenModel}
use Rattle.zuphinka.specs.Reconfiguring.{Reconfigures}
use Rattle.zuphinka.specs.declared.status.Status.TheVariants.{NotOpen}
use Rattle.zuphinka.proofs.zuphinka_reconfigure.Goals as goal

pub returns-in_default : goal.returns-in_default
returns-in_default c = (NotOpen, c.code.ensures, subst (λ (h : Option OpenModel). Reconfigures c.args.settings.now h c.take.new.self.held NotOpen) (sym c.in_default.ensures.taken) (refl, c.take.ensures.empty))
