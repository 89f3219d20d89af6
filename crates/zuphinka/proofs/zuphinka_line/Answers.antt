use Rattle.std.proofs.Common.{ap, Option, refl, sym, subst}
use Rattle.zuphinka.specs.Opening.{OpenModel, core_in}
use Rattle.zuphinka.specs.Calls.{Lines}
use Rattle.zuphinka.specs.declared.status.Status.TheVariants.{NotOpen}
use Rattle.zuphinka.proofs.zuphinka_line.Goals as goal

pub returns-in_default-clause-text : goal.returns-in_default-clause-text
returns-in_default-clause-text c = (
  NotOpen,
  c.code.ensures,
  subst (λ (h : Option OpenModel). Lines c.args.position (core_in h) (core_in c.take.new.self.held) c.args.text.now c.args.text.now c.args.size.now c.args.size.now NotOpen) (sym c.in_default.ensures.taken) (refl, ap core_in c.take.ensures.empty, refl, refl),
)
