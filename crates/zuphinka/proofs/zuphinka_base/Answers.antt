use Rattle.std.proofs.Common.{ap, Option, refl, sym, subst, rules}
use Rattle.zuphinka.specs.Opening.{OpenModel, core_in}
use Rattle.zuphinka.specs.Calls.{BaseLines}
use Rattle.zuphinka.specs.declared.status.Status.TheVariants.{NotOpen}
use Rattle.zuphinka.proofs.zuphinka_base.Goals as goal

pub returns-in_default-clause-text : goal.returns-in_default-clause-text
returns-in_default-clause-text c = (
  NotOpen,
  c.code.ensures,
  subst (λ (h : Option OpenModel). BaseLines c.args.position (core_in h) (core_in c.take.new.self.held) c.args.text.now c.args.text.now c.args.size.now c.args.size.now NotOpen) (sym c.in_default.ensures.taken) (refl, ap core_in c.take.ensures.empty, refl, refl),
)

pub returns-clause-text : goal.returns-clause-text
returns-clause-text c = search rules
