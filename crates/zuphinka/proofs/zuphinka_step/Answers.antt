use Rattle.std.proofs.Common.{ap, Option, refl, sym, subst}
use Rattle.zuphinka.specs.Opening.{OpenModel, core_in}
use Rattle.zuphinka.specs.Calls.{Steps}
use Rattle.zuphinka.specs.declared.status.Status.TheVariants.{NotOpen}
use Rattle.zuphinka.proofs.zuphinka_step.Goals as goal

pub returns-in_default-clause-status : goal.returns-in_default-clause-status
returns-in_default-clause-status c =
    (NotOpen, c.code.ensures, subst (λ (h : Option OpenModel). Steps c.args.request.now (core_in h) (core_in c.take.new.self.held) c.args.reply.now c.args.reply.now NotOpen) (sym c.in_default.ensures.taken) (refl, ap core_in c.take.ensures.empty, refl))
