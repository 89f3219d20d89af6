use Rattle.std.proofs.Common.{IsSomeAnd, Option, refl, sym, subst}
use Rattle.zuphinka.specs.Calling.{AdvancesIn, AdvancesTo}
use Rattle.zuphinka.specs.Opening.{OpenModel}
use Rattle.zuphinka.specs.declared.status.Status.TheVariants.{NotOpen}
use Rattle.zuphinka.proofs.zuphinka_advance.Goals as goal

pub returns-in_default : goal.returns-in_default
returns-in_default c =
    (NotOpen, c.code.ensures, subst (λ (h : Option OpenModel). AdvancesIn c.args.event.now h c.take.new.self.held c.args.call.now c.args.call.now c.args.effects.now c.args.effects.now NotOpen) (sym c.in_default.ensures.taken) (refl, c.take.ensures.empty, refl, refl))

pub returns : goal.returns
returns c =
    let P : Option OpenModel → Type 0 = λ h. AdvancesIn c.args.event.now h c.put.new.self.held c.args.call.now c.advance-status.new.host c.args.effects.now c.advance-status.new.effects c.advance-status.result in
    let Q : Option OpenModel → Type 0 = λ h. IsSomeAnd h (λ p. AdvancesTo c.args.event.now c.in-Some.held.value p c.args.call.now c.advance-status.new.host c.args.effects.now c.advance-status.new.effects c.advance-status.result) in
    let R : OpenModel → Type 0 = λ p. AdvancesTo c.args.event.now p c.advance-status.new.self c.args.call.now c.advance-status.new.host c.args.effects.now c.advance-status.new.effects c.advance-status.result in
    (c.advance-status.result, c.code-2.ensures, subst P (sym c.in-Some.ensures.taken) (subst Q (sym c.put.ensures.put) (subst R c.deref_mut.ensures.value c.advance-status.ensures)))
