use Rattle.std.proofs.Common.{◌∙◌, Option, IsSomeAnd, ap, refl, sym, subst}
use Rattle.pool_host.specs.Hosting.{HostedModel}
use Rattle.zuphinka.specs.Calling.{Began, BeginsTo, is_quiet, read_of}
use Rattle.zuphinka.specs.Opening.{OpenModel}
use Rattle.zuphinka.specs.declared.call_effects.CallEffects.{CallEffects}
use Rattle.zuphinka.specs.declared.starting.Kind.{Kind}
use Rattle.zuphinka.specs.declared.starting.Kind.TheVariants as kinds
use Rattle.zuphinka.specs.declared.status.Status.{Status}
use Rattle.zuphinka.proofs.Quiet.{begins_told}
use Rattle.zuphinka.proofs.open_pool.OpenPool.begin_lent.Goals as goal

pub returns-in-Some : goal.returns-in-Some
returns-in-Some c =
    let start = c.args.start.now in
    let inside = c.self.inside in
    let old : OpenModel = record { hosted = inside.hosted; running = inside.running; number = inside.number; hooks = inside.hooks } in
    let last = c.begun.new in
    let told = c.begun.result in
    let quiet = is_quiet told in
    let read = c.args.effects.now in
    let begun = c.begun.ensures start old c.call-call.result kinds.Borrow c.call-call.ensures.begins c.call-call.ensures.is c.in-Some.ensures.went refl in
    let P : Option Kind → Type 0 = λ k. IsSomeAnd k (Began start c.args.self.now last.self last.host told) in
    let Q : OpenModel → Type 0 = λ p. Began start p last.self last.host told kinds.Borrow in
    let R : Status → Type 0 = λ s. BeginsTo start c.args.self.now last.self c.args.host.now last.host read (read_of quiet told read) s in
    let S : CallEffects → Type 0 = λ e. BeginsTo start c.args.self.now last.self c.args.host.now last.host read e c.tell.result in
    subst S (sym c.tell.ensures.read) (subst R (sym c.tell.ensures.status) (begins_told start c.args.self.now last.self c.args.host.now last.host told read quiet refl (subst P (sym c.requires) (subst Q c.self.view_is begun))))

pub returns-in-None : goal.returns-in-None
returns-in-None c =
    let old = c.self.inside in
    let same : HostedModel → OpenModel = λ d. record { hosted = d; running = old.running; number = old.number; hooks = old.hooks } in
    let last = c.begin_as.new in
    let P : OpenModel → Type 0 = λ p. BeginsTo c.args.start.now p last.self c.args.host.now last.host c.args.effects.now last.effects c.begin_as.result in
    subst P (ap same c.in-None.ensures.unchanged.0 ∙ c.self.view_is) c.begin_as.ensures
