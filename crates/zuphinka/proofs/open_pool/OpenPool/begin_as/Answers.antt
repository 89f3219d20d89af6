use Rattle.std.proofs.Common.{Option, IsSomeAnd, refl, sym, subst}
use Rattle.zuphinka.specs.Calling.{Began}
use Rattle.zuphinka.specs.Opening.{OpenModel}
use Rattle.zuphinka.specs.declared.starting.Kind.{Kind}
use Rattle.zuphinka.proofs.open_pool.OpenPool.begin_as.Goals as goal

pub returns : goal.returns
returns c =
    let inside = c.self.inside in
    let old : OpenModel = record { hosted = inside.hosted; running = inside.running; number = inside.number; hooks = inside.hooks } in
    let last = c.begun.new in
    let begun = c.begun.ensures c.args.start.now old c.call-call.result c.args.kind c.call-call.ensures.begins c.call-call.ensures.is c.in-Some.ensures.went refl in
    let P : Option Kind → Type 0 = λ k. IsSomeAnd k (Began c.args.start.now c.args.self.now last.self last.host c.begun.result) in
    let Q : OpenModel → Type 0 = λ p. Began c.args.start.now p last.self last.host c.begun.result c.args.kind in
    subst P (sym c.requires) (subst Q c.self.view_is begun)
