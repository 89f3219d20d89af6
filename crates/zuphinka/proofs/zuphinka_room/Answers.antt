use Rattle.std.proofs.Common.{◌≡◌, ◌∙◌, ℕ, Option, ap, sym, subst}
use Rattle.pool_core.specs.Pool.{CoreModel}
use Rattle.zuphinka.specs.Calls.{Reads, TellsRoom}
use Rattle.zuphinka.specs.Opening.{OpenModel, core_in}
use Rattle.zuphinka.proofs.zuphinka_room.Goals as goal

pub returns-clause-reads : goal.returns-clause-reads
returns-clause-reads c =
    let core : c.core.result.now ≡ c.in-Some.held.value.hosted.core = c.core.ensures ∙ ap (λ (p : OpenModel). p.hosted.core) c.deref.ensures in
    let P : Option OpenModel → Type 0 = λ h. Reads TellsRoom (core_in h) (core_in c.put.new.self.held) c.args.room.now c.room.result c.code-2.result in
    subst P (sym c.in-Some.ensures.taken) (c.code-2.ensures, ap core_in c.put.ensures.put, subst (λ (k : CoreModel ℕ). TellsRoom k c.room.result) core c.room.ensures)
