use Rattle.std.proofs.Common.{rules, ◌≡◌, ℕ, Bool, true, false, Option, refl, sym, ◌∙◌}
use Rattle.std.specs.Prelude.{◌&&◌}
use Rattle.std.specs.Option.{is_some}
use Rattle.pool_calls.specs.Operations.{Proceeds, fits}
use Rattle.pool_calls.specs.declared.action.Event.TheVariants as events
use Rattle.pool_calls.specs.declared.operation.Operation.{Operation}
use Rattle.pool_host.specs.Hosting.{HostedModel, IsWoken, LooksIf}
use Rattle.pool_host.specs.declared.call.Call.{Call}
use Rattle.pool_host.proofs.Moving.{accepts_queued}
use Rattle.pool_host.proofs.pool.HostedPool.look_again.Goals as goal

pub returns-then-tell-clause-accepts : goal.returns-then-tell-clause-accepts
returns-then-tell-clause-accepts c =
    let call = c.args.call.now in
    let queued : Call = record { operation = c.tell.new.self; token = call.token; ticket = call.ticket; was_served = call.was_served; longer = call.longer } in
    accepts_queued c.wake_up.result c.args.self.now c.wake_up.new.self call queued c.wake_up.new.call refl refl (c.tell.ensures.comes c.if-tell.true) c.wake_up.ensures.accepted c.wake_up.ensures.unfit

both : (x y : Bool) → x ≡ true → y ≡ true → (x && y) ≡ true
both x y p q = rw p q

looks : (b : Bool) (d : HostedModel) (at : ℕ) (ticket : Option ℕ) (longer : ℕ) (before queued after : Operation) → b ≡ true → Proceeds events.Queued before queued → IsWoken d at ticket longer queued after → LooksIf b d at ticket longer before after
looks true d at ticket longer before queued after is goes woken = (queued, goes, woken)
looks false d at ticket longer before queued after is goes woken = absurd (cc is)

pub returns-then-tell-clause-told : goal.returns-then-tell-clause-told
returns-then-tell-clause-told c =
    let call = c.args.call.now in
    let asks : fits call.operation events.Queued ≡ true = sym c.tell.ensures.fits ∙ c.if-tell.true in
    let has : is_some call.ticket ≡ true = search rules in
    let woken = c.wake_up.ensures.told (c.wake_up.ensures.fits ∙ (c.tell.ensures.wait c.if-tell.true ∙ asks)) in
    looks (is_some call.ticket && fits call.operation events.Queued) c.args.self.now c.args.at call.ticket call.longer call.operation c.tell.new.self c.wake_up.new.call.operation (both (is_some call.ticket) (fits call.operation events.Queued) has asks) (c.tell.ensures.proceeds c.if-tell.true) woken
