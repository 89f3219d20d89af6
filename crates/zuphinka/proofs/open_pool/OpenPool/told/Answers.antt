use Rattle.std.proofs.Common.{◌≡◌, ℕ, Option, Some, None, IfNone, IfSome, ap, max, sym, subst}
use Rattle.pool_calls.specs.Waiting.{IsSettled, Signals}
use Rattle.pool_calls.specs.declared.operation.Operation.{Operation}
use Rattle.pool_host.specs.Hosting.{HostedModel, available_in}
use Rattle.pool_host.specs.Going.{WentOn}
use Rattle.zuphinka.specs.Calling.{IsReadAs, Wakes}
use Rattle.zuphinka.proofs.open_pool.OpenPool.told.Goals as goal

wakes_by : (wake : Option ℕ) (old new : HostedModel) → new ≡ record old { queue = record old.queue { signalled = new.queue.signalled } } → IfSome wake (Signals (available_in old.core) old.queue new.queue) → IfNone wake (IsSettled (available_in old.core) new.queue) → Wakes old new wake
wakes_by None old new rest signals settled = (rest, settled)
wakes_by (Some ticket) old new rest signals settled = (rest, signals)

pub returns-clause-goes : goal.returns-clause-goes
returns-clause-goes c report caller at old before went =
    let made = c.args.made.now in
    let after = c.args.call.now in
    let between = c.self.inside.hosted in
    let wakes = c.next_wake-wake.ensures in
    let wake = c.next_wake-wake.result in
    let D : HostedModel → Type 0 = λ d. WentOn report caller (max at old.last) old d before after made in
    let R : Operation → Type 0 = λ o. IsReadAs made o wake c.of-told.result in
    record {
      effects = made;
      between = between;
      wake = wake;
      went = subst D (sym (ap (λ p. p.hosted) c.self.view_is)) went;
      wakes = wakes_by wake between c.next_wake-wake.new.self wakes.rest wakes.signals wakes.settled;
      read = subst R c.operation.ensures c.of-told.ensures;
    }
