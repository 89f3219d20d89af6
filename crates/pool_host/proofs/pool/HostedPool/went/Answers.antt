use Rattle.std.proofs.Common.{rules, ℕ, ap, refl, sym, ◌∙◌, subst}
use Rattle.pool_calls.specs.Operations.{step_at}
use Rattle.pool_calls.specs.Turns.{asks_room}
use Rattle.pool_host.specs.Hosting.{HostedModel, GoesFrom, Moves, told}
use Rattle.pool_host.specs.Going.{as_told}
use Rattle.pool_host.specs.Overtaking.{CountsOvertakes}
use Rattle.pool_host.specs.declared.call.Call.{Call}
use Rattle.pool_host.proofs.Moving.{from_later, from_left, from_told, moves_accepted, moves_from, moves_later, moves_on, moves_told}
use Rattle.pool_host.proofs.Overtaking.{counts_later, counts_on, counts_rest, rests_heard}
use Rattle.pool_host.proofs.pool.HostedPool.went.Goals as goal

pub returns : goal.returns
returns c report caller old heard before mid hears ran =
    let here = c.args.self.now in
    let call = c.args.call.now in
    let left = c.leave_at_end.new in
    let time : ℕ = c.args.at in
    let step = step_at mid.operation in
    let first : Call = as_told report before mid.operation in
    let goes = from_told caller time report step old heard here before mid call hears.accepts ran.goes in
    let rest = from_left caller time step old here left.self first call left.call goes c.leave_at_end.ensures.accepts c.leave_at_end.ensures.operation in
    let later = from_later caller time time step old left.self first left.call rest in
    let begun = counts_rest caller time old heard first mid (rests_heard time (told report before).token old heard before mid hears.hears) in
    let steps = counts_on caller time old heard here first mid call begun ran.overtakes in
    let done = counts_on caller time old here left.self first call left.call steps (counts_rest caller time here left.self call left.call (c.leave_at_end.ensures.rests time)) in
    let counted = counts_later time caller time old left.self first left.call done in
    let took = moves_told report caller time old heard here before mid call hears.accepts (moves_from caller time step heard here mid call ran.goes) in
    let moved = moves_on caller time old here left.self (told report before) call left.call took (moves_accepted caller time here left.self call left.call c.leave_at_end.ensures.accepts) in
    let moves = moves_later time caller time old left.self (told report before) left.call moved in
    let G : HostedModel → Type 0 = λ d. GoesFrom step caller time old (record d { last = time }) first left.call in
    let V : HostedModel → Type 0 = λ d. CountsOvertakes caller time old (record d { last = time }) first left.call in
    let M : HostedModel → Type 0 = λ d. Moves caller time old (record d { last = time }) (told report before) left.call in
    let new = sym c.self.view_is in
    let same = ap (λ d. d.core.journal) c.self.view_is ∙ ap (λ d. d.core.journal) c.leave_at_end.ensures.rest in
    record {
      fits = hears.fits;
      moves = subst M new moves;
      tells = (mid.operation, hears.told, subst G new later, subst V new counted);
      last = refl;
      longer = c.leave_at_end.ensures.longer ∙ ran.longer ∙ hears.longer;
      action = search rules;
      over = search rules;
      ended = search rules;
      room = λ asks drops. same ∙ ran.room (sym ran.next.room ∙ sym (ap asks_room c.effects.ensures.action) ∙ asks) (hears.accepts.rest.drops ∙ drops);
      token = search rules;
      ticket = search rules;
      until = search rules;
    }
