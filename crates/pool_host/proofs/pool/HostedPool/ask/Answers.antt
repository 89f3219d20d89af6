use Rattle.std.proofs.Common.{◌||◌, Bool, false, sym, subst}
use Rattle.std.specs.Option.{is_some}
use Rattle.pool_journal.specs.declared.input.Input.{Input}
use Rattle.pool_journal.specs.declared.input.Input.TheVariants as inputs
use Rattle.pool_host.specs.Hosting.{TakesFirst, may_come_in}
use Rattle.pool_host.proofs.Moving.{takes_accepted, takes_reserved}
use Rattle.pool_host.proofs.Overtaking.{counts_reserved, counts_rest, may_as}
use Rattle.pool_host.proofs.pool.HostedPool.ask.Goals as goal

pub returns-then-not-reserve_ticket-clause-moves : goal.returns-then-not-reserve_ticket-clause-moves
returns-then-not-reserve_ticket-clause-moves c =
    let first = c.reserve_ticket.new.self in
    takes_reserved (inputs.Borrow c.args.began) c.args.caller c.args.at false c.args.self.now first c.end_for_memory.new.self c.args.call.now c.end_for_memory.new.call c.reserve_ticket.ensures.rest c.reserve_ticket.ensures.waiting c.reserve_ticket.ensures.most (takes_accepted (inputs.Borrow c.args.began) c.args.caller c.args.at first c.end_for_memory.new.self c.args.call.now c.end_for_memory.new.call c.end_for_memory.ensures.accepts)

pub returns-then-waits_on-clause-moves : goal.returns-then-waits_on-clause-moves
returns-then-waits_on-clause-moves c =
    let first = c.reserve_ticket.new.self in
    takes_reserved (inputs.Borrow c.args.began) c.args.caller c.args.at false c.args.self.now first c.queue_up.new.self c.args.call.now c.queue_up.new.call c.reserve_ticket.ensures.rest c.reserve_ticket.ensures.waiting c.reserve_ticket.ensures.most (takes_accepted (inputs.Borrow c.args.began) c.args.caller c.args.at first c.queue_up.new.self c.args.call.now c.queue_up.new.call c.queue_up.ensures.accepts)

pub returns-then-not-may_ask-clause-moves : goal.returns-then-not-may_ask-clause-moves
returns-then-not-may_ask-clause-moves c =
    let first = c.reserve_ticket.new.self in
    let last = c.queue_up-then-not-may_ask.new in
    takes_reserved (inputs.Borrow c.args.began) c.args.caller c.args.at false c.args.self.now first last.self c.args.call.now last.call c.reserve_ticket.ensures.rest c.reserve_ticket.ensures.waiting c.reserve_ticket.ensures.most (takes_accepted (inputs.Borrow c.args.began) c.args.caller c.args.at first last.self c.args.call.now last.call c.queue_up-then-not-may_ask.ensures.accepts)

pub look-requires : goal.look-requires
look-requires c =
    let available = c.available_to_newcomer-available.result in
    let call = c.args.call.now in
    record {
      asked = c.requires.asked;
      room = c.requires.room;
      available = c.available_to_newcomer-available.ensures;
      may = λ newcomer. may_as (is_some call.ticket || call.was_served) (may_come_in available c.args.at c.reserve_ticket.new.self) c.if-not-may_ask.ensures newcomer;
    }

pub returns-then-not-reserve_ticket-clause-overtakes : goal.returns-then-not-reserve_ticket-clause-overtakes
returns-then-not-reserve_ticket-clause-overtakes c =
    let first = c.reserve_ticket.new.self in
    let last = c.end_for_memory.new in
    counts_reserved c.args.caller c.args.at c.args.self.now first last.self c.args.call.now last.call c.reserve_ticket.ensures.rest c.reserve_ticket.ensures.waiting c.reserve_ticket.ensures.latest (counts_rest c.args.caller c.args.at first last.self c.args.call.now last.call (c.end_for_memory.ensures.rests c.args.at))

pub returns-then-waits_on-clause-overtakes : goal.returns-then-waits_on-clause-overtakes
returns-then-waits_on-clause-overtakes c =
    let first = c.reserve_ticket.new.self in
    let last = c.queue_up.new in
    counts_reserved c.args.caller c.args.at c.args.self.now first last.self c.args.call.now last.call c.reserve_ticket.ensures.rest c.reserve_ticket.ensures.waiting c.reserve_ticket.ensures.latest (counts_rest c.args.caller c.args.at first last.self c.args.call.now last.call c.queue_up.ensures.rests)

pub returns-then-not-may_ask-clause-overtakes : goal.returns-then-not-may_ask-clause-overtakes
returns-then-not-may_ask-clause-overtakes c =
    let first = c.reserve_ticket.new.self in
    let last = c.queue_up-then-not-may_ask.new in
    counts_reserved c.args.caller c.args.at c.args.self.now first last.self c.args.call.now last.call c.reserve_ticket.ensures.rest c.reserve_ticket.ensures.waiting c.reserve_ticket.ensures.latest (counts_rest c.args.caller c.args.at first last.self c.args.call.now last.call c.queue_up-then-not-may_ask.ensures.rests)

pub returns-clause-moves : goal.returns-clause-moves
returns-clause-moves c =
    let input : Input = inputs.Borrow c.args.began in
    let first = c.reserve_ticket.new.self in
    let look = c.look.new in
    let P : Bool → Type 0 = λ taken. TakesFirst input taken c.args.caller c.args.at first look.self c.args.call.now look.call in
    takes_reserved input c.args.caller c.args.at c.is_some.result c.args.self.now first look.self c.args.call.now look.call c.reserve_ticket.ensures.rest c.reserve_ticket.ensures.waiting c.reserve_ticket.ensures.most (subst P (sym c.is_some.ensures) c.look.ensures.moves)

pub returns-clause-overtakes : goal.returns-clause-overtakes
returns-clause-overtakes c =
    let look = c.look.new in
    counts_reserved c.args.caller c.args.at c.args.self.now c.reserve_ticket.new.self look.self c.args.call.now look.call c.reserve_ticket.ensures.rest c.reserve_ticket.ensures.waiting c.reserve_ticket.ensures.latest c.look.ensures.overtakes
