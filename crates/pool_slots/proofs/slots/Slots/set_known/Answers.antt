use Rattle.std.proofs.Common.{refl}
use Rattle.pool_slots.specs.SlotsModel.{with_known}
use Rattle.pool_slots.proofs.Moves.{written}
use Rattle.pool_slots.proofs.slots.Slots.set_known.Goals as goal

pub invariant_of-self : goal.invariant_of-self
invariant_of-self g c =
    let old = c.index_mut-slot.result.now in
    let done = written _ _ _ _ c.args.key old (record old { known = c.args.known }) (with_known c.args.known) c.self.view_is c.self.invariant c.index_mut-slot.ensures.value refl refl refl in
    done.queue

pub returns-clause-sets : goal.returns-clause-sets
returns-clause-sets g c =
    let old = c.index_mut-slot.result.now in
    let done = written _ _ _ _ c.args.key old (record old { known = c.args.known }) (with_known c.args.known) c.self.view_is c.self.invariant c.index_mut-slot.ensures.value refl refl refl in
    done.sets

pub returns-clause-count : goal.returns-clause-count
returns-clause-count g c =
    let old = c.index_mut-slot.result.now in
    let done = written _ _ _ _ c.args.key old (record old { known = c.args.known }) (with_known c.args.known) c.self.view_is c.self.invariant c.index_mut-slot.ensures.value refl refl refl in
    done.count

pub returns-clause-queue : goal.returns-clause-queue
returns-clause-queue g c =
    let old = c.index_mut-slot.result.now in
    let done = written _ _ _ _ c.args.key old (record old { known = c.args.known }) (with_known c.args.known) c.self.view_is c.self.invariant c.index_mut-slot.ensures.value refl refl refl in
    done.keys

pub returns-clause-room : goal.returns-clause-room
returns-clause-room g c =
    let old = c.index_mut-slot.result.now in
    let done = written _ _ _ _ c.args.key old (record old { known = c.args.known }) (with_known c.args.known) c.self.view_is c.self.invariant c.index_mut-slot.ensures.value refl refl refl in
    done.room
