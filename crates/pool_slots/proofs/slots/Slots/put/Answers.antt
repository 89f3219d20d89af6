use Rattle.std.proofs.Common.{Some, refl, ap}
use Rattle.pool_slots.specs.SlotsModel.{with_value}
use Rattle.pool_slots.specs.Links.{item_of}
use Rattle.pool_slots.proofs.Moves.{written}
use Rattle.pool_slots.proofs.slots.Slots.put.Goals as goal

pub invariant_of-self : goal.invariant_of-self
invariant_of-self g c =
    let old = c.index_mut-slot.result.now in
    let done = written _ _ _ _ c.args.key old (record old { value = c.replace.new.self }) (with_value (Some c.args.value)) c.self.view_is c.self.invariant c.index_mut-slot.ensures.value refl refl (ap (λ v. with_value v (item_of old)) c.replace.ensures.after) in
    done.queue

pub returns-clause-sets : goal.returns-clause-sets
returns-clause-sets g c =
    let old = c.index_mut-slot.result.now in
    let done = written _ _ _ _ c.args.key old (record old { value = c.replace.new.self }) (with_value (Some c.args.value)) c.self.view_is c.self.invariant c.index_mut-slot.ensures.value refl refl (ap (λ v. with_value v (item_of old)) c.replace.ensures.after) in
    done.sets

pub returns-clause-count : goal.returns-clause-count
returns-clause-count g c =
    let old = c.index_mut-slot.result.now in
    let done = written _ _ _ _ c.args.key old (record old { value = c.replace.new.self }) (with_value (Some c.args.value)) c.self.view_is c.self.invariant c.index_mut-slot.ensures.value refl refl (ap (λ v. with_value v (item_of old)) c.replace.ensures.after) in
    done.count

pub returns-clause-queue : goal.returns-clause-queue
returns-clause-queue g c =
    let old = c.index_mut-slot.result.now in
    let done = written _ _ _ _ c.args.key old (record old { value = c.replace.new.self }) (with_value (Some c.args.value)) c.self.view_is c.self.invariant c.index_mut-slot.ensures.value refl refl (ap (λ v. with_value v (item_of old)) c.replace.ensures.after) in
    done.keys

pub returns-clause-room : goal.returns-clause-room
returns-clause-room g c =
    let old = c.index_mut-slot.result.now in
    let done = written _ _ _ _ c.args.key old (record old { value = c.replace.new.self }) (with_value (Some c.args.value)) c.self.view_is c.self.invariant c.index_mut-slot.ensures.value refl refl (ap (λ v. with_value v (item_of old)) c.replace.ensures.after) in
    done.room
