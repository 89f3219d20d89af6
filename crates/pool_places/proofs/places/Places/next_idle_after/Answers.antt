use Rattle.std.proofs.Common.{map, Some, ap, sym, ◌∙◌}
use Rattle.std.specs.Prelude.{find}
use Rattle.std.specs.Option.{option_map}
use Rattle.pool_journal.specs.declared.record.Phase.TheVariants as phases
use Rattle.pool_places.specs.Changes.{IsInPhase}
use Rattle.pool_places.specs.PlacesModel.{records_in}
use Rattle.pool_places.specs.Stored.{objects_of, entry_at, parked_of}
use Rattle.pool_places.specs.QueueEntries.{QueueEntry, is_wanted}
use Rattle.pool_places.proofs.Picked.{next_entry}
use Rattle.pool_places.proofs.Picks.{named_by_id, each_is_found, next_is_idle}
use Rattle.pool_places.proofs.SlotLists.{queue_kept}
use Rattle.pool_places.proofs.Walks.{none_first}
use Rattle.pool_places.proofs.places.Places.next_idle_after.Goals as goal

pub returns-in_err-first-clause-value : goal.returns-in_err-first-clause-value
returns-in_err-first-clause-value g c =
    let rack = c.self.inside.slots in
    let ps = objects_of rack c.self.inside.index.pairs in
    let found = each_is_found ps c.self.invariant.well_formed.ascending in
    let queue = queue_kept rack c.self.inside.index.pairs c.self.invariant.tied c.self.invariant.line in
    let none = none_first rack.queue (sym c.first.ensures.first ∙ c.in_err-first.was) in
    let named = c.from_residual.ensures ∙ sym (ap (λ ks. option_map (λ (q : QueueEntry). q.id) (find (is_wanted (Some c.args.parked)) (map (entry_at rack) ks))) none) ∙ next_entry c.args.parked (records_in ps) (parked_of rack) found queue in
    rw (← c.self.view_is) named

pub returns-clause-value : goal.returns-clause-value
returns-clause-value g c =
    let rack = c.self.inside.slots in
    let ps = objects_of rack c.self.inside.index.pairs in
    let found = each_is_found ps c.self.invariant.well_formed.ascending in
    let queue = queue_kept rack c.self.inside.index.pairs c.self.invariant.tied c.self.invariant.line in
    let named = c.first_wanted.ensures ∙ sym (ap (option_map (λ (q : QueueEntry). q.id)) c.start_after-start.ensures.start) ∙ next_entry c.args.parked (records_in ps) (parked_of rack) found queue in
    rw (← c.self.view_is) named

pub returns-clause-idle : goal.returns-clause-idle
returns-clause-idle g c =
    let rack = c.self.inside.slots in
    let ps = objects_of rack c.self.inside.index.pairs in
    let found = each_is_found ps c.self.invariant.well_formed.ascending in
    let queue = queue_kept rack c.self.inside.index.pairs c.self.invariant.tied c.self.invariant.line in
    let named = c.first_wanted.ensures ∙ sym (ap (option_map (λ (q : QueueEntry). q.id)) c.start_after-start.ensures.start) ∙ next_entry c.args.parked (records_in ps) (parked_of rack) found queue in
    rw (← c.self.view_is) (named_by_id _ _ (λ i. IsInPhase (records_in ps) i phases.Idle) named (λ r is. next_is_idle c.args.parked ps c.self.invariant.well_formed.ascending r is))
