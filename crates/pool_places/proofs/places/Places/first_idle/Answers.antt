use Rattle.std.proofs.Common.{map, None, ap, ◌∙◌}
use Rattle.std.specs.Prelude.{find}
use Rattle.std.specs.Option.{option_map}
use Rattle.pool_journal.specs.declared.record.Phase.TheVariants as phases
use Rattle.pool_places.specs.Changes.{IsInPhase}
use Rattle.pool_places.specs.PlacesModel.{records_in}
use Rattle.pool_places.specs.Stored.{objects_of, entry_at, from_key, parked_of}
use Rattle.pool_places.specs.QueueEntries.{QueueEntry, is_wanted}
use Rattle.pool_places.proofs.Picked.{first_entry}
use Rattle.pool_places.proofs.Picks.{named_by_id, each_is_found, first_is_idle}
use Rattle.pool_places.proofs.SlotLists.{queue_kept}
use Rattle.pool_places.proofs.Walks.{from_first}
use Rattle.pool_places.proofs.places.Places.first_idle.Goals as goal

pub returns-clause-value : goal.returns-clause-value
returns-clause-value g c =
    let rack = c.self.inside.slots in
    let ps = objects_of rack c.self.inside.index.pairs in
    let found = each_is_found ps c.self.invariant.well_formed.ascending in
    let queue = queue_kept rack c.self.inside.index.pairs c.self.invariant.tied c.self.invariant.line in
    let all = c.first_wanted.ensures ∙ ap (λ o. option_map (λ (q : QueueEntry). q.id) (find (is_wanted None) (map (entry_at rack) (from_key o rack.queue)))) c.first.ensures.first ∙ ap (λ ks. option_map (λ (q : QueueEntry). q.id) (find (is_wanted None) (map (entry_at rack) ks))) (from_first rack.queue) in
    let named = all ∙ first_entry (records_in ps) (parked_of rack) found queue in
    rw (← c.self.view_is) named

pub returns-clause-idle : goal.returns-clause-idle
returns-clause-idle g c =
    let rack = c.self.inside.slots in
    let ps = objects_of rack c.self.inside.index.pairs in
    let found = each_is_found ps c.self.invariant.well_formed.ascending in
    let queue = queue_kept rack c.self.inside.index.pairs c.self.invariant.tied c.self.invariant.line in
    let all = c.first_wanted.ensures ∙ ap (λ o. option_map (λ (q : QueueEntry). q.id) (find (is_wanted None) (map (entry_at rack) (from_key o rack.queue)))) c.first.ensures.first ∙ ap (λ ks. option_map (λ (q : QueueEntry). q.id) (find (is_wanted None) (map (entry_at rack) ks))) (from_first rack.queue) in
    let named = all ∙ first_entry (records_in ps) (parked_of rack) found queue in
    rw (← c.self.view_is) (named_by_id _ _ (λ i. IsInPhase (records_in ps) i phases.Idle) named (λ r is. first_is_idle ps c.self.invariant.well_formed.ascending r is))
