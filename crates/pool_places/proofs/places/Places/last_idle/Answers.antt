use Rattle.std.proofs.Common.{map, reverse, ap, sym, ◌∙◌}
use Rattle.std.specs.Prelude.{find}
use Rattle.std.specs.Option.{option_map}
use Rattle.pool_journal.specs.declared.record.Phase.TheVariants as phases
use Rattle.pool_places.specs.Changes.{IsInPhase}
use Rattle.pool_places.specs.PlacesModel.{records_in}
use Rattle.pool_places.specs.Stored.{objects_of, entry_at, from_key, parked_of}
use Rattle.pool_places.specs.QueueEntries.{QueueEntry}
use Rattle.pool_places.proofs.Picked.{last_entry}
use Rattle.pool_places.proofs.Picks.{named_by_id, each_is_found, last_is_idle}
use Rattle.pool_places.proofs.SlotLists.{queue_kept}
use Rattle.pool_places.proofs.Walks.{from_first, last_is_first, last_within, map_reverse}
use Rattle.pool_places.proofs.places.Places.last_idle.Goals as goal
use Rattle.pool_places.specs.RepInvariant.{IsWithin}
use Rattle.std.proofs.Common.{subst}

pub last_wanted-requires-clause-from : goal.last_wanted-requires-clause-from
last_wanted-requires-clause-from g c = subst (IsWithin c.self.inside.slots.queue) (sym c.last.ensures.last) (last_within c.self.inside.slots.queue)

pub returns-clause-value : goal.returns-clause-value
returns-clause-value g c =
    let rack = c.self.inside.slots in
    let ps = objects_of rack c.self.inside.index.pairs in
    let found = each_is_found ps c.self.invariant.well_formed.ascending in
    let queue = queue_kept rack c.self.inside.index.pairs c.self.invariant.tied c.self.invariant.line in
    let all = c.last_wanted.ensures ∙ ap (λ o. option_map (λ (q : QueueEntry). q.id) (find (λ (q : QueueEntry). q.is_idle) (map (entry_at rack) (from_key o (reverse rack.queue))))) (c.last.ensures.last ∙ last_is_first rack.queue) ∙ ap (λ ks. option_map (λ (q : QueueEntry). q.id) (find (λ (q : QueueEntry). q.is_idle) (map (entry_at rack) ks))) (from_first (reverse rack.queue)) ∙ ap (λ qs. option_map (λ (q : QueueEntry). q.id) (find (λ (q : QueueEntry). q.is_idle) qs)) (map_reverse (entry_at rack) rack.queue) in
    let named = all ∙ last_entry (records_in ps) (parked_of rack) found queue in
    rw (← c.self.view_is) named

pub returns-clause-idle : goal.returns-clause-idle
returns-clause-idle g c =
    let rack = c.self.inside.slots in
    let ps = objects_of rack c.self.inside.index.pairs in
    let found = each_is_found ps c.self.invariant.well_formed.ascending in
    let queue = queue_kept rack c.self.inside.index.pairs c.self.invariant.tied c.self.invariant.line in
    let all = c.last_wanted.ensures ∙ ap (λ o. option_map (λ (q : QueueEntry). q.id) (find (λ (q : QueueEntry). q.is_idle) (map (entry_at rack) (from_key o (reverse rack.queue))))) (c.last.ensures.last ∙ last_is_first rack.queue) ∙ ap (λ ks. option_map (λ (q : QueueEntry). q.id) (find (λ (q : QueueEntry). q.is_idle) (map (entry_at rack) ks))) (from_first (reverse rack.queue)) ∙ ap (λ qs. option_map (λ (q : QueueEntry). q.id) (find (λ (q : QueueEntry). q.is_idle) qs)) (map_reverse (entry_at rack) rack.queue) in
    let named = all ∙ last_entry (records_in ps) (parked_of rack) found queue in
    rw (← c.self.view_is) (named_by_id _ _ (λ i. IsInPhase (records_in ps) i phases.Idle) named (λ r is. last_is_idle ps c.self.invariant.well_formed.ascending r is))
