-- The objects of a pool, as their records and values.
use Rattle.std.specs.Prelude.{◌≡◌, ℕ, ◌==◌, ◌<◌, ◌≤◌, ◌^◌, not, if◌then◌else◌, List, [], ◌∷◌, map, filter, find, length, Option, Some, None, is_some, All, ⊤}
use Rattle.std.specs.List.{AllByRecursion, HoldsAt}
use Rattle.std.specs.Option.{option_and_then}
use Rattle.pool_journal.specs.declared.record.Record.{Record}
use Rattle.pool_journal.specs.declared.record.Phase.{Phase}
use Rattle.pool_journal.specs.declared.record.Phase.TheVariants as phases
use Rattle.pool_journal.specs.Queue.{is_idle}
use Rattle.pool_places.specs.Changes.{new_record, phase_set, lent_at, used_at, parked_at}
use Rattle.pool_places.specs.declared.place.Place.{Place}

-- the model of the objects
pub record PlacesModel (T : Type 0) : Type 0 where
  pub objects : List (Place T)  -- in ascending order of id
  pub spare_capacity : ℕ  -- the number of objects that can be opened without memory

-- the records of the objects
abbrev pub records_in : {T : Type 0} → List (Place T) → List Record
records_in ps = map (λ p. p.known) ps

-- the object i, if it is present
abbrev pub place_in : {T : Type 0} → List (Place T) → ℕ → Option (Place T)
place_in ps i = find (λ p. i == p.known.id) ps

-- the value that is stored under i
abbrev pub value_in : {T : Type 0} → List (Place T) → ℕ → Option T
value_in ps i = option_and_then (λ p. p.value) (place_in ps i)

-- the objects, with i changed
abbrev pub changed : {T : Type 0} → ℕ → (Place T → Place T) → List (Place T) → List (Place T)
changed i f ps = map (λ p. if i == p.known.id then f p else p) ps

-- the objects without i
abbrev pub without : {T : Type 0} → ℕ → List (Place T) → List (Place T)
without i ps = filter (λ p. not (i == p.known.id)) ps

-- an object that was just created
abbrev pub new_place : {T : Type 0} → ℕ → Phase → Place T
new_place i phase = record { known = new_record i phase; value = None }

-- the object in the phase
abbrev pub to_phase : {T : Type 0} → Phase → Place T → Place T
to_phase phase p = record p { known = phase_set phase p.known }

-- the object, lent at the time
abbrev pub to_lent : {T : Type 0} → ℕ → Place T → Place T
to_lent at p = record p { known = lent_at at p.known }

-- the lent object, used at the time
abbrev pub to_used : {T : Type 0} → ℕ → Place T → Place T
to_used at p = record p { known = used_at at p.known }

-- the object, parked with its value
abbrev pub to_idle : {T : Type 0} → ℕ → ℕ → T → Place T → Place T
to_idle parked since value p = record { known = parked_at parked since p.known; value = Some value }

-- the object, idle again with its value, at its position in the queue
abbrev pub to_kept : {T : Type 0} → T → Place T → Place T
to_kept value p = record { known = phase_set phases.Idle p.known; value = Some value }

-- the object in the phase, without its value
abbrev pub to_taken : {T : Type 0} → Phase → Place T → Place T
to_taken phase p = record { known = phase_set phase p.known; value = None }

-- the ids are ascending
abbrev pub IsAscending : {T : Type 0} → List (Place T) → Type 0
IsAscending [] = ⊤
IsAscending (p ∷ ps) = AllByRecursion (λ q. p.known.id < q.known.id) ps × IsAscending ps

-- a value is stored exactly if the object is idle
abbrev pub IsValued : {T : Type 0} → Place T → Type 0
IsValued p = is_some p.value ≡ is_idle p.known.phase

-- the ids are ascending, exactly the idle objects have values, and there are no more objects than memory has addresses for
pub record PlacesInvariant {T : Type 0} (ps : List (Place T)) : Type 0 where
  pub ascending : IsAscending ps
  pub valued : All IsValued ps
  pub bounded : length ps ≤ 2 ^ 60

-- i is at position k
pub record IsAt {T : Type 0} (ps : List (Place T)) (i k : ℕ) : Type 0 where
  pub in_range : k < length ps
  pub has_id : HoldsAt (λ p. p.known.id ≡ i) ps k
