-- The objects and the queue as they are stored: slots of objects under keys, and the key of each id.
use Rattle.std.specs.Prelude.{◌≡◌, ℕ, true, List, [], ◌∷◌, map, if◌then◌else◌, eqb, nat_lt, find, Option, Some, None, unwrap_or, IsSome, IsSomeAnd}
use Rattle.std.specs.Option.{option_map}
use Rattle.pool_journal.specs.declared.record.Record.{Record}
use Rattle.pool_journal.specs.declared.record.Phase.TheVariants as phases
use Rattle.pool_journal.specs.Queue.{is_idle, is_queued}
use Rattle.pool_slots.specs.SlotsModel.{Item, SlotsModel, item_at, is_in}
use Rattle.sorted_index.specs.declared.pair.Pair.{Pair}
use Rattle.sorted_index.specs.Pairs.{key_of, IsAscending}
use Rattle.pool_places.specs.declared.place.Place.{Place}
use Rattle.pool_places.specs.PlacesModel.{new_place}
use Rattle.pool_places.specs.QueueEntries.{QueueEntry, IsAscendingQueue}

-- the entry of a record
abbrev pub entry_of : Record → QueueEntry
entry_of r = record { parked = r.parked; id = r.id; is_idle = is_idle r.phase }

-- the keys from one on
abbrev pub from_key : Option ℕ → List ℕ → List ℕ
from_key None keys = []
from_key (Some key) [] = []
from_key (Some key) (x ∷ keys) = if eqb key x then x ∷ keys else from_key (Some key) keys

module _ {T : Type 0} where
  -- an object of the slots
  abbrev pub place_of : Item T → Place T
  place_of item = record { known = item.known; value = item.value }

  -- the object under a key, or an absent object if there is none
  abbrev pub place_at : SlotsModel T → ℕ → Place T
  place_at rack key = unwrap_or (option_map place_of (item_at rack key)) (new_place 0 phases.Absent)

  -- the objects, in ascending order of id
  abbrev pub objects_of : SlotsModel T → List Pair → List (Place T)
  objects_of rack pairs = map (λ p. place_at rack p.key) pairs

  -- the entry of the object under a key
  abbrev pub entry_at : SlotsModel T → ℕ → QueueEntry
  entry_at rack key = entry_of (place_at rack key).known

  -- the entries of the queue
  abbrev pub parked_of : SlotsModel T → List QueueEntry
  parked_of rack = map (entry_at rack) rack.queue

  -- the first of these keys whose object was parked after the position
  abbrev pub first_parked : SlotsModel T → ℕ → List ℕ → Option ℕ
  first_parked rack position keys = find (λ key. nat_lt position (entry_at rack key).parked) keys

  -- each id leads to its object, and each object is led to
  pub record IndexInvariant (rack : SlotsModel T) (pairs : List Pair) : Type 0 where
    pub ascending : IsAscending pairs
    pub there : (i key : ℕ) → key_of pairs i ≡ Some key → IsSomeAnd (item_at rack key) (λ item. item.known.id ≡ i)
    pub back : (key : ℕ) (item : Item T) → item_at rack key ≡ Some item → key_of pairs item.known.id ≡ Some key

  -- the queue has the queued objects, in ascending order of position
  pub record QueueInvariant (rack : SlotsModel T) : Type 0 where
    pub present : (key : ℕ) → is_in key rack.queue ≡ true → IsSome (item_at rack key)
    pub follows : (key : ℕ) (item : Item T) → item_at rack key ≡ Some item → is_in key rack.queue ≡ is_queued item.known.phase
    pub ascends : IsAscendingQueue (parked_of rack)
