-- The links between the keys of the queue. No public clause cites this module.
use Rattle.std.specs.Prelude.{◌≡◌, ◌≢◌, ℕ, zero, suc, ◌-◌, true, List, [], ◌∷◌, length, map, Option, Some, None, IsSome, is_some, count_by}
use Rattle.std.specs.Option.{option_map, option_and_then}
use Rattle.slab.specs.Slab.{Slab, get}
use Rattle.pool_slots.specs.declared.slot.Slot.{Slot}
use Rattle.pool_slots.specs.SlotsModel.{Item, SlotsModel, is_in, AreDistinct}

-- n is the successor of p, and p the predecessor of n
pub record Linked (after before : Option ℕ → Option ℕ) (p n : Option ℕ) : Type 0 where
  pub forward : after p ≡ n
  pub backward : before n ≡ p

-- after p, the links lead along these keys and then to e
abbrev pub IsChain : (Option ℕ → Option ℕ) → (Option ℕ → Option ℕ) → Option ℕ → List ℕ → Option ℕ → Type 0
IsChain after before p [] e = Linked after before p e
IsChain after before p (x ∷ xs) e =
    Linked after before p (Some x) × IsChain after before (Some x) xs e

-- new leads from `from` to `to`, and equals old elsewhere
pub record Leads (old new : Option ℕ → Option ℕ) (from to : Option ℕ) : Type 0 where
  pub changed : new from ≡ to
  pub others : (p : Option ℕ) → p ≢ from → new p ≡ old p

-- the keys that the links reach from the given first one, at most n
abbrev pub walk : (Option ℕ → Option ℕ) → Option ℕ → ℕ → List ℕ
walk after None n = []
walk after (Some key) zero = []
walk after (Some key) (suc n) = key ∷ walk after (after (Some key)) n

module _ {T : Type 0} where
  -- the successor of a key, and for None the first key
  abbrev pub after_of : Slab (Slot T) → Option ℕ → Option ℕ → Option ℕ
  after_of slots first None = first
  after_of slots first (Some key) = option_and_then (λ slot. slot.links.after) (get slots key)

  -- the predecessor of a key, and for None the last key
  abbrev pub before_of : Slab (Slot T) → Option ℕ → Option ℕ → Option ℕ
  before_of slots last None = last
  before_of slots last (Some key) = option_and_then (λ slot. slot.links.before) (get slots key)

  -- an entry without its links
  abbrev pub item_of : Slot T → Item T
  item_of slot = record { known = slot.known; value = slot.value }

  abbrev pub items_of : Slab (Slot T) → List (Option (Item T))
  items_of slots = map (option_map item_of) slots.slots

  abbrev pub queue_of : Slab (Slot T) → Option ℕ → List ℕ
  queue_of slots first = walk (after_of slots first) first (length slots.slots)

  abbrev pub rack_of : Slab (Slot T) → Option ℕ → SlotsModel T
  rack_of slots first = record {
    items = items_of slots;
    queue = queue_of slots first;
    room = slots.capacity - count_by is_some (items_of slots);
  }

  -- the links lead along this queue and back, and its keys are distinct and present
  pub record IsQueue (slots : Slab (Slot T)) (first last : Option ℕ) (queue : List ℕ) : Type 0 where
    pub chain : IsChain (after_of slots first) (before_of slots last) None queue None
    pub distinct : AreDistinct queue
    pub present : (key : ℕ) → is_in key queue ≡ true → IsSome (get slots key)
