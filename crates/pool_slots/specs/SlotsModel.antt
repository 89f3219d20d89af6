-- The model of the slots: the objects under their keys, and the queue.
use Rattle.std.specs.Prelude.{◌≡◌, ◌≢◌, ℕ, Bool, true, false, not, eqb, if◌then◌else◌, List, [], ◌∷◌, ◌++◌, filter, Option, Some, None, is_some, IsSome, count_by, slice_index_or, ⊤}
use Rattle.std.specs.List.{list_any}
use Rattle.std.specs.Option.{option_map, option_and_then}
use Rattle.pool_journal.specs.declared.record.Record.{Record}
use Rattle.pool_journal.specs.Queue.{first_of, last_of}

-- an object: its record, and its value if one is stored
pub record Item (T : Type 0) : Type 0 where
  pub known : Record
  pub value : Option T

pub record SlotsModel (T : Type 0) : Type 0 where
  pub items : List (Option (Item T))  -- the object or nothing under each key, from 0 on
  pub queue : List ℕ  -- the keys in the queue, from first to last
  pub room : ℕ  -- the number of further objects that need no memory

-- the key is one of these
abbrev pub is_in : ℕ → List ℕ → Bool
is_in key keys = list_any (eqb key) keys

-- these keys without one
abbrev pub without : ℕ → List ℕ → List ℕ
without key keys = filter (λ other. not (eqb key other)) keys

-- no key occurs twice
abbrev pub AreDistinct : List ℕ → Type 0
AreDistinct [] = ⊤
AreDistinct (key ∷ keys) = (is_in key keys ≡ false) × AreDistinct keys

-- the key is present and equals x
abbrev pub is_key : Option ℕ → ℕ → Bool
is_key None x = false
is_key (Some key) x = eqb key x

-- these keys, with one more right before `next`, or at the end
abbrev pub put_before : Option ℕ → ℕ → List ℕ → List ℕ
put_before next key [] = key ∷ []
put_before next key (x ∷ keys) = if is_key next x then key ∷ x ∷ keys else x ∷ put_before next key keys

-- at each position of the key in the queue, `next` is the key after it
abbrev pub IsNextIn : List ℕ → ℕ → Option ℕ → Type 0
IsNextIn queue key next =
    (front back : List ℕ) → queue ≡ front ++ key ∷ back → next ≡ first_of back

-- at each position of the key in the queue, `previous` is the key before it
abbrev pub IsPreviousIn : List ℕ → ℕ → Option ℕ → Type 0
IsPreviousIn queue key previous =
    (front back : List ℕ) → queue ≡ front ++ key ∷ back → previous ≡ last_of front

module _ {T : Type 0} where
  -- the object under a key
  abbrev pub item_at : SlotsModel T → ℕ → Option (Item T)
  item_at r key = slice_index_or r.items key None

  -- the record of the object under a key
  abbrev pub known_at : SlotsModel T → ℕ → Option Record
  known_at r key = option_map (λ item. item.known) (item_at r key)

  -- the value that is stored under a key
  abbrev pub value_at : SlotsModel T → ℕ → Option T
  value_at r key = option_and_then (λ item. item.value) (item_at r key)

  -- the number of objects
  abbrev pub item_count : SlotsModel T → ℕ
  item_count r = count_by is_some r.items

  -- the key has this object or none, and each other key is unchanged
  pub record Sets (old new : SlotsModel T) (key : ℕ) (item : Option (Item T)) : Type 0 where
    pub changed : item_at new key ≡ item
    pub others : (other : ℕ) → other ≢ key → item_at new other ≡ item_at old other

  -- an object that has no value yet
  abbrev pub new_item : Record → Item T
  new_item known = record { known = known; value = None }

  -- the object with another record
  abbrev pub with_known : Record → Item T → Item T
  with_known known item = record item { known = known }

  -- the object with this value, or none
  abbrev pub with_value : Option T → Item T → Item T
  with_value value item = record item { value = value }

  -- each key in the queue occurs there once, and has an object
  pub record SlotsInvariant (r : SlotsModel T) : Type 0 where
    pub distinct : AreDistinct r.queue
    pub present : (key : ℕ) → is_in key r.queue ≡ true → IsSome (item_at r key)
