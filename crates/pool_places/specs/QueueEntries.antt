-- The queue as a list of entries, one for each object of the queue, in ascending order of position.
use Rattle.std.specs.Prelude.{◌≡◌, ℕ, ◌<◌, Bool, true, ◌&&◌, nat_lt, List, [], ◌∷◌, Option, Some, None, IsSomeAnd, ⊤, ◌⊎◌}
use Rattle.std.specs.List.{AllByRecursion}
use Rattle.pool_journal.specs.declared.record.Record.{Record}
use Rattle.pool_journal.specs.Queue.{is_idle, is_queued}

-- an object of the queue
pub record QueueEntry : Type 0 where
  pub parked : ℕ  -- its position
  pub id : ℕ
  pub is_idle : Bool  -- not under a test

-- the positions are ascending
abbrev pub IsAscendingQueue : List QueueEntry → Type 0
IsAscendingQueue [] = ⊤
IsAscendingQueue (q ∷ qs) = AllByRecursion (λ p. q.parked < p.parked) qs × IsAscendingQueue qs

-- idle, and parked after the position if there is one
abbrev pub is_wanted : Option ℕ → QueueEntry → Bool
is_wanted None q = q.is_idle
is_wanted (Some k) q = q.is_idle && nat_lt k q.parked

-- the entry is that of the record
pub record IsEntry (q : QueueEntry) (r : Record) : Type 0 where
  pub parked : r.parked ≡ q.parked
  pub queued : is_queued r.phase ≡ true
  pub idle : is_idle r.phase ≡ q.is_idle

-- one of the entries has this id
abbrev pub HasEntry : ℕ → List QueueEntry → Type 0
HasEntry i [] = ⊥
HasEntry i (q ∷ qs) = (q.id ≡ i) ⊎ HasEntry i qs

-- qs are the entries of the queue, if `record_of` maps each id to its record
pub record IsQueueOf (record_of : ℕ → Option Record) (qs : List QueueEntry) : Type 0 where
  pub ascending : IsAscendingQueue qs
  pub each : AllByRecursion (λ q. IsSomeAnd (record_of q.id) (IsEntry q)) qs
  pub all : (i : ℕ) → IsSomeAnd (record_of i) (λ r. is_queued r.phase ≡ true) → HasEntry i qs
