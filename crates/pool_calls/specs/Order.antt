-- The queues behind the waiters. No public clause cites this module.
use Rattle.std.specs.Prelude.{◌≡◌, ℕ, min, ◌+◌, ◌-◌, ◌≤◌, List, [], ◌∷◌, ◌++◌, length, unwrap_or, ⊤}
use Rattle.std.specs.List.{AllByRecursion}
use Rattle.sorted_index.specs.declared.pair.Pair.{Pair}
use Rattle.sorted_index.specs.Pairs.{Row, IsAscending, IdsBelow, key_of}
use Rattle.pool_calls.specs.Waiting.{Waiter}

-- the time at which a ticket began to wait
abbrev pub since_of : List Pair → ℕ → ℕ
since_of times ticket = unwrap_or (key_of times ticket) 0

-- the ticket of a pair, after so many overtakes
abbrev pub waiter_of : ℕ → List Pair → Pair → Waiter
waiter_of overtakes times p = record { ticket = p.id; overtaken = overtakes - p.key; since = since_of times p.id }

-- no ticket was overtaken more often than `most` times, and an earlier one at least as often as a later one
abbrev pub AreFair : ℕ → ℕ → List Pair → Type 0
AreFair overtakes most [] = ⊤
AreFair overtakes most (p ∷ ps) = (p.key ≤ overtakes) × (overtakes ≤ p.key + most) × AllByRecursion (λ q. p.key ≤ q.key) ps × AreFair overtakes most ps

-- each ticket has its time, which is none before that of an earlier one or after the latest
abbrev pub AreTimed : ℕ → List Pair → List Pair → Type 0
AreTimed latest [] [] = ⊤
AreTimed latest (p ∷ ps) (t ∷ ts) = (t.id ≡ p.id) × (t.key ≤ latest) × AllByRecursion (λ u. t.key ≤ u.key) ts × AreTimed latest ps ts
AreTimed latest _ _ = ⊥

-- the tickets are ascending over both queues, and each queue has memory for all of them
pub record IsQueue (signalled asleep times : Row) (latest drawn overtakes most : ℕ) : Type 0 where
  pub ascending : IsAscending (signalled.pairs ++ asleep.pairs)
  pub drawn_before : IdsBelow drawn (signalled.pairs ++ asleep.pairs)
  pub fair : AreFair overtakes most (signalled.pairs ++ asleep.pairs)
  pub timed : AreTimed latest (signalled.pairs ++ asleep.pairs) times.pairs
  pub fit : length (signalled.pairs ++ asleep.pairs) ≤ min (min signalled.capacity asleep.capacity) times.capacity
