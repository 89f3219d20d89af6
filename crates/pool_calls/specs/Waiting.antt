-- The model of the waiters.
use Rattle.std.specs.Prelude.{◌≡◌, ℕ, ◌+◌, ◌-◌, ◌^◌, ◌<◌, ◌≤◌, min, not, nat_lt, nat_le, ◌==◌, ◌&&◌, ◌||◌, Bool, true, false, List, [], ◌∷◌, filter, length, take, Some, slice_get, ⊤}
use Rattle.std.specs.List.{AllByRecursion, list_any}
use Rattle.std.specs.Option.{option_map}

-- a ticket that waits
pub record Waiter : Type 0 where
  pub ticket : ℕ
  pub overtaken : ℕ  -- how often it counted that a newcomer took what it could have had
  pub since : ℕ  -- the time at which it began to wait

-- the model of the waiters
pub record Queue : Type 0 where
  pub waiting : List Waiter  -- in the order of arrival
  pub signalled : ℕ  -- the number of those that are signalled: the first ones
  pub spare : ℕ  -- the number of further tickets that need no memory
  pub latest : ℕ  -- the greatest time so far at which one began to wait
  pub drawn : ℕ  -- the number of tickets that were drawn
  pub overtakes : ℕ  -- the number of all overtakes that counted
  pub millis : ℕ  -- for how long a ticket waits, in milliseconds, before overtakes count
  pub most : ℕ  -- how often a ticket is overtaken at most, of those that count

-- the ticket is one of these
abbrev pub is_in : ℕ → List Waiter → Bool
is_in t ws = list_any (λ w. t == w.ticket) ws

-- these waiters without one
abbrev pub without : ℕ → List Waiter → List Waiter
without t ws = filter (λ w. not (t == w.ticket)) ws

-- the waiters that are signalled
abbrev pub signalled_of : Queue → List Waiter
signalled_of q = take q.signalled q.waiting

-- a waiter that came last, at this time, and was not overtaken
abbrev pub newest : ℕ → ℕ → Waiter
newest t at = record { ticket = t; overtaken = 0; since = at }

-- the waiter, overtaken once more
abbrev pub overtaken_once : Waiter → Waiter
overtaken_once w = record w { overtaken = w.overtaken + 1 }

-- how often the oldest waiter was overtaken, as often as any: 0 if none waits
abbrev pub most_overtaken : List Waiter → ℕ
most_overtaken [] = 0
most_overtaken (w ∷ ws) = w.overtaken

-- the tickets are in the order in which they were drawn, and none began to wait before an earlier one
abbrev pub IsByArrival : List Waiter → Type 0
IsByArrival [] = ⊤
IsByArrival (w ∷ ws) = AllByRecursion (λ v. w.ticket < v.ticket) ws × AllByRecursion (λ v. w.since ≤ v.since) ws × IsByArrival ws

-- each ticket was overtaken at most so often
abbrev pub IsFair : Queue → Type 0
IsFair q = AllByRecursion (λ w. w.overtaken ≤ q.most) q.waiting

-- with so many objects and places available, as many are signalled, or all that wait
abbrev pub IsSettled : ℕ → Queue → Type 0
IsSettled available q = q.signalled ≡ min available (length q.waiting)

-- the oldest ticket that sleeps is signalled, for one of the available objects and places
pub record Signals (available : ℕ) (old new : Queue) (ticket : ℕ) : Type 0 where
  pub oldest : option_map (λ w. w.ticket) (slice_get old.waiting (min available old.signalled)) ≡ Some ticket
  pub counted : new.signalled ≡ min available old.signalled + 1
  pub within : new.signalled ≤ available

-- the oldest waiter has waited for so long at this time
abbrev pub is_due : ℕ → ℕ → List Waiter → Bool
is_due millis at [] = false
is_due millis at (w ∷ ws) = nat_le millis (at - w.since)

-- a newcomer that takes one of these objects and places overtakes the waiters, and that counts: one of them has waited for long enough
abbrev pub counts_overtake : ℕ → ℕ → Queue → Bool
counts_overtake available at q = is_due q.millis at q.waiting && nat_le available (length q.waiting)

-- the first may be overtaken once more
abbrev pub can_pass : ℕ → ℕ → List Waiter → Bool
can_pass overtakes most [] = true
can_pass overtakes most (w ∷ ws) = nat_lt w.overtaken most && nat_lt overtakes (2 ^ 64 - 1)

-- a newcomer may look: it doesn't count if it takes something, or it may overtake the waiters once more
abbrev pub may_lend : ℕ → ℕ → Queue → Bool
may_lend available at q = not (counts_overtake available at q) || can_pass q.overtakes q.most q.waiting

-- there is a limit to how often a waiter is overtaken
abbrev pub is_limited : Queue → Bool
is_limited q = nat_lt q.most (2 ^ 31 - 1)

-- once any of the waiters has waited for so long, so has the oldest, and overtakes count
abbrev pub CountsOnceDue : Type 0
CountsOnceDue = (millis at : ℕ) (ws : List Waiter) → IsByArrival ws → AllByRecursion (λ w. millis ≤ at - w.since → is_due millis at ws ≡ true) ws
