-- The ticket of a call, and the tickets of the others.
use Rattle.std.specs.Prelude.{◌≡◌, ℕ, ◌==◌, ◌&&◌, ◌||◌, not, Bool, true, false, Option, Some, None}
use Rattle.pool_calls.specs.Waiting.{Queue, is_in}

-- it is the ticket of a call
abbrev pub is_ticket : ℕ → Option ℕ → Bool
is_ticket t None = false
is_ticket t (Some s) = t == s

-- the ticket of a call waits, if it has one
abbrev pub HoldsTicket : Queue → Option ℕ → Type 0
HoldsTicket q None = Unit {0}
HoldsTicket q (Some t) = is_in t q.waiting ≡ true

-- a call that had one ticket has another, or none: a ticket waits if it is the call's, or if it waited before and was not the
-- call's. One that the call drew did not wait before. Each is overtaken at most as often as before
pub record Queues (before after : Option ℕ) (old new : Queue) : Type 0 where
  pub most : new.most ≡ old.most
  pub waits : HoldsTicket old before → (t : ℕ) → is_in t new.waiting ≡ (is_ticket t after || (not (is_ticket t before) && is_in t old.waiting))
  pub fresh : HoldsTicket old before → (t : ℕ) → is_ticket t before ≡ false → is_ticket t after ≡ true → is_in t old.waiting ≡ false
