-- A call in progress as plain numbers.
use Rattle.std.specs.Prelude.{◌≡◌, ℕ, if◌then◌else◌, Option, Some, None}
use Rattle.pool_calls.specs.Words as operations
use Rattle.pool_calls.specs.Words.{is_set}
use Rattle.pool_host.specs.declared.call.Call.{Call}
use Rattle.pool_host.specs.declared.words.CallWords.{CallWords}

-- the ticket, if there is one
abbrev pub ticket_in : CallWords → Option ℕ
ticket_in w = if is_set w.has_ticket then Some w.ticket else None

-- the numbers are those of this call
pub record Reads (w : CallWords) (c : Call) : Type 0 where
  pub operation : operations.Reads w.operation c.operation
  pub token : w.token ≡ c.token
  pub ticket : ticket_in w ≡ c.ticket
  pub served : is_set w.was_served ≡ c.was_served
  pub longer : w.longer ≡ c.longer

-- the numbers are those of no call
abbrev pub ReadsNone : CallWords → Type 0
ReadsNone w = (c : Call) → Reads w c → ⊥
