-- The objects of the queue that were parked after a position.
use Rattle.std.specs.Prelude.{ℕ, Bool, true, nat_lt, Option, Some, None}
use Rattle.pool_journal.specs.declared.record.Record.{Record}

-- parked after the position; always true if there is none
abbrev pub is_after : Option ℕ → Record → Bool
is_after None r = true
is_after (Some k) r = nat_lt k r.parked
