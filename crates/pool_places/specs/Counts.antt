-- The counts of the objects.
use Rattle.std.specs.Prelude.{◌≡◌, ℕ, ◌+◌, ◌<◌, ◌≤◌, ◌^◌, Bool, true, false, List, length, count_by, Option, Some, None}
use Rattle.std.specs.Int.{from_bool}
use Rattle.std.specs.List.{sum_by}
use Rattle.pool_journal.specs.Queue.{is_idle, is_queued, queue_length}
use Rattle.pool_places.specs.Overdue.{is_lent}
use Rattle.pool_places.specs.declared.place_counts.PlaceCounts.{PlaceCounts}
use Rattle.pool_journal.specs.declared.record.Record.{Record}
use Rattle.pool_journal.specs.declared.record.Phase.{Phase}
use Rattle.pool_journal.specs.declared.record.Phase.TheVariants as phases

abbrev pub is_adding : Phase → Bool
is_adding phases.Adding = true
is_adding _ = false

-- the most entries that an object in this phase may still need until its place is free
abbrev pub max_remaining : Phase → ℕ
max_remaining phases.Readying = 5
max_remaining phases.Lent = 4
max_remaining phases.Returning = 3
max_remaining phases.Testing = 3
max_remaining phases.Adding = 3
max_remaining phases.Idle = 2
max_remaining phases.Destroying = 1
max_remaining phases.Absent = 0
max_remaining phases.Gone = 0

-- the outstanding entries: the most that all objects may still need
abbrev pub owed_for : List Record → ℕ
owed_for rs = sum_by (λ r. max_remaining r.phase) rs

-- the most entries that an object may still need, and 0 if it is not present
abbrev pub weight_of : Option Record → ℕ
weight_of None = 0
weight_of (Some r) = max_remaining r.phase

-- c has the counts of the objects with these records
pub record IsCounts (c : PlaceCounts) (rs : List Record) : Type 0 where
  pub present : c.present ≡ length rs
  pub queue : c.queue ≡ queue_length rs
  pub idle : c.idle ≡ count_by (λ r. is_idle r.phase) rs
  pub lent : c.lent ≡ count_by (λ r. is_lent r.phase) rs
  pub adding : c.adding ≡ count_by (λ r. is_adding r.phase) rs
  pub owed : c.owed ≡ owed_for rs

-- b has one object more than a, in this phase
pub record HasOneMore (a b : PlaceCounts) (phase : Phase) : Type 0 where
  pub present : b.present ≡ a.present + 1
  pub queue : b.queue ≡ a.queue + from_bool (is_queued phase)
  pub idle : b.idle ≡ a.idle + from_bool (is_idle phase)
  pub lent : b.lent ≡ a.lent + from_bool (is_lent phase)
  pub adding : b.adding ≡ a.adding + from_bool (is_adding phase)
  pub owed : b.owed ≡ a.owed + max_remaining phase

-- each count is at least that of one object in this phase
pub record HasOne (c : PlaceCounts) (phase : Phase) : Type 0 where
  pub present : 1 ≤ c.present
  pub queue : from_bool (is_queued phase) ≤ c.queue
  pub idle : from_bool (is_idle phase) ≤ c.idle
  pub lent : from_bool (is_lent phase) ≤ c.lent
  pub adding : from_bool (is_adding phase) ≤ c.adding
  pub owed : max_remaining phase ≤ c.owed

-- each count is below 2^63
pub record IsSmall (c : PlaceCounts) : Type 0 where
  pub present : c.present < 2 ^ 63
  pub queue : c.queue < 2 ^ 63
  pub idle : c.idle < 2 ^ 63
  pub lent : c.lent < 2 ^ 63
  pub adding : c.adding < 2 ^ 63
  pub owed : c.owed < 2 ^ 63
