-- What the tests preserve of the records.
use Rattle.std.specs.Prelude.{ℕ, ◌<◌, List}
use Rattle.std.specs.List.{AllByRecursion}
use Rattle.pool_journal.specs.declared.record.Record.{Record}

-- each id and each position in the queue is less than the time
abbrev pub AllBefore : ℕ → List Record → Type 0
AllBefore n rs = AllByRecursion (λ r. (r.id < n) × (r.parked < n)) rs
