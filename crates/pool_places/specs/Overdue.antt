-- The abandoned objects: lent, and not used for the timeout.
use Rattle.std.specs.Prelude.{◌≡◌, ℕ, ◌-◌, ◌≤◌, Bool, true, false, ◌&&◌, nat_le, List, filter}
use Rattle.std.specs.List.{AllByRecursion}
use Rattle.pool_journal.specs.declared.record.Record.{Record}
use Rattle.pool_journal.specs.declared.record.Phase.{Phase}
use Rattle.pool_journal.specs.declared.record.Phase.TheVariants as phases

abbrev pub is_lent : Phase → Bool
is_lent phases.Lent = true
is_lent _ = false

-- lent, and at the time not used for the timeout
abbrev pub is_overdue : ℕ → ℕ → Record → Bool
is_overdue at timeout r = is_lent r.phase && nat_le timeout (at - r.used)

-- the records of the abandoned objects, in ascending order of id
abbrev pub overdue : ℕ → ℕ → List Record → List Record
overdue at timeout rs = filter (is_overdue at timeout) rs

-- no lent object was last used before the time
abbrev pub IsBound : ℕ → List Record → Type 0
IsBound n rs = AllByRecursion (λ r. is_lent r.phase ≡ true → n ≤ r.used) rs
