-- When lent objects were last used, by a list that has some of their last uses.
use Rattle.std.specs.Prelude.{◌≡◌, ◌≢◌, ◌⊎◌, ℕ, ◌≤◌, ◌<◌, true, List, length, slice_index_or}
use Rattle.std.specs.List.{AllByRecursion, Contains}
use Rattle.std.specs.List.Sorted.{IsNonDecreasingBy}
use Rattle.pool_journal.specs.declared.record.Record.{Record}
use Rattle.pool_places.specs.declared.last_uses.LastUse.{LastUse}
use Rattle.pool_places.specs.declared.last_uses.LastUses.{LastUses}
use Rattle.pool_places.specs.Overdue.{is_lent}

-- the last use of a lent object
abbrev pub use_of : Record → LastUse
use_of r = record { id = r.id; at = r.used }

-- no lent object has this last use
abbrev pub IsUnused : LastUse → List Record → Type 0
IsUnused one rs = AllByRecursion (λ r. is_lent r.phase ≡ true → r.id ≡ one.id → r.used ≢ one.at) rs

-- the list has all uses of another one
abbrev pub HasAll : List LastUse → List LastUse → Type 0
HasAll order other = (one : LastUse) → Contains other one → Contains order one

-- the list has the last use of each lent object
abbrev pub IsListed : List LastUse → List Record → Type 0
IsListed order rs = AllByRecursion (λ r. is_lent r.phase ≡ true → Contains order (use_of r)) rs

abbrev pub IsAscending : List LastUse → Type 0
IsAscending order = IsNonDecreasingBy (λ one. one.at) order

-- the list has this use, after the first ones
abbrev pub HasAfter : ℕ → List LastUse → LastUse → Type 0
HasAfter passed order one = (k : ℕ) × (passed ≤ k) × (k < length order) × (slice_index_or order k one ≡ one)

-- each lent object was last used at the time or later, or the list has its last use after the first ones
abbrev pub IsCovered : ℕ → ℕ → List LastUse → List Record → Type 0
IsCovered recent passed order rs = AllByRecursion (λ r. is_lent r.phase ≡ true → (recent ≤ r.used) ⊎ HasAfter passed order (use_of r)) rs

-- the list ascends, and has the last use of each lent object that was last used before the time
pub record AreLastUses (uses : LastUses) (rs : List Record) : Type 0 where
  pub ascending : IsAscending uses.order.items
  pub within : uses.passed ≤ length uses.order.items
  pub covered : IsCovered uses.recent uses.passed uses.order.items rs
