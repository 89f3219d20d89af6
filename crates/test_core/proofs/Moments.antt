-- What the tests preserve of the records.
use Rattle.std.proofs.Common.{◌≡◌, ℕ, ◌+◌, ◌<◌, ◌==◌, Bool, true, false, not, cond, if◌then◌else◌, List, [], ◌∷◌, arith}
use Rattle.pool_journal.specs.declared.record.Record.{Record}
use Rattle.pool_places.specs.Changes.{with_changed, without_id}
use Rattle.test_core.specs.Before.{AllBefore}

pub before_later : (n : ℕ) (rs : List Record) → AllBefore n rs → AllBefore (n + 1) rs
before_later n [] all = tt
before_later n (r ∷ rs) all = ((omega (arith, all.0.0), omega (arith, all.0.1)), before_later n rs all.1)

pub before_changed : (n i : ℕ) (change : Record → Record) (rs : List Record) → ((r : Record) → (change r).id ≡ r.id) → ((r : Record) → r.parked < n → (change r).parked < n + 1) → AllBefore n rs → AllBefore (n + 1) (with_changed i change rs)
before_changed n i change [] same under all = tt
before_changed n i change (r ∷ rs) same under all = (by_test (i == r.id), before_changed n i change rs same under all.1)
  where
    by_test : (b : Bool) → ((if b then change r else r).id < n + 1) × ((if b then change r else r).parked < n + 1)
    by_test true = (omega (arith, same r, all.0.0), under r all.0.1)
    by_test false = (omega (arith, all.0.0), omega (arith, all.0.1))

pub before_without : (n i : ℕ) (rs : List Record) → AllBefore n rs → AllBefore (n + 1) (without_id i rs)
before_without n i [] all = tt
before_without n i (r ∷ rs) all = by_test (not (i == r.id)) (before_without n i rs all.1)
  where
    by_test : (b : Bool) → AllBefore (n + 1) (without_id i rs) → AllBefore (n + 1) (cond b (r ∷ without_id i rs) (without_id i rs))
    by_test true later = ((omega (arith, all.0.0), omega (arith, all.0.1)), later)
    by_test false later = later
