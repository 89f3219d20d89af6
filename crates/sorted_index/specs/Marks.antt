-- Stored pairs, some of them marked as removed.
use Rattle.std.specs.Prelude.{◌≡◌, ◌≢◌, ℕ, ◌+◌, ◌<◌, ◌≤◌, Bool, false, not, List, [], ◌∷◌, map, filter, length, count_by, All}
use Rattle.std.specs.List.{HoldsAt}
use Rattle.sorted_index.specs.declared.pair.Pair.{Pair}
use Rattle.sorted_index.specs.declared.stored.Stored.{Stored}
use Rattle.sorted_index.specs.Pairs.{IsAscending}

-- the pair is not marked
abbrev pub is_there : Stored → Bool
is_there s = not s.is_gone

-- all pairs that are stored
abbrev pub all_in : List Stored → List Pair
all_in ss = map (λ s. s.pair) ss

-- the present pairs: those that are not marked
abbrev pub pairs_in : List Stored → List Pair
pairs_in ss = all_in (filter is_there ss)

-- the first pair is marked
abbrev pub starts_gone : List Stored → Bool
starts_gone [] = false
starts_gone (s ∷ ss) = s.is_gone

-- the last of s and the pairs after it is marked
abbrev pub is_last_gone : Stored → List Stored → Bool
is_last_gone s [] = s.is_gone
is_last_gone s (t ∷ ss) = is_last_gone t ss

-- the last pair is marked
abbrev pub ends_gone : List Stored → Bool
ends_gone [] = false
ends_gone (s ∷ ss) = is_last_gone s ss

-- i is stored at position k
pub record IsStoredAt (ss : List Stored) (i k : ℕ) : Type 0 where
  pub in_range : k < length ss
  pub has_id : HoldsAt (λ s. s.pair.id ≡ i) ss k

-- i is stored at position k, and not marked
pub record IsThereAt (ss : List Stored) (i k : ℕ) : Type 0 where
  pub stored : IsStoredAt ss i k
  pub is_there : HoldsAt (λ s. s.is_gone ≡ false) ss k

-- i is not stored
abbrev pub IsNowhere : List Stored → ℕ → Type 0
IsNowhere ss i = All (λ s. s.pair.id ≢ i) ss

-- the ids of all stored pairs are ascending, and `gone` pairs are marked
pub record IsCounted (ss : List Stored) (gone : ℕ) : Type 0 where
  pub ascending : IsAscending (all_in ss)
  pub counted : gone ≡ count_by (λ s. s.is_gone) ss

-- the stored pairs of an index are counted, the last is present, and at most half of them are marked
pub record IsTidy (ss : List Stored) (gone : ℕ) : Type 0 where
  pub counted : IsCounted ss gone
  pub last : ends_gone ss ≡ false
  pub mostly_there : gone + gone ≤ length ss

-- the stored pairs of a queue are counted, and the first and the last are present
pub record IsTrimmed (ss : List Stored) (gone : ℕ) : Type 0 where
  pub counted : IsCounted ss gone
  pub first : starts_gone ss ≡ false
  pub last : ends_gone ss ≡ false
