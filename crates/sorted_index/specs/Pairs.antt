-- The models of an index and of a queue: pairs in ascending order of id.
use Rattle.std.specs.Prelude.{ℕ, ◌==◌, ◌<◌, Bool, not, List, [], ◌∷◌, filter, find, Option, Some, None, ⊤}
use Rattle.std.specs.List.{AllByRecursion, list_any}
use Rattle.std.specs.Option.{option_map}
use Rattle.sorted_index.specs.declared.pair.Pair.{Pair}

-- the model of an index
pub record Rising : Type 0 where
  pub pairs : List Pair  -- in ascending order of id
  pub spare : ℕ  -- the number of pairs that can be added without memory

-- the model of a queue
pub record Row : Type 0 where
  pub pairs : List Pair  -- in ascending order of id
  pub capacity : ℕ  -- the number of pairs that need no further memory

-- the first of these pairs
abbrev pub first_of : List Pair → Option Pair
first_of [] = None
first_of (p ∷ ps) = Some p

-- one of these pairs has the id
abbrev pub has_id : ℕ → List Pair → Bool
has_id i ps = list_any (λ p. i == p.id) ps

-- the key of i, if there is one
abbrev pub key_of : List Pair → ℕ → Option ℕ
key_of ps i = option_map (λ p. p.key) (find (λ p. i == p.id) ps)

-- the pairs without that of i
abbrev pub without : ℕ → List Pair → List Pair
without i ps = filter (λ p. not (i == p.id)) ps

-- all ids are above n
abbrev pub IdsAbove : ℕ → List Pair → Type 0
IdsAbove n ps = AllByRecursion (λ p. n < p.id) ps

-- all ids are below n
abbrev pub IdsBelow : ℕ → List Pair → Type 0
IdsBelow n ps = AllByRecursion (λ p. p.id < n) ps

-- the ids are ascending
abbrev pub IsAscending : List Pair → Type 0
IsAscending [] = ⊤
IsAscending (p ∷ ps) = AllByRecursion (λ q. p.id < q.id) ps × IsAscending ps
