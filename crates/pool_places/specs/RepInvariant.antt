-- The invariant of the objects, the queue and the counts.
use Rattle.std.specs.Prelude.{◌≡◌, ℕ, true, List, Option, IfSome}
use Rattle.pool_slots.specs.SlotsModel.{SlotsModel, is_in}
use Rattle.sorted_index.specs.declared.pair.Pair.{Pair}
use Rattle.pool_places.specs.declared.last_uses.LastUses.{LastUses}
use Rattle.pool_places.specs.declared.place_counts.PlaceCounts.{PlaceCounts}
use Rattle.pool_places.specs.Counts.{IsCounts}
use Rattle.pool_places.specs.LastUses.{AreLastUses}
use Rattle.pool_places.specs.PlacesModel.{records_in, PlacesInvariant}
use Rattle.pool_places.specs.Stored.{objects_of, IndexInvariant, QueueInvariant}

-- the key is in the queue, if there is one
abbrev pub IsWithin : List ℕ → Option ℕ → Type 0
IsWithin queue o = IfSome o (λ key. is_in key queue ≡ true)

-- the objects are in order, these are their keys, queue, counts and last uses, and the remembered key is in the queue
pub record RepInvariant {T : Type 0} (rack : SlotsModel T) (pairs : List Pair) (counts : PlaceCounts) (from : Option ℕ) (uses : LastUses) : Type 0 where
  pub well_formed : PlacesInvariant (objects_of rack pairs)
  pub counted : IsCounts counts (records_in (objects_of rack pairs))
  pub tied : IndexInvariant rack pairs
  pub line : QueueInvariant rack
  pub remembered : IsWithin rack.queue from
  pub last_uses : AreLastUses uses (records_in (objects_of rack pairs))
