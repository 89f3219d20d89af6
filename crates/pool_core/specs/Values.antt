-- The effect of a step on the values.
use Rattle.std.specs.Prelude.{◌≡◌, ◌≢◌, ℕ, List, Option, None, IsSome, IsSomeAnd, is_some}
use Rattle.pool_journal.specs.Base.{phase_from}
use Rattle.pool_journal.specs.Entries.{id_of}
use Rattle.pool_journal.specs.Queue.{is_idle}
use Rattle.pool_journal.specs.declared.base.Base.{Base}
use Rattle.pool_journal.specs.declared.entry.Entry.{Entry}
use Rattle.pool_journal.specs.declared.input.Input.{Input}
use Rattle.pool_journal.specs.declared.answer.Answer.{Answer}
use Rattle.pool_journal.specs.declared.answer.Answer.TheVariants as answers
use Rattle.pool_places.specs.declared.place.Place.{Place}
use Rattle.pool_places.specs.PlacesModel.{value_in}

-- a value is stored under the ids of the objects that are idle after the entries J, which continue the base b, and under no
-- other
abbrev pub StoresIdleValuesFrom : {T : Type 0} → Base → List Entry → List (Place T) → Type 0
StoresIdleValuesFrom b J ps = (i : ℕ) → is_some (value_in ps i) ≡ is_idle (phase_from b i J)

-- no value changes
abbrev pub SameValues : {T : Type 0} → List (Place T) → List (Place T) → Type 0
SameValues old new = (j : ℕ) → value_in new j ≡ value_in old j

-- no value except that of i changes
abbrev pub OnlyAt : {T : Type 0} → ℕ → List (Place T) → List (Place T) → Type 0
OnlyAt i old new = (j : ℕ) → j ≢ i → value_in new j ≡ value_in old j

-- i keeps the value that was passed in
abbrev pub StoresValueAt : {T : Type 0} → ℕ → List (Place T) → List (Place T) → Option T → Option T → Type 0
StoresValueAt i old new handed out = (value_in new i ≡ handed) × (out ≡ None) × OnlyAt i old new

-- the value of i is returned
abbrev pub ReleasesValue : {T : Type 0} → ℕ → List (Place T) → List (Place T) → Option T → Type 0
ReleasesValue i old new out = (out ≡ value_in old i) × IsSome out × (value_in new i ≡ None) × OnlyAt i old new

-- the object that the input names keeps the value that was passed in
abbrev pub StoresValue : {T : Type 0} → Input → List (Place T) → List (Place T) → Option T → Option T → Type 0
StoresValue input old new handed out = IsSomeAnd (id_of input) (λ i. StoresValueAt i old new handed out)

-- the effect of an answer on the values: which are stored, and which is returned
abbrev pub TransfersValue : {T : Type 0} → Answer → Input → List (Place T) → List (Place T) → Option T → Option T → Type 0
TransfersValue (answers.Take i) input old new handed out = ReleasesValue i old new out
TransfersValue (answers.Test i) input old new handed out = ReleasesValue i old new out
TransfersValue (answers.DestroyIdle i) input old new handed out = ReleasesValue i old new out
TransfersValue answers.Parked input old new handed out = StoresValue input old new handed out
TransfersValue answers.Kept input old new handed out = StoresValue input old new handed out
TransfersValue _ input old new handed out = (out ≡ handed) × SameValues old new
