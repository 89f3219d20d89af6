-- The changes that calls make to the record of one object, and the conditions of these calls.
use Rattle.std.specs.Prelude.{◌≡◌, ◌≢◌, ℕ, ◌==◌, ◌<◌, Bool, true, false, not, if◌then◌else◌, List, map, filter, IsSomeAnd}
use Rattle.std.specs.List.{AllByRecursion}
use Rattle.pool_journal.specs.declared.record.Record.{Record}
use Rattle.pool_journal.specs.declared.record.Phase.{Phase}
use Rattle.pool_journal.specs.declared.record.Phase.TheVariants as phases
use Rattle.pool_journal.specs.Queue.{is_queued, record_in}

-- the records, with that of i changed
abbrev pub with_changed : ℕ → (Record → Record) → List Record → List Record
with_changed i change rs = map (λ r. if i == r.id then change r else r) rs

-- the records without that of i
abbrev pub without_id : ℕ → List Record → List Record
without_id i rs = filter (λ r. not (i == r.id)) rs

-- the record of an object that was just created
abbrev pub new_record : ℕ → Phase → Record
new_record i phase = record { id = i; phase = phase; parked = 0; since = 0; lent = 0; used = 0; is_new = true }

-- the record of the object in the phase
abbrev pub phase_set : Phase → Record → Record
phase_set phase r = record r { phase = phase; is_new = false }

-- the record of the object, lent at the time
abbrev pub lent_at : ℕ → Record → Record
lent_at at r = record r { phase = phases.Lent; lent = at; used = at; is_new = false }

-- the record of the lent object, used at the time
abbrev pub used_at : ℕ → Record → Record
used_at at r = record r { used = at }

-- the record of the object, parked at the position and the time
abbrev pub parked_at : ℕ → ℕ → Record → Record
parked_at parked since r = record r { phase = phases.Idle; parked = parked; since = since; is_new = false }

-- the phases in which an object is opened
abbrev pub opens_as : Phase → Bool
opens_as phases.Readying = true
opens_as phases.Adding = true
opens_as _ = false

-- the phases to which an object that isn't idle is set
abbrev pub sets_to : Phase → Bool
sets_to phases.Returning = true
sets_to phases.Destroying = true
sets_to _ = false

-- the phases to which an idle object is taken
abbrev pub takes_to : Phase → Bool
takes_to phases.Readying = true
takes_to phases.Testing = true
takes_to phases.Destroying = true
takes_to _ = false

-- the object i is present, in this phase
abbrev pub IsInPhase : List Record → ℕ → Phase → Type 0
IsInPhase rs i phase = IsSomeAnd (record_in rs i) (λ r. r.phase ≡ phase)

-- all ids are below i
abbrev pub IdsBelow : ℕ → List Record → Type 0
IdsBelow i rs = AllByRecursion (λ r. r.id < i) rs

-- no object of the queue has this position
abbrev pub IsFreePosition : ℕ → List Record → Type 0
IsFreePosition k rs = AllByRecursion (λ r. is_queued r.phase ≡ true → r.parked ≢ k) rs

-- all positions in the queue are below k
abbrev pub QueueBelow : ℕ → List Record → Type 0
QueueBelow k rs = AllByRecursion (λ r. is_queued r.phase ≡ true → r.parked < k) rs
