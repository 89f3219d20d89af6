-- One critical section: which inputs are permitted, what it returns, and the state that it leaves.
use Rattle.std.specs.Prelude.{◌≡◌, ℕ, Bool, true, false, List, [], ◌∷◌, ◌++◌, Option, None, Some, IsSomeAnd}
use Rattle.atomic_table.specs.Seated.{TableId}
use Rattle.pool_journal.specs.Entries.{move_of_entry, is_make_answer}
use Rattle.pool_journal.specs.declared.base.Base.{Base}
use Rattle.pool_journal.specs.declared.entry.Entry.{Entry}
use Rattle.pool_journal.specs.declared.input.Input.{Input}
use Rattle.pool_journal.specs.declared.input.Input.TheVariants.{Ready, Park, Added, Tested, Destroyed}
use Rattle.pool_journal.specs.declared.answer.Answer.{Answer}
use Rattle.pool_journal.specs.declared.answer.Answer.TheVariants as answers
use Rattle.pool_journal.specs.declared.record.Phase.{Phase}
use Rattle.pool_journal.specs.declared.record.Phase.TheVariants as phases
use Rattle.pool_places.specs.declared.place.Place.{Place}
use Rattle.pool_places.specs.PlacesModel.{value_in}
use Rattle.pool_settings.specs.declared.settings.Settings.{Settings}
use Rattle.pool_core.specs.declared.step_fault.StepFault.{StepFault}
use Rattle.pool_core.specs.declared.step_fault.StepFault.TheVariants.{JournalFull, OutOfMemory}
use Rattle.pool_core.specs.Completion.{is_completing}
use Rattle.pool_core.specs.Fits.{FitsLimitFrom, ExceedsLimitFrom}
use Rattle.pool_core.specs.Laws.{SafetyProperties}
use Rattle.pool_core.specs.Legal.{IsLegal, entry_of, expected_entry}
use Rattle.pool_core.specs.Pool.{CoreModel}
use Rattle.pool_core.specs.Reply.{reply}
use Rattle.pool_history.specs.declared.brands.View.{View}
use Rattle.pool_history.specs.CellInvariant.{authority}
use Rattle.pool_history.specs.CallerStates.{CallerState}
use Rattle.pool_history.specs.Segments.{IsStoredSegment, FitsAfter}
use Rattle.pool_history.specs.Ownership.{IsOwnerRespecting, IsReadyOutcome, IsParkOutcome, IsAddOutcome, IsTestOutcome}

-- each stored value has this property
abbrev pub AllKept : {T : Type 0} → (T → Type 0) → List (Place T) → Type 0
AllKept {T} P ps = (i : ℕ) (v : T) → value_in ps i ≡ Some v → P v

-- the lock invariant: the authoritative pass is of this cell; its history is legal and owner-respecting, and has the safety
-- properties; the core's base and journal are the stored segment of that history; and each stored value is passive
pub record LockInvariant {T : Type 0} (table : TableId) (s : Settings) (callers : ℕ) (P : T → Type 0) (id : TableId) (core : CoreModel T) (v : View) : Type 0 where
  pub here : id ≡ table
  pub settings : core.settings ≡ s
  pub knows : v ≡ authority s v.history callers v.cut_positions []
  pub ends : IsStoredSegment v.cut_positions v.history core.base core.journal
  pub legal : IsLegal s v.history
  pub owner_respecting : IsOwnerRespecting v.history
  pub laws : SafetyProperties s v.history
  pub kept : AllKept P core.places

-- the caller owns the object: its last entry moved the object to this phase, and was or was not the one that made it
pub record OwnsObject (me : CallerState) (i : ℕ) (p : Phase) (new : Bool) : Type 0 where
  pub appended : List Entry
  pub e : Entry
  pub last : me.appended ≡ appended ++ e ∷ []
  pub moved : move_of_entry e ≡ Some (i, p)
  pub is_new : is_make_answer e.answer ≡ new

-- an input is permitted: one that continues an object comes from the caller that owns it, and reports a possible outcome
abbrev pub IsPermitted : CallerState → Input → Type 0
IsPermitted me (Ready i o) = (new : Bool) × OwnsObject me i phases.Readying new × IsReadyOutcome new o
IsPermitted me (Park i o) = (new : Bool) × OwnsObject me i phases.Returning new × IsParkOutcome o
IsPermitted me (Added i o) = (new : Bool) × OwnsObject me i phases.Adding new × IsAddOutcome o
IsPermitted me (Tested i o) = (new : Bool) × OwnsObject me i phases.Testing new × IsTestOutcome o
IsPermitted me (Destroyed i) = (new : Bool) × OwnsObject me i phases.Destroying new
IsPermitted me _ = Unit {0}

-- whether an input continues an object
abbrev pub continues_object : Input → Bool
continues_object (Ready i o) = true
continues_object (Park i o) = true
continues_object (Added i o) = true
continues_object (Tested i o) = true
continues_object (Destroyed i) = true
continues_object _ = false

-- the caller has appended this entry, and it is the last that it has observed
pub record AppendsEntry (e : Entry) (before after : CallerState) : Type 0 where
  pub more : after.appended ≡ before.appended ++ e ∷ []
  pub found : List Entry
  pub ends : after.observed ≡ found ++ e ∷ []

-- the caller has appended one entry, with this input and this answer
abbrev pub AppendsAnswer : Input → Answer → CallerState → CallerState → Type 0
AppendsAnswer input a before after = (at : ℕ) × AppendsEntry (entry_of before.number at input a) before after

-- the returned value: a passive one if the answer takes one, none if the answer stores it, otherwise the one passed in
abbrev pub ReturnsValue : {T : Type 0} → (T → Type 0) → Answer → Option T → Option T → Type 0
ReturnsValue P (answers.Take i) handed out = IsSomeAnd out P
ReturnsValue P (answers.Test i) handed out = IsSomeAnd out P
ReturnsValue P (answers.DestroyIdle i) handed out = IsSomeAnd out P
ReturnsValue P answers.Parked handed out = out ≡ None
ReturnsValue P answers.Kept handed out = out ≡ None
ReturnsValue P _ handed out = out ≡ handed

-- a critical section failed at this time: the entry expected then, after the observed entries, is not one of a completing step,
-- and the stored entries (those after the last cut) with this entry have this property
pub record IsFailedStep (Are : Settings → Base → List Entry → Type 0) (s : Settings) (input : Input) (me : CallerState) (at : ℕ) : Type 0 where
  pub unfinished : is_completing (reply s me.observed at input) input ≡ false
  pub base : Base
  pub stored : List Entry
  pub ends : IsStoredSegment me.cut_positions me.observed base stored
  pub are : Are s base (stored ++ expected_entry s me.observed me.number at input ∷ [])

-- the entry expected at this time does not fit
abbrev pub LacksRoom : Settings → Input → CallerState → ℕ → Type 0
LacksRoom = IsFailedStep ExceedsLimitFrom

-- the entry expected at this time fits
abbrev pub LacksMemory : Settings → Input → CallerState → ℕ → Type 0
LacksMemory = IsFailedStep FitsLimitFrom

-- a critical section failed for lack of room
abbrev pub IsFullFor : Settings → Input → CallerState → Type 0
IsFullFor s input me = (at : ℕ) × LacksRoom s input me at

-- a critical section failed for lack of memory
abbrev pub IsShortFor : Settings → Input → CallerState → Type 0
IsShortFor s input me = (at : ℕ) × LacksMemory s input me at

-- the error is the one that happened, and the value passed in is returned
abbrev pub IsWhy : {T : Type 0} → Settings → Input → Option T → StepFault T → CallerState → Type 0
IsWhy s input handed (JournalFull out) me = IsFullFor s input me × (out ≡ handed)
IsWhy s input handed (OutOfMemory out) me = IsShortFor s input me × (out ≡ handed)

-- a critical section failed, and the caller has appended nothing
pub record Refuses {T : Type 0} (s : Settings) (input : Input) (handed : Option T) (f : StepFault T) (before after : CallerState) : Type 0 where
  pub same : after.appended ≡ before.appended
  pub error : IsWhy s input handed f after

-- the history, with these cuts, has one more entry: the answer to this caller's input, at some time; and it fitted
abbrev pub AppendsOne : Settings → List ℕ → ℕ → Input → Answer → List Entry → List Entry → Type 0
AppendsOne s cut_positions n input a old new = (at : ℕ) × (new ≡ old ++ entry_of n at input a ∷ []) × FitsAfter s cut_positions old (entry_of n at input a)
