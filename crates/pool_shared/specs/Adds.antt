-- The trace of an addition, and its result.
use Rattle.std.specs.Prelude.{◌≡◌, true, Result, Ok, Err}
use Rattle.pool_journal.specs.declared.input.Input.{Input}
use Rattle.pool_journal.specs.declared.input.Input.TheVariants.{Add}
use Rattle.pool_journal.specs.declared.input.Outcome.{Outcome}
use Rattle.pool_journal.specs.declared.input.Outcome.TheVariants as outcomes
use Rattle.pool_settings.specs.declared.settings.Settings.{Settings}
use Rattle.pool_calls.specs.declared.action.End.{End}
use Rattle.pool_calls.specs.declared.action.End.TheVariants as ends
use Rattle.pool_calls.specs.declared.kind.Kind.TheVariants as kinds
use Rattle.pool_calls.specs.declared.stage.Stage.{Stage}
use Rattle.pool_calls.specs.declared.stage.Stage.TheVariants as stages
use Rattle.pool_history.specs.CallerStates.{CallerState}
use Rattle.pool_lock.specs.Sections.{IsFullFor, IsShortFor}
use Rattle.pool_shared.specs.declared.faults.Addition.{Addition}
use Rattle.pool_shared.specs.declared.faults.Addition.TheVariants as additions
use Rattle.pool_shared.specs.declared.faults.AddFault.{AddFault}
use Rattle.pool_shared.specs.declared.faults.AddFault.TheVariants as faults
use Rattle.pool_shared.specs.declared.adding.PrepareError.{PrepareError}
use Rattle.pool_shared.specs.declared.adding.PrepareError.TheVariants as unfit
use Rattle.pool_shared.specs.Stages.{asks}
use Rattle.pool_shared.specs.Traces.{EndsWithOwn}
use Rattle.pool_shared.specs.TraceToResult.{TraceToResult}

-- the end of an addition in which nothing failed
abbrev pub shelved : Addition → End
shelved additions.Idle = ends.Parked
shelved additions.Destroyed = ends.Destroyed
shelved additions.NoPlace = ends.NoPlace

-- the stage of an addition with this result; if it asks, that critical section failed
abbrev pub ending : {E : Type 0} → Result Addition (AddFault E) → Stage
ending (Ok a) = stages.Ends (shelved a)
ending (Err faults.Closed) = stages.Ends ends.Closed
ending (Err (faults.MakeFailed f)) = stages.Ends ends.MakeFailed
ending (Err faults.CreateTestFailed) = stages.Ends ends.CreateTestFailed
ending (Err (faults.PassivateFailed f)) = stages.Ends ends.PassivateFailed
ending (Err faults.JournalFull) = asks
ending (Err faults.OutOfMemory) = asks

-- the state of a caller at the end: its last entry ends the observed history, or, if the critical section failed, the journal
-- has no room for the entry, or has room, as the error states
abbrev pub FinalState : {A E : Type 0} → Settings → Input → Result A (AddFault E) → CallerState → Type 0
FinalState s input (Err faults.JournalFull) me = IsFullFor s input me
FinalState s input (Err faults.OutOfMemory) me = IsShortFor s input me
FinalState s input _ me = EndsWithOwn me

-- the result of an addition at this stage, with the state of its caller
abbrev pub AddEnds : {E : Type 0} → Settings → Stage → Result Addition (AddFault E) → CallerState → Type 0
AddEnds s stage result me = (stage ≡ ending result) × FinalState s Add result me

-- the trace of an addition
abbrev pub AddSpec : {E : Type 0} → Settings → Result Addition (AddFault E) → CallerState → CallerState → Type 0
AddSpec s result before after = TraceToResult s kinds.Add (AddEnds s) asks result before after

-- an error of the factory is from the call that failed, `make` or `passivate`
abbrev pub IsAddFaultFrom : {E : Type 0} → (E → Type 0) → (E → Type 0) → AddFault E → Type 0
IsAddFaultFrom make passivate (faults.MakeFailed f) = make f
IsAddFaultFrom make passivate (faults.PassivateFailed f) = passivate f
IsAddFaultFrom make passivate _ = Unit {0}

-- the reason why a made object can't become idle: its first test, which is set, or the factory's error
abbrev pub IsWhyUnfit : {E : Type 0} → Settings → (E → Type 0) → PrepareError E → Type 0
IsWhyUnfit s passivate unfit.Test = s.test_on_create ≡ true
IsWhyUnfit s passivate (unfit.Passivate f) = passivate f

-- an outcome with which a made object fails
abbrev pub IsFailure : Settings → Outcome → Type 0
IsFailure s outcomes.CreateTestFailed = s.test_on_create ≡ true
IsFailure s outcomes.PassivateFailed = Unit {0}
IsFailure s o = ⊥

-- the addition found a free place
abbrev pub IsPlaced : Addition → Type 0
IsPlaced additions.NoPlace = ⊥
IsPlaced _ = Unit {0}

-- a result of an addition that made an object
abbrev pub IsStocked : {E : Type 0} → Result Addition (AddFault E) → Type 0
IsStocked (Ok a) = IsPlaced a
IsStocked (Err faults.Closed) = ⊥
IsStocked (Err faults.JournalFull) = ⊥
IsStocked (Err faults.OutOfMemory) = ⊥
IsStocked (Err _) = Unit {0}
