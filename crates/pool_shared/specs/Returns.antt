-- The trace of a return, and its result.
use Rattle.std.specs.Prelude.{◌≡◌, ◌≢◌, ℕ, true, false, Result, Ok, Err}
use Rattle.pool_journal.specs.Journal.{phase}
use Rattle.pool_journal.specs.declared.input.Input.TheVariants.{GiveBack}
use Rattle.pool_journal.specs.declared.input.Outcome.{Outcome}
use Rattle.pool_journal.specs.declared.record.Phase.TheVariants as phases
use Rattle.pool_settings.specs.declared.settings.Settings.{Settings}
use Rattle.pool_history.specs.CallerStates.{CallerState}
use Rattle.pool_lock.specs.Sections.{IsFullFor, IsShortFor}
use Rattle.pool_calls.specs.declared.action.End.TheVariants as ends
use Rattle.pool_calls.specs.declared.kind.Kind.TheVariants as kinds
use Rattle.pool_calls.specs.declared.stage.Stage.{Stage}
use Rattle.pool_calls.specs.declared.stage.Stage.TheVariants as stages
use Rattle.pool_calls.specs.Tasks.{allows, work_of}
use Rattle.pool_shared.specs.declared.faults.ReturnFault.{ReturnFault}
use Rattle.pool_shared.specs.declared.faults.ReturnFault.TheVariants as faults
use Rattle.pool_shared.specs.declared.faults.Returned.{Returned}
use Rattle.pool_shared.specs.declared.faults.Returned.TheVariants as returned
use Rattle.pool_shared.specs.declared.lent.Lent.{Lent}
use Rattle.pool_shared.specs.Plans.{plan_of}
use Rattle.pool_shared.specs.Stages.{asks}
use Rattle.pool_shared.specs.Traces.{EndsWithOwn}
use Rattle.pool_shared.specs.TraceToResult.{TraceToResult}

-- the stage of a return of this object that is complete
abbrev pub done : ℕ → Returned → Stage
done i returned.Parked = stages.Ends ends.Parked
done i returned.Destroyed = stages.Ends ends.Destroyed
done i returned.Gone = stages.Gone i

-- the check of a returned object may have this outcome: a test fails only if it is set
abbrev pub IsPossibleOutcome : Settings → ℕ → Outcome → Type 0
IsPossibleOutcome s i o = allows (work_of (plan_of s) (kinds.Return i) false) o ≡ true

-- the result of a return at this stage, with the state of its caller; its first critical section fails only if the object isn't
-- lent in the journal found
abbrev pub ReturnEnds : {T : Type 0} → Settings → ℕ → Stage → Result Returned (ReturnFault × Lent T) → CallerState → Type 0
ReturnEnds s i stage (Ok r) me = (stage ≡ done i r) × EndsWithOwn me
ReturnEnds s i stage (Err (faults.NotLent, l)) me = (stage ≡ stages.Ends ends.NotLent) × EndsWithOwn me
ReturnEnds s i stage (Err (faults.JournalFull, l)) me = (stage ≡ asks) × IsFullFor s (GiveBack i) me × (phase i me.observed ≢ phases.Lent)
ReturnEnds s i stage (Err (faults.OutOfMemory, l)) me = (stage ≡ asks) × IsShortFor s (GiveBack i) me × (phase i me.observed ≢ phases.Lent)
ReturnEnds s i stage (Err (faults.ForeignObject, l)) me = ⊥

-- the trace of a whole return; it is empty exactly if the object is of another pool
abbrev pub ReturnSpec : {T : Type 0} → Settings → ℕ → Lent T → Result Returned (ReturnFault × Lent T) → CallerState → CallerState → Type 0
ReturnSpec s number l (Err (faults.ForeignObject, m)) before after = (l.pool ≢ number) × (after ≡ before)
ReturnSpec s number l result before after = (l.pool ≡ number) × TraceToResult s (kinds.Return l.id) (ReturnEnds s l.id) asks result before after
