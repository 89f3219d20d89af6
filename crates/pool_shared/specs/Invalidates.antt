-- The trace of an invalidation, and its result.
use Rattle.std.specs.Prelude.{◌≡◌, ◌≢◌, ℕ, Result, Ok, Err}
use Rattle.pool_journal.specs.Journal.{phase}
use Rattle.pool_journal.specs.declared.input.Input.TheVariants.{Invalidate}
use Rattle.pool_journal.specs.declared.record.Phase.TheVariants as phases
use Rattle.pool_settings.specs.declared.settings.Settings.{Settings}
use Rattle.pool_history.specs.CallerStates.{CallerState}
use Rattle.pool_lock.specs.Sections.{IsFullFor, IsShortFor}
use Rattle.pool_calls.specs.declared.action.End.TheVariants as ends
use Rattle.pool_calls.specs.declared.kind.Kind.TheVariants as kinds
use Rattle.pool_calls.specs.declared.stage.Stage.{Stage}
use Rattle.pool_calls.specs.declared.stage.Stage.TheVariants as stages
use Rattle.pool_shared.specs.declared.faults.ReturnFault.{ReturnFault}
use Rattle.pool_shared.specs.declared.faults.ReturnFault.TheVariants as faults
use Rattle.pool_shared.specs.declared.faults.Returned.{Returned}
use Rattle.pool_shared.specs.declared.faults.Returned.TheVariants as returned
use Rattle.pool_shared.specs.declared.lent.Lent.{Lent}
use Rattle.pool_shared.specs.Stages.{asks}
use Rattle.pool_shared.specs.Traces.{EndsWithOwn}
use Rattle.pool_shared.specs.TraceToResult.{TraceToResult}

-- the result of an invalidation at this stage, with the state of its caller; its first critical section fails only if the
-- object isn't lent in the journal found
abbrev pub InvalidateEnds : {T : Type 0} → Settings → ℕ → Stage → Result Returned (ReturnFault × Lent T) → CallerState → Type 0
InvalidateEnds s i stage (Ok returned.Parked) me = ⊥
InvalidateEnds s i stage (Ok returned.Destroyed) me = (stage ≡ stages.Ends ends.Destroyed) × EndsWithOwn me
InvalidateEnds s i stage (Ok returned.Gone) me = (stage ≡ stages.Gone i) × EndsWithOwn me
InvalidateEnds s i stage (Err (faults.NotLent, l)) me = (stage ≡ stages.Ends ends.NotLent) × EndsWithOwn me
InvalidateEnds s i stage (Err (faults.JournalFull, l)) me = (stage ≡ asks) × IsFullFor s (Invalidate i) me × (phase i me.observed ≢ phases.Lent)
InvalidateEnds s i stage (Err (faults.OutOfMemory, l)) me = (stage ≡ asks) × IsShortFor s (Invalidate i) me × (phase i me.observed ≢ phases.Lent)
InvalidateEnds s i stage (Err (faults.ForeignObject, l)) me = ⊥

-- the trace of a whole invalidation; it is empty exactly if the object is of another pool
abbrev pub InvalidateSpec : {T : Type 0} → Settings → ℕ → Lent T → Result Returned (ReturnFault × Lent T) → CallerState → CallerState → Type 0
InvalidateSpec s number l (Err (faults.ForeignObject, m)) before after = (l.pool ≢ number) × (after ≡ before)
InvalidateSpec s number l result before after = (l.pool ≡ number) × TraceToResult s (kinds.Invalidate l.id) (InvalidateEnds s l.id) asks result before after
