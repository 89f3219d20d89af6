-- The trace of a note of a use, and its result.
use Rattle.std.specs.Prelude.{◌≡◌, ◌≢◌, ℕ, Result, Ok, Err}
use Rattle.pool_journal.specs.declared.input.Input.TheVariants.{Use}
use Rattle.pool_settings.specs.declared.settings.Settings.{Settings}
use Rattle.pool_history.specs.CallerStates.{CallerState}
use Rattle.pool_lock.specs.Sections.{IsFullFor, IsShortFor}
use Rattle.pool_calls.specs.declared.action.End.TheVariants as ends
use Rattle.pool_calls.specs.declared.kind.Kind.TheVariants as kinds
use Rattle.pool_calls.specs.declared.stage.Stage.{Stage}
use Rattle.pool_calls.specs.declared.stage.Stage.TheVariants as stages
use Rattle.pool_shared.specs.declared.faults.ReturnFault.{ReturnFault}
use Rattle.pool_shared.specs.declared.faults.ReturnFault.TheVariants as faults
use Rattle.pool_shared.specs.declared.faults.Touched.{Touched}
use Rattle.pool_shared.specs.declared.faults.Touched.TheVariants as touched
use Rattle.pool_shared.specs.Stages.{asks}
use Rattle.pool_shared.specs.Traces.{EndsWithOwn}
use Rattle.pool_shared.specs.TraceToResult.{TraceToResult}

-- the result of a note at this stage, with the state of its caller
abbrev pub TouchEnds : Settings → ℕ → Stage → Result Touched ReturnFault → CallerState → Type 0
TouchEnds s i stage (Ok touched.Noted) me = (stage ≡ stages.Ends ends.Noted) × EndsWithOwn me
TouchEnds s i stage (Ok touched.Gone) me = (stage ≡ stages.Ends ends.Gone) × EndsWithOwn me
TouchEnds s i stage (Err faults.NotLent) me = (stage ≡ stages.Ends ends.NotLent) × EndsWithOwn me
TouchEnds s i stage (Err faults.JournalFull) me = (stage ≡ asks) × IsFullFor s (Use i) me
TouchEnds s i stage (Err faults.OutOfMemory) me = (stage ≡ asks) × IsShortFor s (Use i) me
TouchEnds s i stage (Err faults.ForeignObject) me = ⊥

-- the trace of a whole note; it is empty if the object is of another pool
abbrev pub TouchSpec : Settings → ℕ → ℕ → ℕ → Result Touched ReturnFault → CallerState → CallerState → Type 0
TouchSpec s number pool i (Err faults.ForeignObject) before after = (pool ≢ number) × (after ≡ before)
TouchSpec s number pool i result before after = (pool ≡ number) × TraceToResult s (kinds.Touch i) (TouchEnds s i) asks result before after
