-- The trace of a call: its critical sections from one stage to its result.
use Rattle.std.specs.Prelude.{◌≡◌, ℕ, List, ◌++◌, Result, IfOk}
use Rattle.pool_journal.specs.declared.entry.Entry.{Entry}
use Rattle.pool_journal.specs.declared.input.Input.{Input}
use Rattle.pool_settings.specs.declared.settings.Settings.{Settings}
use Rattle.pool_calls.specs.declared.kind.Kind.{Kind}
use Rattle.pool_calls.specs.declared.stage.Stage.{Stage}
use Rattle.pool_history.specs.CallerStates.{CallerState}
use Rattle.pool_lock.specs.Sections.{LacksRoom, LacksMemory}
use Rattle.pool_shared.specs.declared.faults.PoolFault.{PoolFault}
use Rattle.pool_shared.specs.declared.faults.PoolFault.TheVariants as faults
use Rattle.pool_shared.specs.Counts.{Counts}
use Rattle.pool_shared.specs.Stages.{asks}
use Rattle.pool_shared.specs.Traces.{run_stages, AllExpected}

-- from one stage of a call of this kind on, the caller appended entries, each expected at its stage, and the last stage allows
-- the result
pub record TraceToResult {R : Type 0} (s : Settings) (k : Kind) (Ends : Stage → R → CallerState → Type 0) (from : Stage) (result : R) (before after : CallerState) : Type 0 where
  pub es : List Entry
  pub made : after.appended ≡ before.appended ++ es
  pub due : AllExpected s k from es
  pub ends : Ends (run_stages k from es) result after

-- the same of a whole call that returns the number of objects that it counted
abbrev pub CountingTrace : {E : Type 0} → Settings → Kind → (Stage → Result ℕ E → CallerState → Type 0) → Result ℕ E → CallerState → CallerState → Type 0
CountingTrace s k Ends result before after = TraceToResult s k Ends asks result before after × IfOk result (λ n. Counts k n before after)

-- the next critical section failed at this time, with this error
abbrev pub IsRoomFaultAt : Settings → Input → PoolFault → CallerState → ℕ → Type 0
IsRoomFaultAt s input faults.JournalFull me at = LacksRoom s input me at
IsRoomFaultAt s input faults.OutOfMemory me at = LacksMemory s input me at
IsRoomFaultAt s input faults.Closed me at = ⊥

-- the next critical section failed with this error, at some time
abbrev pub IsRoomFault : Settings → Input → PoolFault → CallerState → Type 0
IsRoomFault s input f me = (at : ℕ) × IsRoomFaultAt s input f me at
