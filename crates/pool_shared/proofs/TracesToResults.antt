-- Whole traces from their parts.
use Rattle.std.proofs.Common.{◌≡◌, ℕ, false, None, refl, sym, subst}
use Rattle.pool_journal.specs.declared.input.Input.{Input}
use Rattle.pool_settings.specs.declared.settings.Settings.{Settings}
use Rattle.pool_core.specs.declared.step_fault.StepFault.{StepFault}
use Rattle.pool_core.specs.declared.step_fault.StepFault.TheVariants.{JournalFull, OutOfMemory}
use Rattle.pool_core.specs.Completion.{is_completing}
use Rattle.pool_core.specs.Reply.{reply}
use Rattle.pool_history.specs.CallerStates.{CallerState}
use Rattle.pool_lock.specs.Sections.{Refuses}
use Rattle.pool_shared.specs.declared.faults.PoolFault.{PoolFault}
use Rattle.pool_shared.specs.declared.faults.PoolFault.TheVariants as faults
use Rattle.pool_shared.specs.Faults.{room_fault}
use Rattle.pool_calls.specs.declared.kind.Kind.{Kind}
use Rattle.pool_calls.specs.declared.stage.Stage.{Stage}
use Rattle.pool_shared.specs.Traces.{run_stages, Trace}
use Rattle.pool_shared.specs.TraceToResult.{TraceToResult, IsRoomFault, IsRoomFaultAt}
use Rattle.pool_shared.proofs.Traces.{trace_on, trace_none}

module _ {R : Type 0} (s : Settings) (k : Kind) (Ends : Stage → R → CallerState → Type 0) where
  -- an operation that ends at its stage
  pub row_at : (from to : Stage) (r : R) (a b : CallerState) → Trace s k from a b to → Ends to r b → TraceToResult s k Ends from r a b
  row_at from to r a b w ends = record { es = w.es; made = w.made; due = w.due; ends = subst (λ st. Ends st r b) (sym w.comes) ends }

  -- the trace of a call, without its result
  trace_of : (from : Stage) (r : R) (a b : CallerState) (row : TraceToResult s k Ends from r a b) → Trace s k from a b (run_stages k from row.es)
  trace_of from r a b row = record { es = row.es; made = row.made; due = row.due; comes = refl }

  -- an operation that continues, and then ends
  pub row_on : (from mid : Stage) (r : R) (a b c : CallerState) → Trace s k from a b mid → TraceToResult s k Ends mid r b c → TraceToResult s k Ends from r a c
  row_on from mid r a b c w row =
      let to = run_stages k mid row.es in
      row_at from to r a c (trace_on s k from mid to a b c w (trace_of mid r b c row)) row.ends

  -- an operation whose first critical section failed
  pub row_none : (at : Stage) (r : R) (b c : CallerState) → c.appended ≡ b.appended → Ends at r c → TraceToResult s k Ends at r b c
  row_none at r b c same ends = row_at at at r b c (trace_none s k at b c same) ends

  -- an operation whose next critical section failed
  pub row_stopped : (from at : Stage) (r : R) (a b c : CallerState) → Trace s k from a b at → c.appended ≡ b.appended → Ends at r c → TraceToResult s k Ends from r a c
  row_stopped from at r a b c w same ends = row_at from at r a c (trace_on s k from at at a b c w (trace_none s k at b c same)) ends

-- the error of a critical section that failed
pub room_fault_for : {T : Type 0} (s : Settings) (input : Input) (f : StepFault T) (b c : CallerState) → Refuses s input None f b c → IsRoomFault s input (room_fault f) c
room_fault_for s input (JournalFull out) b c refuses = refuses.error.0
room_fault_for s input (OutOfMemory out) b c refuses = refuses.error.0

-- a critical section failed that would not have completed a step
pub unfinished_at : (s : Settings) (input : Input) (f : PoolFault) (me : CallerState) (at : ℕ) → IsRoomFaultAt s input f me at → is_completing (reply s me.observed at input) input ≡ false
unfinished_at s input faults.JournalFull me at why = why.unfinished
unfinished_at s input faults.OutOfMemory me at why = why.unfinished
unfinished_at s input faults.Closed me at why = absurd why
