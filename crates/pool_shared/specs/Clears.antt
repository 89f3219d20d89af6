-- The traces of a clear and of a close, and their results.
use Rattle.std.specs.Prelude.{◌≡◌, ℕ, true, List, [], Result, Ok, Err}
use Rattle.pool_journal.specs.declared.entry.Entry.{Entry}
use Rattle.pool_journal.specs.declared.input.Input.TheVariants.{Clear, ClearNext, Close}
use Rattle.pool_journal.specs.Journal.{closed, records}
use Rattle.pool_journal.specs.Queue.{idle_queue}
use Rattle.pool_settings.specs.declared.settings.Settings.{Settings}
use Rattle.pool_calls.specs.declared.action.End.TheVariants as ends
use Rattle.pool_calls.specs.declared.kind.Kind.{Kind}
use Rattle.pool_calls.specs.declared.kind.Kind.TheVariants as kinds
use Rattle.pool_calls.specs.declared.stage.Request.TheVariants as requests
use Rattle.pool_calls.specs.declared.stage.Stage.{Stage}
use Rattle.pool_calls.specs.declared.stage.Stage.TheVariants as stages
use Rattle.pool_calls.specs.Table.{go_through}
use Rattle.pool_history.specs.CallerStates.{CallerState}
use Rattle.pool_shared.specs.declared.faults.PoolFault.{PoolFault}
use Rattle.pool_shared.specs.Counts.{counted, Counts}
use Rattle.pool_shared.specs.Stages.{asks, takes, complete}
use Rattle.pool_shared.specs.Traces.{run_stages, Trace, EndsWithOwn}
use Rattle.pool_shared.specs.TraceToResult.{CountingTrace, IsRoomFault}

-- no object is idle
abbrev pub NoneIdle : CallerState → Type 0
NoneIdle me = idle_queue (records me.observed) ≡ []

-- these entries of a close complete it, and it took this many objects
abbrev pub IsOver : List Entry → ℕ → Type 0
IsOver es n = (run_stages kinds.Close asks es ≡ complete) × (counted kinds.Close es ≡ n)

-- a call of this kind sweeps idle objects away
abbrev pub MaySweep : Kind → Type 0
MaySweep kinds.Clear = Unit {0}
MaySweep kinds.Close = Unit {0}
MaySweep _ = ⊥

-- in the entries that the caller appended since, this many objects were taken
abbrev pub Takes : ℕ → CallerState → CallerState → Type 0
Takes n before after = Counts kinds.Clear n before after

-- a sweep of up to this many objects, in a call of this kind: it took this many and is complete, or a critical section failed
abbrev pub Sweeps : Settings → Kind → ℕ → Result ℕ (ℕ × PoolFault) → CallerState → CallerState → Type 0
Sweeps s k count (Ok n) before after = Trace s k (go_through k count) before after complete × Takes n before after
Sweeps s k count (Err (n, f)) before after =
    (left : ℕ) × Trace s k (go_through k count) before after (takes left) × Takes n before after × IsRoomFault s ClearNext f after × NoneIdle after

-- the result of a clear at this stage, with the state of its caller
abbrev pub ClearEnds : Settings → Stage → Result ℕ PoolFault → CallerState → Type 0
ClearEnds s (stages.Ends ends.Complete) (Ok n) me = EndsWithOwn me
ClearEnds s (stages.Asks requests.Ask) (Err f) me = IsRoomFault s Clear f me
ClearEnds s (stages.Asks (requests.Next left)) (Err f) me = IsRoomFault s ClearNext f me × NoneIdle me
ClearEnds s _ _ me = ⊥

-- the result of a close at this stage, with the state of its caller: a ClearNext that fails ends it, since no object is idle
-- then, and the first close never fails
abbrev pub CloseEnds : Settings → Stage → Result ℕ PoolFault → CallerState → Type 0
CloseEnds s (stages.Ends ends.Complete) (Ok n) me = EndsWithOwn me
CloseEnds s (stages.Asks (requests.Next left)) (Ok n) me = ((f : PoolFault) × IsRoomFault s ClearNext f me) × NoneIdle me
CloseEnds s (stages.Asks requests.Ask) (Err f) me = IsRoomFault s Close f me × (closed me.observed ≡ true)
CloseEnds s _ _ me = ⊥

-- the trace of a clear, which returns the number of destroyed objects
abbrev pub ClearSpec : Settings → Result ℕ PoolFault → CallerState → CallerState → Type 0
ClearSpec s result before after = CountingTrace s kinds.Clear (ClearEnds s) result before after

-- the trace of a close, which returns the number of destroyed objects
abbrev pub CloseSpec : Settings → Result ℕ PoolFault → CallerState → CallerState → Type 0
CloseSpec s result before after = CountingTrace s kinds.Close (CloseEnds s) result before after
