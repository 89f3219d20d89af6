-- The trace of an eviction run, and its result.
use Rattle.std.specs.Prelude.{ℕ, Option, None, Some, Result, Ok, Err, IfOk}
use Rattle.pool_journal.specs.declared.input.Input.TheVariants.{Evict, EvictNext}
use Rattle.pool_journal.specs.declared.input.Outcome.{Outcome}
use Rattle.pool_journal.specs.declared.input.Outcome.TheVariants as outcomes
use Rattle.pool_journal.specs.declared.answer.Answer.{Answer}
use Rattle.pool_journal.specs.declared.answer.Answer.TheVariants as answers
use Rattle.pool_settings.specs.declared.settings.Settings.{Settings}
use Rattle.pool_core.specs.Reply.{reply}
use Rattle.pool_calls.specs.declared.action.End.TheVariants as ends
use Rattle.pool_calls.specs.declared.kind.Kind.TheVariants as kinds
use Rattle.pool_calls.specs.declared.stage.Request.TheVariants as requests
use Rattle.pool_calls.specs.declared.stage.Stage.{Stage}
use Rattle.pool_calls.specs.declared.stage.Stage.TheVariants as stages
use Rattle.pool_calls.specs.Table.{go_through}
use Rattle.pool_history.specs.CallerStates.{CallerState}
use Rattle.pool_history.specs.Ownership.{IsTestOutcome}
use Rattle.pool_shared.specs.declared.evicting.EvictRun.{EvictRun}
use Rattle.pool_shared.specs.declared.evicting.Disposition.{Disposition}
use Rattle.pool_shared.specs.declared.evicting.Disposition.TheVariants as fates
use Rattle.pool_shared.specs.declared.faults.PoolFault.{PoolFault}
use Rattle.pool_shared.specs.declared.faults.PoolFault.TheVariants as faults
use Rattle.pool_shared.specs.Counts.{Counts, Frees}
use Rattle.pool_shared.specs.Stages.{asks, takes, complete}
use Rattle.pool_shared.specs.Traces.{Trace, EndsWithOwn}
use Rattle.pool_shared.specs.TraceToResult.{TraceToResult, IsRoomFault, IsRoomFaultAt}

-- an EvictNext with this answer destroys nothing
abbrev pub IsSpared : Answer → Type 0
IsSpared (answers.DestroyIdle i) = ⊥
IsSpared a = Unit {0}

-- an EvictNext failed at a time at which it would have destroyed nothing
abbrev pub IsStopped : Settings → PoolFault → CallerState → Type 0
IsStopped s f me = (at : ℕ) × IsRoomFaultAt s EvictNext f me at × IsSpared (reply s me.observed at EvictNext)

-- the result of an eviction run at this stage, with the state of its caller
abbrev pub EvictEnds : Settings → Stage → Result EvictRun PoolFault → CallerState → Type 0
EvictEnds s (stages.Ends ends.Closed) (Err faults.Closed) me = EndsWithOwn me
EvictEnds s (stages.Ends ends.Complete) (Ok run) me = EndsWithOwn me
EvictEnds s (stages.Asks requests.Ask) (Err f) me = IsRoomFault s Evict f me
EvictEnds s (stages.Asks (requests.Next left)) (Err f) me = IsStopped s f me
EvictEnds s _ _ me = ⊥

-- in the entries that the caller appended since, a run examined and destroyed these numbers of objects
abbrev pub HasCounts : EvictRun → CallerState → CallerState → Type 0
HasCounts run before after = Counts kinds.Evict run.examined before after × Frees run.destroyed before after

-- the trace of an eviction run from one stage to its result, and its counts
abbrev pub EvictsFrom : Settings → Stage → Result EvictRun PoolFault → CallerState → CallerState → Type 0
EvictsFrom s from result before after = TraceToResult s kinds.Evict (EvictEnds s) from result before after × IfOk result (λ run. HasCounts run before after)

-- the trace of a whole eviction run
abbrev pub EvictSpec : Settings → Result EvictRun PoolFault → CallerState → CallerState → Type 0
EvictSpec s result before after = EvictsFrom s asks result before after

-- the number of objects that an examination with this fate of its object destroyed
abbrev pub lost : Disposition → ℕ
lost fates.Kept = 0
lost fates.Destroyed = 1

-- an examination of one object, or the test in it: between these stages, with these numbers of examined and destroyed objects
pub record Examines (s : Settings) (from to : ℕ → Stage) (n m : ℕ) (before after : CallerState) : Type 0 where
  pub trace : (left : ℕ) → Trace s kinds.Evict (from left) before after (to left)
  pub examined : Counts kinds.Evict n before after
  pub destroyed : Frees m before after

-- a run goes on after an object, which up to `left` more may follow
abbrev pub goes_on : ℕ → Stage
goes_on left = go_through kinds.Evict left

-- an examination that returned this fate of its object, or found none
abbrev pub HasExamined : Settings → Option Disposition → CallerState → CallerState → Type 0
HasExamined s (Some fate) before after = Examines s takes goes_on 1 (lost fate) before after
HasExamined s None before after = Examines s takes (λ left. complete) 0 0 before after

-- an outcome of a failed test
abbrev pub IsFailedTest : Outcome → Type 0
IsFailedTest outcomes.Good = ⊥
IsFailedTest o = IsTestOutcome o

-- an outcome with which the activation or the test of a value fails
abbrev pub IsUnfit : Outcome → Type 0
IsUnfit outcomes.ActivateFailed = Unit {0}
IsUnfit outcomes.TestFailed = Unit {0}
IsUnfit _ = ⊥
