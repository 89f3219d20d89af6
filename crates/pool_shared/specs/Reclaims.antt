-- The trace of a removal of abandoned objects, and its result.
use Rattle.std.specs.Prelude.{◌≡◌, ◌⊎◌, ℕ, Result, Ok, Err}
use Rattle.pool_journal.specs.declared.input.Input.TheVariants.{Reclaim, ReclaimNext}
use Rattle.pool_journal.specs.declared.input.When.{When}
use Rattle.pool_journal.specs.declared.input.When.TheVariants as times
use Rattle.pool_journal.specs.declared.answer.Answer.TheVariants as answers
use Rattle.pool_settings.specs.declared.settings.Settings.{Settings}
use Rattle.pool_core.specs.Reply.{reply}
use Rattle.pool_calls.specs.declared.action.End.TheVariants as ends
use Rattle.pool_calls.specs.declared.kind.Kind.{Kind}
use Rattle.pool_calls.specs.declared.kind.Kind.TheVariants as kinds
use Rattle.pool_calls.specs.declared.stage.Request.TheVariants as requests
use Rattle.pool_calls.specs.declared.stage.Stage.{Stage}
use Rattle.pool_calls.specs.declared.stage.Stage.TheVariants as stages
use Rattle.pool_calls.specs.Table.{go_through, through}
use Rattle.pool_history.specs.CallerStates.{CallerState}
use Rattle.pool_lock.specs.Sections.{AppendsAnswer}
use Rattle.pool_shared.specs.declared.faults.PoolFault.{PoolFault}
use Rattle.pool_shared.specs.Counts.{Counts}
use Rattle.pool_shared.specs.Stages.{takes}
use Rattle.pool_shared.specs.Traces.{Trace, EndsWithOwn}
use Rattle.pool_shared.specs.TraceToResult.{CountingTrace, IsRoomFault, IsRoomFaultAt}

-- a ReclaimNext failed at a time at which no object was abandoned
abbrev pub IsStopped : Settings → PoolFault → CallerState → Type 0
IsStopped s f me = (at : ℕ) × IsRoomFaultAt s ReclaimNext f me at × (reply s me.observed at ReclaimNext ≡ answers.Nothing)

-- the result of a removal at this stage, with the state of its caller; a ReclaimNext fails only if it would reclaim nothing
abbrev pub ReclaimEnds : Settings → Stage → Result ℕ PoolFault → CallerState → Type 0
ReclaimEnds s (stages.Ends ends.Complete) (Ok n) me = EndsWithOwn me
ReclaimEnds s (stages.Asks requests.Ask) (Err f) me = IsRoomFault s (Reclaim times.Maintain) f me
ReclaimEnds s (stages.Asks (requests.Next left)) (Err f) me = IsStopped s f me
ReclaimEnds s _ _ me = ⊥

-- the trace of a whole removal for maintenance, which returns the number of reclaimed objects
abbrev pub ReclaimSpec : Settings → Result ℕ PoolFault → CallerState → CallerState → Type 0
ReclaimSpec s result before after = CountingTrace s kinds.Reclaim (ReclaimEnds s) result before after

-- a call of this kind may reclaim abandoned objects
abbrev pub MayReclaim : Kind → Type 0
MayReclaim (kinds.Borrow began) = Unit {0}
MayReclaim kinds.Reclaim = Unit {0}
MayReclaim _ = ⊥

-- a removal of up to this many objects, in a call of this kind: it took this many and is complete, or a critical section failed
abbrev pub Reclaims : Settings → Kind → ℕ → Result ℕ PoolFault → CallerState → CallerState → Type 0
Reclaims s k count (Ok n) before after = Trace s k (go_through k count) before after (through k) × Counts kinds.Reclaim n before after × EndsWithOwn after
Reclaims s k count (Err f) before after = (left : ℕ) × Trace s k (go_through k count) before after (takes left) × IsStopped s f after

-- a removal on this occasion got the number of abandoned objects, and then followed the rules, in a call of either kind
abbrev pub HasBegun : Settings → When → Result ℕ PoolFault → CallerState → CallerState → Type 0
HasBegun s time result before after = (count : ℕ) × (mid : CallerState) × AppendsAnswer (Reclaim time) (answers.Count count) before mid × ((k : Kind) → MayReclaim k → Reclaims s k count result mid after)

-- a removal on this occasion: it fails in its first critical section, or later
abbrev pub Removes : Settings → When → Result ℕ PoolFault → CallerState → CallerState → Type 0
Removes s time (Ok n) before after = HasBegun s time (Ok n) before after
Removes s time (Err f) before after = ((after.appended ≡ before.appended) × IsRoomFault s (Reclaim time) f after) ⊎ HasBegun s time (Err f) before after
