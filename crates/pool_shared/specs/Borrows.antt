-- The trace of a borrow, and its result.
use Rattle.std.specs.Prelude.{◌≡◌, ℕ, if◌then◌else◌, Bool, true, Option, Some, None, Result, Ok, Err}
use Rattle.pool_journal.specs.declared.input.Input.TheVariants.{Borrow, Reclaim, Ready}
use Rattle.pool_journal.specs.declared.input.When.TheVariants as times
use Rattle.pool_journal.specs.declared.input.Outcome.{Outcome}
use Rattle.pool_journal.specs.declared.input.Outcome.TheVariants as outcomes
use Rattle.pool_journal.specs.declared.answer.Answer.{Answer}
use Rattle.pool_journal.specs.declared.answer.Answer.TheVariants as answers
use Rattle.pool_settings.specs.declared.settings.Settings.{Settings}
use Rattle.pool_calls.specs.declared.action.End.TheVariants as ends
use Rattle.pool_calls.specs.declared.kind.Kind.TheVariants as kinds
use Rattle.pool_calls.specs.declared.stage.Request.TheVariants as requests
use Rattle.pool_calls.specs.declared.stage.Stage.{Stage}
use Rattle.pool_calls.specs.declared.stage.Stage.TheVariants as stages
use Rattle.pool_calls.specs.Rules.{first_stage}
use Rattle.pool_calls.specs.Table.{end_by}
use Rattle.pool_history.specs.CallerStates.{CallerState}
use Rattle.pool_shared.specs.declared.faults.BorrowFault.{BorrowFault}
use Rattle.pool_shared.specs.declared.faults.BorrowFault.TheVariants as faults
use Rattle.pool_shared.specs.declared.lent.Lent.{Lent}
use Rattle.pool_shared.specs.declared.borrowing.ActivateError.{ActivateError}
use Rattle.pool_shared.specs.declared.borrowing.ActivateError.TheVariants as unready
use Rattle.pool_history.specs.Answers.{IsPossibleAnswer}
use Rattle.pool_shared.specs.declared.faults.PoolFault.{PoolFault}
use Rattle.pool_shared.specs.declared.faults.PoolFault.TheVariants as pool_faults
use Rattle.pool_shared.specs.Plans.{plan_of}
use Rattle.pool_shared.specs.Stages.{asks}
use Rattle.pool_shared.specs.Traces.{Ends, EndsWithOwn}
use Rattle.pool_shared.specs.TraceToResult.{TraceToResult, IsRoomFault}
use Rattle.pool_shared.specs.Reclaims as removal

-- a critical section failed with this error: one of the removal, or the one in which the borrow asks
abbrev pub IsStopped : Settings → ℕ → PoolFault → Stage → CallerState → Type 0
IsStopped s began f (stages.Asks requests.Begin) me = IsRoomFault s (Reclaim times.Borrow) f me
IsStopped s began f (stages.Asks (requests.Next left)) me = removal.IsStopped s f me
IsStopped s began f (stages.Asks requests.Ask) me = IsRoomFault s (Borrow began) f me
IsStopped s began f _ me = ⊥

-- the result of a borrow at this stage, with the state of its caller: its last entry ends the observed history, and lends the
-- object if there is one, unless a critical section failed
abbrev pub BorrowEnds : {T E : Type 0} → Settings → ℕ → ℕ → Stage → Result (Lent T) (BorrowFault E) → CallerState → Type 0
BorrowEnds s number began stage (Ok l) me = (stage ≡ stages.Ends (ends.Lent l.id)) × (l.pool ≡ number) × Ends (Ready l.id outcomes.Good) answers.Lent me
BorrowEnds s number began stage (Err faults.Closed) me = (stage ≡ stages.Ends ends.Closed) × EndsWithOwn me
BorrowEnds s number began stage (Err faults.Exhausted) me = (stage ≡ stages.Ends ends.Exhausted) × EndsWithOwn me
BorrowEnds s number began stage (Err faults.TimedOut) me = (stage ≡ stages.Ends ends.TimedOut) × EndsWithOwn me
BorrowEnds s number began stage (Err (faults.MakeFailed f)) me = (stage ≡ stages.Ends ends.MakeFailed) × EndsWithOwn me
BorrowEnds s number began stage (Err faults.CreateTestFailed) me = (stage ≡ stages.Ends ends.CreateTestFailed) × EndsWithOwn me
BorrowEnds s number began stage (Err (faults.ActivateFailed f)) me = (stage ≡ stages.Ends ends.ActivateFailed) × EndsWithOwn me
BorrowEnds s number began stage (Err faults.BorrowTestFailed) me = (stage ≡ stages.Ends ends.BorrowTestFailed) × EndsWithOwn me
BorrowEnds s number began stage (Err faults.JournalFull) me = IsStopped s began pool_faults.JournalFull stage me
BorrowEnds s number began stage (Err faults.OutOfMemory) me = IsStopped s began pool_faults.OutOfMemory stage me

-- the trace of a borrow from one stage to its result
abbrev pub BorrowsFrom : {T E : Type 0} → Settings → ℕ → ℕ → Stage → Result (Lent T) (BorrowFault E) → CallerState → CallerState → Type 0
BorrowsFrom s number began from result before after = TraceToResult s (kinds.Borrow began) (BorrowEnds s number began) from result before after

-- the trace of a whole borrow
abbrev pub BorrowSpec : {T E : Type 0} → Settings → ℕ → Result (Lent T) (BorrowFault E) → CallerState → CallerState → Type 0
BorrowSpec s number result before after = (began : ℕ) × BorrowsFrom s number began (first_stage (plan_of s) (kinds.Borrow began)) result before after

-- the value is active, and valid if that was tested
pub record IsLentWell {T : Type 0} (s : Settings) (active valid : T → Type 0) (value : T) : Type 0 where
  pub is_active : active value
  pub is_valid : s.test_on_borrow ≡ true → valid value

-- an error of the factory is from the call that failed, `make` or `activate`
abbrev pub IsFaultFrom : {E : Type 0} → (E → Type 0) → (E → Type 0) → BorrowFault E → Type 0
IsFaultFrom make activate (faults.MakeFailed f) = make f
IsFaultFrom make activate (faults.ActivateFailed f) = activate f
IsFaultFrom make activate _ = Unit {0}

-- the reason why an object was not made ready: the factory's error, or a test that is set
abbrev pub IsWhyUnready : {E : Type 0} → Settings → (E → Type 0) → ActivateError E → Type 0
IsWhyUnready s activate (unready.Activate f) = activate f
IsWhyUnready s activate unready.Test = s.test_on_borrow ≡ true

-- an object was found, or the borrow ends with another answer than `Wait`
abbrev pub IsFound : Answer → Type 0
IsFound answers.Wait = ⊥
IsFound a = IsPossibleAnswer (Borrow 0) a

-- an outcome with which an object that exists is not made ready: only a new one has a first test, and a test fails only if it
-- is set
abbrev pub IsFailure : Settings → Bool → Outcome → Type 0
IsFailure s new outcomes.CreateTestFailed = (new ≡ true) × (s.test_on_create ≡ true)
IsFailure s new outcomes.ActivateFailed = Unit {0}
IsFailure s new outcomes.TestFailed = s.test_on_borrow ≡ true
IsFailure s new _ = ⊥

-- the stage of a borrow whose object was destroyed, after work with this outcome: one that took it asks again
abbrev pub lost : Bool → Outcome → Stage
lost new o = if new then stages.Ends (end_by o) else asks

-- the stage of a borrow that took an object
abbrev pub taken_to : {T : Type 0} → ℕ → Option (Lent T) → Stage
taken_to i (Some l) = stages.Ends (ends.Lent i)
taken_to i None = asks
