-- The trace of a fill, and its result.
use Rattle.std.specs.Prelude.{◌≡◌, ℕ, ◌+◌, true, Result, Ok, Err, IfOk}
use Rattle.pool_journal.specs.declared.input.Input.TheVariants.{Fill}
use Rattle.pool_journal.specs.Entries.{is_parked_answer}
use Rattle.pool_stats.specs.Answers.{count_answers}
use Rattle.pool_settings.specs.declared.settings.Settings.{Settings}
use Rattle.pool_calls.specs.declared.kind.Kind.TheVariants as kinds
use Rattle.pool_calls.specs.declared.stage.Stage.{Stage}
use Rattle.pool_calls.specs.Table.{works}
use Rattle.pool_history.specs.CallerStates.{CallerState}
use Rattle.pool_shared.specs.declared.faults.Addition.{Addition}
use Rattle.pool_shared.specs.declared.faults.Addition.TheVariants as additions
use Rattle.pool_shared.specs.declared.faults.AddFault.{AddFault}
use Rattle.pool_shared.specs.declared.faults.AddFault.TheVariants as faults
use Rattle.pool_shared.specs.Stages.{asks, complete}
use Rattle.pool_shared.specs.Traces.{Trace, EndsWithOwn}
use Rattle.pool_shared.specs.TraceToResult.{TraceToResult}
use Rattle.pool_shared.specs.Adds.{ending, FinalState}

-- the number of Parked answers to a caller
abbrev pub parked_by : CallerState → ℕ
parked_by me = count_answers is_parked_answer me.appended

-- in the entries that the caller appended since, this many objects were parked
abbrev pub Parks : ℕ → CallerState → CallerState → Type 0
Parks n before after = parked_by after ≡ parked_by before + n

-- a fill at this stage allows this result: it is complete, or it failed as an addition does, but never since the pool is closed
abbrev pub IsResult : {E : Type 0} → Stage → Result ℕ (AddFault E) → Type 0
IsResult stage (Ok n) = stage ≡ complete
IsResult stage (Err faults.Closed) = ⊥
IsResult stage (Err f) = stage ≡ ending (Err f)

-- the result of a fill at this stage, with the state of its caller
abbrev pub FillEnds : {E : Type 0} → Settings → Stage → Result ℕ (AddFault E) → CallerState → Type 0
FillEnds s stage result me = IsResult stage result × FinalState s Fill result me

-- the trace of a fill to its result
abbrev pub Fills : {E : Type 0} → Settings → Result ℕ (AddFault E) → CallerState → CallerState → Type 0
Fills s result before after = TraceToResult s kinds.Fill (FillEnds s) asks result before after

-- the trace of a whole fill, which returns the number of objects that it parked
abbrev pub FillSpec : {E : Type 0} → Settings → Result ℕ (AddFault E) → CallerState → CallerState → Type 0
FillSpec s result before after = Fills s result before after × IfOk result (λ n. Parks n before after)

-- the stage of a fill after one turn: there was no place, or none was missing, or it continues
abbrev pub turned : Addition → Stage
turned additions.NoPlace = complete
turned _ = asks

-- the number of objects that an addition with this result parked
abbrev pub idle : Addition → ℕ
idle additions.Idle = 1
idle _ = 0

-- the trace of one turn of a fill
abbrev pub FillStep : {E : Type 0} → Settings → Result Addition (AddFault E) → CallerState → CallerState → Type 0
FillStep s (Ok a) before after = Trace s kinds.Fill asks before after (turned a) × Parks (idle a) before after × EndsWithOwn after
FillStep s (Err f) before after = Fills s (Err f) before after

-- ---- an object that an addition or a fill made
-- the stage of a fill after it
abbrev pub filling : {E : Type 0} → Result Addition (AddFault E) → Stage
filling (Ok a) = turned a
filling (Err f) = ending (Err f)

abbrev pub parked_in : {E : Type 0} → Result Addition (AddFault E) → ℕ
parked_in (Ok a) = idle a
parked_in (Err f) = 0

-- the object led an addition and a fill to these stages, and this many objects were parked
pub record Stocks (s : Settings) (i : ℕ) (added filled : Stage) (n : ℕ) (before after : CallerState) : Type 0 where
  pub in_addition : Trace s kinds.Add (works i true 0) before after added
  pub in_fill : Trace s kinds.Fill (works i true 0) before after filled
  pub parked : Parks n before after
