-- The entries of callers that worked in their own threads.
use Rattle.std.specs.Prelude.{◌≡◌, ℕ, ◌+◌, ◌≤◌, List, [], ◌∷◌, ◌++◌, length, fold, Some, slice_get, Result, Ok, Err, IfOk}
use Rattle.pool_settings.specs.declared.settings.Settings.{Settings}
use Rattle.pool_history.specs.CallerStates.{CallerState, Advances}
use Rattle.pool_shared.specs.declared.faults.PoolFault.{PoolFault}
use Rattle.pool_shared.specs.Clears.{CloseSpec}
use Rattle.pool_engines.specs.declared.load_fault.LoadFault.{LoadFault}
use Rattle.pool_engines.specs.declared.load_fault.LoadFault.TheVariants.{OutOfMemory, NoThread}
use Rattle.pool_load.specs.Rounds.{MakesRounds, Stops}

-- the refused borrows are at most the rounds, or why a caller stopped in them; it appended nothing if another has no thread
abbrev pub IsOutcome : Settings → ℕ → Result ℕ LoadFault → CallerState → CallerState → Type 0
IsOutcome s rounds (Ok refused) before after = refused ≤ rounds
IsOutcome s rounds (Err NoThread) before after = after.appended ≡ before.appended
IsOutcome s rounds (Err fault) before after = Stops s rounds fault before after

-- the same caller, which made its rounds or stopped in them, and didn't cut the journal
pub record Works (s : Settings) (rounds : ℕ) (outcome : Result ℕ LoadFault) (before after : CallerState) : Type 0 where
  pub number : after.number ≡ before.number
  pub uncut : after.cut_count ≡ before.cut_count
  pub result : IsOutcome s rounds outcome before after
  pub worked : IfOk outcome (λ refused. MakesRounds s rounds refused before after)

-- each of these callers has worked, with the outcome at its index
pub record AllWorked (s : Settings) (rounds : ℕ) (before after : List CallerState) (outcomes : List (Result ℕ LoadFault)) : Type 0 where
  pub callers : length after ≡ length before
  pub results : length outcomes ≡ length before
  pub each : (i : ℕ) (b a : CallerState) (o : Result ℕ LoadFault) → slice_get before i ≡ Some b → slice_get after i ≡ Some a → slice_get outcomes i ≡ Some o
      → Works s rounds o b a

-- the sum of two numbers of refused borrows, or the first error
abbrev pub added : Result ℕ LoadFault → Result ℕ LoadFault → Result ℕ LoadFault
added (Ok n) (Ok m) = Ok (n + m)
added (Ok n) (Err fault) = Err fault
added (Err fault) more = Err fault

-- the number of refused borrows of all workers, or the first error
abbrev pub total_of : List (Result ℕ LoadFault) → Result ℕ LoadFault
total_of outcomes = fold added (Ok 0) outcomes

-- each of these callers has worked, then the last one has closed the pool, with some result, and these are all callers and
-- their outcome
pub record WorksAndCloses (s : Settings) (rounds : ℕ) (before : List CallerState) (last : CallerState) (outcome : Result ℕ LoadFault) (callers : List CallerState) : Type 0 where
  pub workers : List CallerState
  pub closer : CallerState
  pub outcomes : List (Result ℕ LoadFault)
  pub result : Result ℕ PoolFault
  pub worked : AllWorked s rounds before workers outcomes
  pub goes : Advances s last closer
  pub row : CloseSpec s result last closer
  pub all : callers ≡ workers ++ closer ∷ []
  pub sums : outcome ≡ total_of outcomes

-- why the threads of a load were not started, or their results not collected
abbrev pub IsWanting : LoadFault → Type 0
IsWanting OutOfMemory = Unit {0}
IsWanting NoThread = Unit {0}
IsWanting _ = ⊥
