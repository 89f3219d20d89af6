-- Rounds of a caller: a borrow, and its return if it got an object.
use Rattle.std.specs.Prelude.{◌≡◌, ◌≢◌, ℕ, zero, suc, ◌+◌, ◌<◌, List, [], ◌++◌}
use Rattle.pool_journal.specs.declared.entry.Entry.{Entry}
use Rattle.pool_journal.specs.declared.input.Input.TheVariants.{GiveBack}
use Rattle.pool_settings.specs.declared.settings.Settings.{Settings}
use Rattle.pool_journal.specs.Journal.{phase}
use Rattle.pool_journal.specs.declared.record.Phase.TheVariants as phases
use Rattle.pool_history.specs.CallerStates.{CallerState, Advances}
use Rattle.pool_shared.specs.declared.faults.BorrowFault.{BorrowFault}
use Rattle.pool_shared.specs.declared.faults.BorrowFault.TheVariants as faults
use Rattle.pool_shared.specs.declared.faults.PoolFault.{PoolFault}
use Rattle.pool_shared.specs.declared.faults.PoolFault.TheVariants as pool_faults
use Rattle.pool_shared.specs.TraceToResult.{IsRoomFault}
use Rattle.pool_calls.specs.declared.action.End.{End}
use Rattle.pool_calls.specs.declared.action.End.TheVariants as ends
use Rattle.pool_calls.specs.declared.kind.Kind.TheVariants as kinds
use Rattle.pool_calls.specs.declared.stage.Stage.{Stage}
use Rattle.pool_calls.specs.declared.stage.Stage.TheVariants as stages
use Rattle.pool_calls.specs.Rules.{first_stage}
use Rattle.pool_shared.specs.Plans.{plan_of}
use Rattle.pool_shared.specs.Stages.{asks}
use Rattle.pool_shared.specs.Traces.{run_stages, AllExpected}
use Rattle.pool_shared.specs.Borrows.{IsStopped}
use Rattle.pool_engines.specs.declared.load_fault.LoadFault.{LoadFault}
use Rattle.pool_engines.specs.declared.load_fault.LoadFault.TheVariants.{JournalFull, OutOfMemory}

-- the ends of a borrow that was refused, or whose new object was not made ready
abbrev pub IsRefusing : End → Type 0
IsRefusing ends.Closed = Unit {0}
IsRefusing ends.Exhausted = Unit {0}
IsRefusing ends.TimedOut = Unit {0}
IsRefusing ends.MakeFailed = Unit {0}
IsRefusing ends.CreateTestFailed = Unit {0}
IsRefusing ends.ActivateFailed = Unit {0}
IsRefusing ends.BorrowTestFailed = Unit {0}
IsRefusing _ = ⊥

-- a borrow that ended so
abbrev pub IsRefusal : Stage → Type 0
IsRefusal (stages.Ends e) = IsRefusing e
IsRefusal _ = ⊥

-- a return that is complete, or whose object was not lent any more
abbrev pub IsThrough : ℕ → Stage → Type 0
IsThrough i (stages.Ends ends.Parked) = Unit {0}
IsThrough i (stages.Ends ends.Destroyed) = Unit {0}
IsThrough i (stages.Ends ends.NotLent) = Unit {0}
IsThrough i (stages.Gone j) = j ≡ i
IsThrough i _ = ⊥

-- the first stage of a borrow
abbrev pub borrows_from : Settings → ℕ → Stage
borrows_from s began = first_stage (plan_of s) (kinds.Borrow began)

-- the stage of a borrow after its entries
abbrev pub borrowed_to : Settings → ℕ → List Entry → Stage
borrowed_to s began es = run_stages (kinds.Borrow began) (borrows_from s began) es

-- the entries of a whole borrow that lent this object
pub record BorrowDone (s : Settings) (i : ℕ) (es : List Entry) : Type 0 where
  pub began : ℕ
  pub due : AllExpected s (kinds.Borrow began) (borrows_from s began) es
  pub ends : borrowed_to s began es ≡ stages.Ends (ends.Lent i)

-- the entries of a whole borrow that lent nothing
pub record BorrowRefused (s : Settings) (es : List Entry) : Type 0 where
  pub began : ℕ
  pub due : AllExpected s (kinds.Borrow began) (borrows_from s began) es
  pub ends : IsRefusal (borrowed_to s began es)

-- the entries of a whole return of this object
pub record ReturnDone (s : Settings) (i : ℕ) (es : List Entry) : Type 0 where
  pub due : AllExpected s (kinds.Return i) asks es
  pub ends : IsThrough i (run_stages (kinds.Return i) asks es)

-- one round, and the number of refused borrows in it
pub data Round (s : Settings) (f : ℕ) (es : List Entry) : Type 0 where
  lends : (i : ℕ) (bs gs : List Entry) → es ≡ bs ++ gs → f ≡ 0 → BorrowDone s i bs → ReturnDone s i gs → Round s f es
  refuses : f ≡ 1 → BorrowRefused s es → Round s f es

-- this number of rounds, with this number of refused borrows
abbrev pub IsWorked : Settings → ℕ → ℕ → List Entry → Type 0
IsWorked s zero f es = (f ≡ 0) × (es ≡ [])
IsWorked s (suc r) f es = (xs : List Entry) × (ys : List Entry) × (g : ℕ) × (h : ℕ) × (es ≡ xs ++ ys) × (f ≡ g + h) × Round s g xs × IsWorked s r h ys

abbrev pub MakesRound : Settings → ℕ → CallerState → CallerState → Type 0
MakesRound s f before after = (es : List Entry) × (after.appended ≡ before.appended ++ es) × Round s f es

abbrev pub MakesRounds : Settings → ℕ → ℕ → CallerState → CallerState → Type 0
MakesRounds s r f before after = (es : List Entry) × (after.appended ≡ before.appended ++ es) × IsWorked s r f es

-- an error that isn't a lack of room or memory
abbrev pub IsNonResourceError : {E : Type 0} → BorrowFault E → Type 0
IsNonResourceError faults.JournalFull = ⊥
IsNonResourceError faults.OutOfMemory = ⊥
IsNonResourceError _ = Unit {0}

-- a lack of room or memory stops a worker
abbrev pub StopsFor : {E : Type 0} → LoadFault → BorrowFault E → Type 0
StopsFor JournalFull faults.JournalFull = Unit {0}
StopsFor OutOfMemory faults.OutOfMemory = Unit {0}
StopsFor _ _ = ⊥

-- the entries of a borrow whose next critical section failed with this error
pub record BorrowStopped (s : Settings) (f : PoolFault) (es : List Entry) (me : CallerState) : Type 0 where
  pub began : ℕ
  pub due : AllExpected s (kinds.Borrow began) (borrows_from s began) es
  pub fails : IsStopped s began f (borrowed_to s began es) me

-- the entries of a whole borrow of this object, whose return failed with this error before its first entry, since the object
-- wasn't lent any more
pub record ReturnStopped (s : Settings) (f : PoolFault) (i : ℕ) (es : List Entry) (me : CallerState) : Type 0 where
  pub borrowed : BorrowDone s i es
  pub not_lent : phase i me.observed ≢ phases.Lent
  pub fails : IsRoomFault s (GiveBack i) f me

-- the entries of one round that stopped with this error, in its borrow or in its return
pub data RoundStopped (s : Settings) (f : PoolFault) (es : List Entry) (me : CallerState) : Type 0 where
  borrowing : BorrowStopped s f es me → RoundStopped s f es me
  returning : (i : ℕ) → ReturnStopped s f i es me → RoundStopped s f es me

-- a caller appended the entries of one round that stopped with this error
abbrev pub StopsOneRound : Settings → PoolFault → CallerState → CallerState → Type 0
StopsOneRound s f before after = (es : List Entry) × (after.appended ≡ before.appended ++ es) × RoundStopped s f es after

-- why a caller stopped in a round
abbrev pub StopsRound : Settings → LoadFault → CallerState → CallerState → Type 0
StopsRound s JournalFull before after = StopsOneRound s pool_faults.JournalFull before after
StopsRound s OutOfMemory before after = StopsOneRound s pool_faults.OutOfMemory before after
StopsRound s _ before after = ⊥

-- a caller advanced by fewer whole rounds than this number, and by one more round that stopped with this error
pub record StopsInRounds (s : Settings) (rounds : ℕ) (f : PoolFault) (before after : CallerState) : Type 0 where
  pub goes : Advances s before after
  pub done : ℕ
  pub fewer : done < rounds
  pub refused : ℕ
  pub whole : List Entry
  pub part : List Entry
  pub made : after.appended ≡ before.appended ++ (whole ++ part)
  pub worked : IsWorked s done refused whole
  pub stopped : RoundStopped s f part after

-- why a caller stopped in these rounds
abbrev pub Stops : Settings → ℕ → LoadFault → CallerState → CallerState → Type 0
Stops s rounds JournalFull before after = StopsInRounds s rounds pool_faults.JournalFull before after
Stops s rounds OutOfMemory before after = StopsInRounds s rounds pool_faults.OutOfMemory before after
Stops s rounds _ before after = ⊥
