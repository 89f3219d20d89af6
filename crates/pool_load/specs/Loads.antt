-- The history of a load, and why it has no report.
use Rattle.std.specs.Prelude.{◌≡◌, ◌⊎◌, ℕ, ◌+◌, ◌<◌, ◌≤◌, List, [], length, sum, slice_index, slice_get, Some, Result, Ok, Err}
use Rattle.pool_journal.specs.declared.entry.Entry.{Entry}
use Rattle.pool_settings.specs.declared.settings.Settings.{Settings}
use Rattle.pool_stats.specs.Statistics.{statistics_of}
use Rattle.pool_stats.specs.declared.statistics.Statistics.{Statistics}
use Rattle.pool_core.specs.Legal.{IsLegal}
use Rattle.pool_history.specs.CellInvariant.{entries_with_number, AllBelow, IsPrefix}
use Rattle.pool_history.specs.CallerStates.{CallerState, Advances, newcomer_at}
use Rattle.pool_shared.specs.Clears.{IsOver, CloseSpec}
use Rattle.pool_engines.specs.declared.load_fault.LoadFault.{LoadFault}
use Rattle.pool_engines.specs.declared.load_fault.LoadFault.TheVariants.{WorkerCount, RoundCount, JournalFull, NoThread}
use Rattle.pool_load.specs.Rounds.{IsWorked, Stops}
use Rattle.pool_load.specs.Workers.{IsWanting}

-- the numbers of workers and of rounds are in their ranges
pub record IsInRange (workers rounds : ℕ) : Type 0 where
  pub some_workers : 0 < workers
  pub bounded_workers : workers ≤ 1023
  pub some_rounds : 0 < rounds
  pub bounded_rounds : rounds ≤ 1000000

-- all entries of the caller of this number in a history are those of one whole close, its first and last call: from a newcomer
-- on it observed a legal history, up to its last entry at least, and appended the entries of a close that took this many
-- objects, and that they complete
pub record OnlyCloses (s : Settings) (n : ℕ) (journal : List Entry) : Type 0 where
  pub taken : ℕ
  pub after : CallerState
  pub goes : Advances s (newcomer_at n) after
  pub appended : after.appended ≡ entries_with_number n journal
  pub observed : IsPrefix after.observed journal
  pub row : CloseSpec s (Ok taken) (newcomer_at n) after
  pub over : IsOver (entries_with_number n journal) taken

-- all entries of the caller of this number in a history are those of a worker with this outcome: those of its rounds, none if it
-- had no thread, or those of a newcomer that stopped in its rounds, after it had observed a prefix of the history
abbrev pub OnlyWorks : Settings → ℕ → Result ℕ LoadFault → ℕ → List Entry → Type 0
OnlyWorks s rounds (Ok refused) n journal = IsWorked s rounds refused (entries_with_number n journal)
OnlyWorks s rounds (Err NoThread) n journal = entries_with_number n journal ≡ []
OnlyWorks s rounds (Err fault) n journal =
    (after : CallerState) × (after.appended ≡ entries_with_number n journal) × IsPrefix after.observed journal × Stops s rounds fault (newcomer_at n) after

-- a legal history of a load whose workers had these outcomes: in it each worker made its rounds or stopped in them, the last
-- caller closed the pool, and there are no other entries
pub record IsHistory (s : Settings) (workers rounds : ℕ) (outcomes : List (Result ℕ LoadFault)) (journal : List Entry) : Type 0 where
  pub legal : IsLegal s journal
  pub below : AllBelow (workers + 1) journal
  pub each : length outcomes ≡ workers
  pub worked : (w : ℕ) (o : Result ℕ LoadFault) → slice_get outcomes w ≡ Some o → OnlyWorks s rounds o w journal
  pub closed : OnlyCloses s workers journal

-- there is one legal history: in it each worker made its rounds, the last caller closed the pool, and there are no other
-- entries. The refused borrows of all workers are counted, and the statistics are those of this history
pub record IsLoad (s : Settings) (workers rounds refused : ℕ) (stats : Statistics) : Type 0 where
  pub journal : List Entry
  pub legal : IsLegal s journal
  pub below : AllBelow (workers + 1) journal
  pub refusals : List ℕ
  pub each : length refusals ≡ workers
  pub worked : (w : ℕ) → w < workers → IsWorked s rounds (slice_index refusals w) (entries_with_number w journal)
  pub closed : OnlyCloses s workers journal
  pub all : refused ≡ sum refusals
  pub reported : stats ≡ statistics_of journal

-- there is a legal history of the load, in which this worker stopped since the entry of its next critical section didn't fit
pub record FillsJournal (s : Settings) (workers rounds : ℕ) : Type 0 where
  pub journal : List Entry
  pub outcomes : List (Result ℕ LoadFault)
  pub history : IsHistory s workers rounds outcomes journal
  pub worker : ℕ
  pub full : slice_get outcomes worker ≡ Some (Err JournalFull)

-- why a load stopped that had begun: a worker found the journal full, an allocation failed, or a thread was not created
abbrev pub StopsLoad : Settings → ℕ → ℕ → LoadFault → Type 0
StopsLoad s workers rounds JournalFull = FillsJournal s workers rounds
StopsLoad s workers rounds fault = IsWanting fault

-- why there is no report: a number is out of its range, or, if both are in theirs, the load stopped
abbrev pub IsLoadFault : Settings → ℕ → ℕ → LoadFault → Type 0
IsLoadFault s workers rounds WorkerCount = (workers ≡ 0) ⊎ (1023 < workers)
IsLoadFault s workers rounds RoundCount = (0 < workers) × (workers ≤ 1023) × ((rounds ≡ 0) ⊎ (1000000 < rounds))
IsLoadFault s workers rounds fault = IsInRange workers rounds × StopsLoad s workers rounds fault
