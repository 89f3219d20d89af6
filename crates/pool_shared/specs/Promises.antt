-- The guarantees to a borrower about the object that it was lent.
use Rattle.std.specs.Prelude.{◌≡◌, ℕ, ◌<◌, true, length, slice_get, Some}
use Rattle.pool_journal.specs.Entries.{lends}
use Rattle.pool_journal.specs.Journal.{phase}
use Rattle.pool_journal.specs.declared.entry.Entry.{Entry}
use Rattle.pool_journal.specs.declared.answer.Answer.TheVariants.{Lent}
use Rattle.pool_journal.specs.declared.input.Input.TheVariants.{Ready}
use Rattle.pool_journal.specs.declared.input.Outcome.TheVariants.{Good}
use Rattle.pool_journal.specs.declared.record.Phase.TheVariants as phases
use Rattle.pool_core.specs.Laws.{LeavesLent}
use Rattle.pool_history.specs.CallerStates.{CallerState}
use Rattle.pool_shared.specs.Traces.{Ends}

-- the caller's last entry, at the end of its observed history, lends the object to it; each earlier loan of the object ended
-- before that entry
pub record IsAlone (i : ℕ) (me : CallerState) : Type 0 where
  pub by : Ends (Ready i Good) Lent me
  pub lent : phase i me.observed ≡ phases.Lent
  pub ended : (k : ℕ) (e : Entry) → slice_get by.found k ≡ Some e → lends i e ≡ true → (m : ℕ) × (k < m) × (m < length by.found) × LeavesLent me.observed i m
