-- The trace of a removal within a borrow.
use Rattle.std.proofs.Common.{inl, inr, ℕ, Result, Ok, Err, refl}
use Rattle.pool_journal.specs.declared.input.Input.TheVariants.{Reclaim}
use Rattle.pool_journal.specs.declared.input.When.TheVariants as times
use Rattle.pool_journal.specs.declared.answer.Answer.TheVariants as answers
use Rattle.pool_settings.specs.declared.settings.Settings.{Settings}
use Rattle.pool_calls.specs.declared.kind.Kind.TheVariants as kinds
use Rattle.pool_calls.specs.declared.stage.Request.TheVariants as requests
use Rattle.pool_calls.specs.declared.stage.Stage.{Stage}
use Rattle.pool_calls.specs.declared.stage.Stage.TheVariants as stages
use Rattle.pool_calls.specs.Table.{go_through}
use Rattle.pool_history.specs.CallerStates.{CallerState}
use Rattle.pool_shared.specs.declared.faults.PoolFault.{PoolFault}
use Rattle.pool_shared.specs.declared.faults.PoolFault.TheVariants as faults
use Rattle.pool_shared.specs.Faults.{borrow_fault}
use Rattle.pool_shared.specs.Stages.{begins, asks, takes}
use Rattle.pool_shared.specs.Traces.{Trace}
use Rattle.pool_shared.specs.Borrows.{IsStopped, BorrowEnds, BorrowsFrom, IsFaultFrom}
use Rattle.pool_shared.specs.Reclaims.{HasBegun, Removes}
use Rattle.pool_shared.proofs.Traces.{trace_one, trace_on}
use Rattle.pool_shared.proofs.TracesToResults.{row_at, row_none}

module _ (s : Settings) (began : ℕ) where
  -- a borrow that has begun a removal, and goes on with it to a stage
  along : (to : Stage) (r : Result ℕ PoolFault) (a b : CallerState) (row : HasBegun s times.Borrow r a b) → Trace s (kinds.Borrow began) (go_through (kinds.Borrow began) row.0) row.1 b to → Trace s (kinds.Borrow began) begins a b to
  along to r a b row rest =
      let from = go_through (kinds.Borrow began) row.0 in
      trace_on s (kinds.Borrow began) begins from to a row.1 b (trace_one s (kinds.Borrow began) begins from (Reclaim times.Borrow) (answers.Count row.0) a row.1 row.2 refl refl) rest

  -- a removal that is complete
  pub removed : (n : ℕ) (a b : CallerState) → Removes s times.Borrow (Ok n) a b → Trace s (kinds.Borrow began) begins a b asks
  removed n a b row = along asks (Ok n) a b row (row.3 (kinds.Borrow began) tt).0

  -- a borrow that failed at this stage
  pub ends_stopped : (T E : Type 0) (number : ℕ) (st : Stage) (f : PoolFault) (me : CallerState) → IsStopped s began f st me → BorrowEnds {T = T} {E = E} s number began st (Err (borrow_fault f)) me
  ends_stopped T E number st faults.JournalFull me why = why
  ends_stopped T E number st faults.OutOfMemory me why = why
  ends_stopped T E number (stages.Asks requests.Begin) faults.Closed me why = absurd why.1
  ends_stopped T E number (stages.Asks (requests.Next left)) faults.Closed me why = absurd why.1
  ends_stopped T E number (stages.Asks requests.Ask) faults.Closed me why = absurd why.1
  ends_stopped T E number _ faults.Closed me why = absurd why

  -- a removal that failed, and with it the borrow
  pub removal_failed : (T E : Type 0) (number : ℕ) (f : PoolFault) (a b : CallerState) → Removes s times.Borrow (Err f) a b → BorrowsFrom {T = T} {E = E} s number began begins (Err (borrow_fault f)) a b
  removal_failed T E number f a b (inl none) =
      row_none s (kinds.Borrow began) (BorrowEnds {T = T} {E = E} s number began) begins (Err (borrow_fault f)) a b none.0 (ends_stopped T E number begins f b none.1)
  removal_failed T E number f a b (inr row) =
      let part = row.3 (kinds.Borrow began) tt in
      row_at s (kinds.Borrow began) (BorrowEnds {T = T} {E = E} s number began) begins (takes part.0) (Err (borrow_fault f)) a b (along (takes part.0) (Err f) a b row part.1) (ends_stopped T E number (takes part.0) f b part.2)

-- such a borrow has no error of the factory
pub not_from_factory : {E : Type 0} (make activate : E → Type 0) (f : PoolFault) → IsFaultFrom make activate (borrow_fault f)
not_from_factory make activate faults.Closed = tt
not_from_factory make activate faults.JournalFull = tt
not_from_factory make activate faults.OutOfMemory = tt
