-- The effect of a step on a pool.
use Rattle.std.specs.Prelude.{◌≡◌, ℕ, [], ◌∷◌, ◌++◌, Option, Some, None}
use Rattle.pool_journal.specs.declared.input.Input.{Input}
use Rattle.pool_journal.specs.declared.input.Input.TheVariants.{Borrow, Ready, GiveBack, Park}
use Rattle.pool_journal.specs.declared.input.Outcome.TheVariants as outcomes
use Rattle.pool_journal.specs.declared.answer.Answer.{Answer}
use Rattle.pool_journal.specs.declared.answer.Answer.TheVariants as answers
use Rattle.pool_core.specs.declared.step_fault.StepFault.{StepFault}
use Rattle.pool_core.specs.declared.step_fault.StepFault.TheVariants.{JournalFull, OutOfMemory}
use Rattle.pool_core.specs.Reply.{reply_from}
use Rattle.pool_core.specs.Legal.{expected_entry_from}
use Rattle.pool_core.specs.Fits.{FitsLimitFrom, ExceedsLimitFrom}
use Rattle.pool_core.specs.Values.{TransfersValue}
use Rattle.pool_core.specs.Pool.{CoreModel}

-- the new pool has one more entry, which fits and has the expected answer
pub record Answered {T : Type 0} (caller at : ℕ) (input : Input) (handed : Option T) (old new : CoreModel T) (answer : Answer)
    (out : Option T) : Type 0 where
  pub due : answer ≡ reply_from old.settings old.base old.journal at input
  pub appended : new.journal ≡ old.journal ++ expected_entry_from old.settings old.base old.journal caller at input ∷ []
  pub fits : FitsLimitFrom old.settings old.base new.journal
  pub settings_stay : new.settings ≡ old.settings
  pub base_stays : new.base ≡ old.base
  pub transfers : TransfersValue answer input old.places new.places handed out

-- an idle object is lent by the two steps of a borrow
pub record LendsIdle {T : Type 0} (caller at began id : ℕ) (old new : CoreModel T) (value : T) : Type 0 where
  pub mid : CoreModel T
  pub taken : Answered caller at (Borrow began) None old mid (answers.Take id) (Some value)
  pub lent : Answered caller at (Ready id outcomes.Good) None mid new answers.Lent None

-- a lent object is idle again by the two steps of a return
pub record ParksLent {T : Type 0} (caller at id : ℕ) (old new : CoreModel T) (value : T) : Type 0 where
  pub mid : CoreModel T
  pub checked : Answered caller at (GiveBack id) None old mid answers.Check None
  pub parked : Answered caller at (Park id outcomes.Good) (Some value) mid new answers.Parked None

-- the journal is full exactly if the expected entry does not fit, and the value passed in is returned
abbrev pub Faulted : {T : Type 0} → ℕ → ℕ → Input → Option T → CoreModel T → StepFault T → Type 0
Faulted caller at input handed old (JournalFull out) =
    ExceedsLimitFrom old.settings old.base (old.journal ++ expected_entry_from old.settings old.base old.journal caller at input ∷ []) × (out ≡ handed)
Faulted caller at input handed old (OutOfMemory out) =
    FitsLimitFrom old.settings old.base (old.journal ++ expected_entry_from old.settings old.base old.journal caller at input ∷ []) × (out ≡ handed)
