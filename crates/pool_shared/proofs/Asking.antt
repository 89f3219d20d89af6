-- The trace of a borrow.
use Rattle.std.specs.Prelude.{◌&&◌}
use Rattle.std.proofs.Common.{◌≡◌, ℕ, Bool, true, false, if◌then◌else◌, Result, refl, sym, ap, subst}
use Rattle.pool_journal.specs.declared.input.Input.TheVariants.{Borrow, Ready, Destroyed}
use Rattle.pool_journal.specs.declared.input.Outcome.{Outcome}
use Rattle.pool_journal.specs.declared.input.Outcome.TheVariants as outcomes
use Rattle.pool_journal.specs.declared.answer.Answer.{Answer}
use Rattle.pool_journal.specs.declared.answer.Answer.TheVariants as answers
use Rattle.pool_journal.specs.declared.answer.Cause.TheVariants as causes
use Rattle.pool_settings.specs.declared.settings.Settings.{Settings}
use Rattle.pool_history.specs.Answers.{IsPossibleAnswer}
use Rattle.pool_history.specs.CallerStates.{CallerState, Advances}
use Rattle.pool_lock.specs.Sections.{AppendsAnswer}
use Rattle.pool_shared.specs.declared.faults.BorrowFault.{BorrowFault}
use Rattle.pool_shared.specs.declared.lent.Lent.{Lent}
use Rattle.pool_shared.specs.Traces.{Trace, Ends}
use Rattle.pool_calls.specs.declared.kind.Kind.TheVariants as kinds
use Rattle.pool_calls.specs.Rules.{first_stage}
use Rattle.pool_calls.specs.Table.{works, after_borrowing}
use Rattle.pool_shared.specs.Plans.{plan_of}
use Rattle.pool_shared.specs.Stages.{begins, asks}
use Rattle.pool_shared.specs.Borrows.{BorrowEnds, BorrowsFrom, IsFailure, IsFound, lost}
use Rattle.pool_shared.proofs.Traces.{trace_on, trace_more, trace_destroyed, ComesFrom, comes_on}
use Rattle.pool_shared.proofs.TracesToResults.{row_at, row_on}

module _ (s : Settings) (began : ℕ) where
  -- a borrow that asked once more
  pub asked_on : (a : Answer) (first now after : CallerState) → Trace s (kinds.Borrow began) asks first now asks → AppendsAnswer (Borrow began) a now after → Trace s (kinds.Borrow began) asks first after (after_borrowing a)
  asked_on a first now after w made = trace_more s (kinds.Borrow began) asks asks (after_borrowing a) (Borrow began) a a first now after w refl made refl refl

  pub to_there : (a b : Answer) (before after : CallerState) → a ≡ b → Trace s (kinds.Borrow began) asks before after (after_borrowing a) → Trace s (kinds.Borrow began) asks before after (after_borrowing b)
  to_there a b before after is w = subst (λ c. Trace s (kinds.Borrow began) asks before after (after_borrowing c)) is w

  -- a borrow that asked and was refused
  pub refuses : {T E : Type 0} (number : ℕ) (a b : Answer) (r : Result (Lent T) (BorrowFault E)) (before after : CallerState) → a ≡ b → Trace s (kinds.Borrow began) asks before after (after_borrowing a)
      → BorrowEnds s number began (after_borrowing b) r after → BorrowsFrom s number began asks r before after
  refuses number a b r before after is w ends = row_at s (kinds.Borrow began) (BorrowEnds s number began) asks (after_borrowing b) r before after (to_there a b before after is w) ends

  -- a borrow that asked and has to wait
  pub waited : (a : Answer) (first now after : CallerState) → a ≡ answers.Wait → ComesFrom first now → Trace s (kinds.Borrow began) asks first now asks
      → Advances s now after → AppendsAnswer (Borrow began) a now after → ComesFrom first after × Trace s (kinds.Borrow began) asks first after asks
  waited a first now after is come w goes made = (comes_on s first now after come goes, to_there a answers.Wait first after is (asked_on a first now after w made))

  -- a borrow whose round had no result
  pub once_more : (first now after : CallerState) → ComesFrom first now → Trace s (kinds.Borrow began) asks first now asks
      → Advances s now after → Trace s (kinds.Borrow began) asks now after asks → ComesFrom first after × Trace s (kinds.Borrow began) asks first after asks
  once_more first now after come w goes more = (comes_on s first now after come goes, trace_on s (kinds.Borrow began) asks asks asks first now after w more)

-- an object that was not made ready is destroyed
pub unready : (s : Settings) (began i : ℕ) (new : Bool) (o : Outcome) (x : Answer) (a b c : CallerState) → IsFailure s new o → x ≡ answers.Destroy → AppendsAnswer (Ready i o) x a b → AppendsAnswer (Destroyed i) answers.Freed b c
    → Trace s (kinds.Borrow began) (works i new 0) a c (lost new o)
unready s began i new outcomes.CreateTestFailed x a b c fails is made freed =
    trace_destroyed s (kinds.Borrow began) (works i new 0) (lost new outcomes.CreateTestFailed) i (Ready i outcomes.CreateTestFailed) x answers.Destroy a b c is made freed (refl, first_test new fails) refl refl
  where
    first_test : (new : Bool) → IsFailure s new outcomes.CreateTestFailed → (new && s.test_on_create) ≡ true
    first_test true fails = fails.1
    first_test false fails = absurd (cc fails.0)
unready s began i new outcomes.ActivateFailed x a b c fails is made freed =
    trace_destroyed s (kinds.Borrow began) (works i new 0) (lost new outcomes.ActivateFailed) i (Ready i outcomes.ActivateFailed) x answers.Destroy a b c is made freed (refl, refl) refl refl
unready s began i new outcomes.TestFailed x a b c fails is made freed =
    trace_destroyed s (kinds.Borrow began) (works i new 0) (lost new outcomes.TestFailed) i (Ready i outcomes.TestFailed) x answers.Destroy a b c is made freed (refl, fails) refl refl
unready s began i new _ x a b c fails is made freed = absurd fails

pub is_found : (began : ℕ) (a : Answer) → IsPossibleAnswer (Borrow began) a → (a ≡ answers.Wait → ⊥) → IsFound a
is_found began (answers.Take i) it other = tt
is_found began (answers.Make i) it other = tt
is_found began answers.Wait it other = absurd (other refl)
is_found began answers.Exhausted it other = tt
is_found began answers.TimedOut it other = tt
is_found began (answers.Refused causes.Closed) it other = tt
is_found began (answers.Refused _) it other = absurd it
is_found began _ it other = absurd it

-- a lent value names the object that its last entry lends
pub lent_ends : (i j : ℕ) (me : CallerState) → j ≡ i → Ends (Ready i outcomes.Good) answers.Lent me → Ends (Ready j outcomes.Good) answers.Lent me
lent_ends i j me is ends = subst (λ k. Ends (Ready k outcomes.Good) answers.Lent me) (sym is) ends

-- the first stage of a borrow that begins with a removal
removes_first : (s : Settings) (began : ℕ) → s.remove_abandoned_on_borrow ≡ true → first_stage (plan_of s) (kinds.Borrow began) ≡ begins
removes_first s began set = ap (λ (x : Bool). if x then begins else asks) set

-- a borrow that begins without a removal
pub asks_at_once : {T E : Type 0} (s : Settings) (number began : ℕ) (r : Result (Lent T) (BorrowFault E)) (a b : CallerState) → s.remove_abandoned_on_borrow ≡ false → BorrowsFrom s number began asks r a b → BorrowsFrom s number began (first_stage (plan_of s) (kinds.Borrow began)) r a b
asks_at_once s number began r a b set row = subst (λ st. BorrowsFrom s number began st r a b) (sym (ap (λ (x : Bool). if x then begins else asks) set)) row

-- a borrow that is over with its removal
pub removes_then : {T E : Type 0} (s : Settings) (number began : ℕ) (r : Result (Lent T) (BorrowFault E)) (a b : CallerState) → s.remove_abandoned_on_borrow ≡ true
    → BorrowsFrom s number began begins r a b → BorrowsFrom s number began (first_stage (plan_of s) (kinds.Borrow began)) r a b
removes_then s number began r a b set row = subst (λ st. BorrowsFrom s number began st r a b) (sym (removes_first s began set)) row

-- a borrow that asks after its removal
pub asks_then : {T E : Type 0} (s : Settings) (number began : ℕ) (r : Result (Lent T) (BorrowFault E)) (a b c : CallerState) → s.remove_abandoned_on_borrow ≡ true → Trace s (kinds.Borrow began) begins a b asks
    → BorrowsFrom s number began asks r b c → BorrowsFrom s number began (first_stage (plan_of s) (kinds.Borrow began)) r a c
asks_then s number began r a b c set w row =
    removes_then s number began r a c set (row_on s (kinds.Borrow began) (BorrowEnds s number began) begins asks r a b c w row)
