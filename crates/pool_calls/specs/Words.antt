-- A call in progress as plain numbers.
use Rattle.std.specs.Prelude.{◌≡◌, ℕ, ◌==◌, if◌then◌else◌, Bool, not, Option, Some, None}
use Rattle.std.specs.Option.{option_map}
use Rattle.pool_journal.specs.declared.input.Outcome.{Outcome}
use Rattle.pool_journal.specs.declared.input.Outcome.TheVariants as outcomes
use Rattle.pool_calls.specs.declared.kind.Kind.{Kind}
use Rattle.pool_calls.specs.declared.kind.Kind.TheVariants as kinds
use Rattle.pool_calls.specs.declared.operation.Operation.{Operation}
use Rattle.pool_calls.specs.declared.hook_plan.HookPlan.{HookPlan}
use Rattle.pool_calls.specs.declared.stage.Object.{Object}
use Rattle.pool_calls.specs.declared.stage.Place.{Place}
use Rattle.pool_calls.specs.declared.stage.Place.TheVariants as places
use Rattle.pool_calls.specs.declared.stage.Request.{Request}
use Rattle.pool_calls.specs.declared.stage.Request.TheVariants as requests
use Rattle.pool_calls.specs.declared.work.Task.{Task}
use Rattle.pool_calls.specs.declared.work.Task.TheVariants as tasks
use Rattle.pool_calls.specs.declared.operation.words.OperationWords.{OperationWords}
use Rattle.pool_calls.specs.declared.words.PlaceWords.{PlaceWords}
use Rattle.pool_calls.specs.declared.words.HookPlanWords.{HookPlanWords}

-- ---- the parts
-- a flag is set
abbrev pub is_set : ℕ → Bool
is_set flag = not (flag == 0)

abbrev pub plan_in : HookPlanWords → HookPlan
plan_in w =
    record {
      remove_abandoned_on_borrow = is_set w.remove_abandoned_on_borrow;
      test_on_create = is_set w.test_on_create;
      test_on_borrow = is_set w.test_on_borrow;
      test_on_return = is_set w.test_on_return;
      activates = is_set w.activates;
      passivates = is_set w.passivates;
    }

-- the kind of a code and a number, if there is one
abbrev pub kind_in : ℕ → ℕ → Option Kind
kind_in code number =
    if code == 1 then Some (kinds.Borrow number)
    else (if code == 2 then Some (kinds.Return number)
    else (if code == 3 then Some (kinds.Invalidate number)
    else (if code == 4 then Some (kinds.Detach number)
    else (if code == 5 then Some (kinds.Touch number)
    else (if code == 6 then Some kinds.Add
    else (if code == 7 then Some kinds.Fill
    else (if code == 8 then Some kinds.Evict
    else (if code == 9 then Some kinds.Reclaim
    else (if code == 10 then Some kinds.Clear
    else (if code == 11 then Some kinds.Close
    else None))))))))))

abbrev pub request_in : ℕ → ℕ → Option Request
request_in code left =
    if code == 1 then Some requests.Begin
    else (if code == 2 then Some requests.Ask
    else (if code == 3 then Some (requests.Next left)
    else None))

abbrev pub task_at : ℕ → Option Task
task_at code =
    if code == 1 then Some tasks.Make
    else (if code == 2 then Some tasks.TestNew
    else (if code == 3 then Some tasks.Activate
    else (if code == 4 then Some tasks.Test
    else (if code == 5 then Some tasks.Passivate
    else None))))

abbrev pub outcome_at : ℕ → Option Outcome
outcome_at code =
    if code == 1 then Some outcomes.Good
    else (if code == 2 then Some outcomes.MakeFailed
    else (if code == 3 then Some outcomes.CreateTestFailed
    else (if code == 4 then Some outcomes.ActivateFailed
    else (if code == 5 then Some outcomes.TestFailed
    else (if code == 6 then Some outcomes.PassivateFailed
    else None)))))

abbrev pub object_in : PlaceWords → Object
object_in w = record { id = w.id; is_new = is_set w.is_new; left = w.left }

-- the place, if it is one of a call in progress
abbrev pub place_in : PlaceWords → Option Place
place_in w =
    if w.code == 1 then option_map (λ t. places.Works t (object_in w)) (task_at w.detail)
    else (if w.code == 2 then Some places.Waits
    else (if w.code == 3 then option_map places.Asks (request_in w.detail w.left)
    else (if w.code == 4 then option_map places.LacksRoom (request_in w.detail w.left)
    else (if w.code == 5 then option_map (λ o. places.Reports o (object_in w)) (outcome_at w.detail)
    else (if w.code == 6 then option_map (λ o. places.Destroys o (object_in w)) (outcome_at w.detail)
    else (if w.code == 7 then option_map (λ o. places.Frees o (object_in w)) (outcome_at w.detail)
    else (if w.code == 8 then Some (places.DestroysGone w.id)
    else None)))))))

-- ---- a call
-- the numbers of its place
abbrev pub place_of : OperationWords → PlaceWords
place_of w = record { id = w.id; left = w.left; is_new = w.is_new; code = w.place; detail = w.detail }

-- the numbers are those of this call
pub record Reads (w : OperationWords) (op : Operation) : Type 0 where
  pub kind : kind_in w.kind w.number ≡ Some op.kind
  pub place : place_in (place_of w) ≡ Some op.place
  pub plan : plan_in w.plan ≡ op.plan
  pub given_up : is_set w.given_up ≡ op.given_up
  pub counts : w.counts ≡ op.counts

-- the numbers are those of no call
abbrev pub ReadsNone : OperationWords → Type 0
ReadsNone w = (op : Operation) → Reads w op → ⊥

-- the numbers are those of one call alone
abbrev pub ReadsOne : Type 0
ReadsOne = (w : OperationWords) (a b : Operation) → Reads w a → Reads w b → a ≡ b
