-- The tasks of the factory on an object, in order, and the outcomes that follow from them.
use Rattle.std.specs.Prelude.{ℕ, Bool, true, false, ◌&&◌, if◌then◌else◌, List, [], ◌∷◌, Option, Some, None}
use Rattle.pool_journal.specs.declared.input.Outcome.{Outcome}
use Rattle.pool_journal.specs.declared.input.Outcome.TheVariants as outcomes
use Rattle.pool_calls.specs.declared.action.Action.{Action}
use Rattle.pool_calls.specs.declared.action.Action.TheVariants as actions
use Rattle.pool_calls.specs.declared.kind.Kind.{Kind}
use Rattle.pool_calls.specs.declared.kind.Kind.TheVariants as kinds
use Rattle.pool_calls.specs.declared.hook_plan.HookPlan.{HookPlan}
use Rattle.pool_calls.specs.declared.work.Task.{Task}
use Rattle.pool_calls.specs.declared.work.Task.TheVariants as tasks
use Rattle.pool_calls.specs.declared.work.Work.{Work}

-- what the host is asked to do
abbrev pub action_of : ℕ → Task → Action
action_of i tasks.Make = actions.Make i
action_of i tasks.TestNew = actions.Validate i
action_of i tasks.Activate = actions.Activate i
action_of i tasks.Test = actions.Validate i
action_of i tasks.Passivate = actions.Passivate i

-- the outcome if a task fails
abbrev pub failure_of : Task → Outcome
failure_of tasks.Make = outcomes.MakeFailed
failure_of tasks.TestNew = outcomes.CreateTestFailed
failure_of tasks.Activate = outcomes.ActivateFailed
failure_of tasks.Test = outcomes.TestFailed
failure_of tasks.Passivate = outcomes.PassivateFailed

-- the outcomes that work may have
abbrev pub allows : Work → Outcome → Bool
allows w outcomes.Good = true
allows w outcomes.MakeFailed = w.make
allows w outcomes.CreateTestFailed = w.test_new
allows w outcomes.ActivateFailed = w.activate
allows w outcomes.TestFailed = w.test
allows w outcomes.PassivateFailed = w.passivate

-- the tasks on an object of a call. An object that the call makes is new
abbrev pub work_of : HookPlan → Kind → Bool → Work
work_of p (kinds.Borrow began) new = record { make = new; test_new = new && p.test_on_create; activate = p.activates; test = p.test_on_borrow; passivate = false }
work_of p (kinds.Return i) new = record { make = false; test_new = false; activate = false; test = p.test_on_return; passivate = p.passivates }
work_of p kinds.Add new = record { make = true; test_new = p.test_on_create; activate = false; test = false; passivate = p.passivates }
work_of p kinds.Fill new = record { make = true; test_new = p.test_on_create; activate = false; test = false; passivate = p.passivates }
work_of p _ new = record { make = false; test_new = false; activate = p.activates; test = true; passivate = p.passivates }

-- ---- their order
abbrev pub from_passivate : Work → List Task
from_passivate w = if w.passivate then tasks.Passivate ∷ [] else []

abbrev pub from_test : Work → List Task
from_test w = if w.test then tasks.Test ∷ from_passivate w else from_passivate w

abbrev pub from_activate : Work → List Task
from_activate w = if w.activate then tasks.Activate ∷ from_test w else from_test w

abbrev pub from_test_new : Work → List Task
from_test_new w = if w.test_new then tasks.TestNew ∷ from_activate w else from_activate w

abbrev pub in_order : Work → List Task
in_order w = if w.make then tasks.Make ∷ from_test_new w else from_test_new w

-- the tasks after this one
abbrev pub rest_after : Work → Task → List Task
rest_after w tasks.Make = from_test_new w
rest_after w tasks.TestNew = from_activate w
rest_after w tasks.Activate = from_test w
rest_after w tasks.Test = from_passivate w
rest_after w tasks.Passivate = []

-- a task and those after it
abbrev pub tasks_at : Work → Option Task → List Task
tasks_at w None = []
tasks_at w (Some t) = t ∷ rest_after w t
