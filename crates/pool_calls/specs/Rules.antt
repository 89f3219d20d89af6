-- The rules of the calls, one for all kinds: the steps that are expected, the work of the factory, the events that fit, and the ends.
use Rattle.std.specs.Prelude.{◌≡◌, ℕ, if◌then◌else◌, Bool, true, false, not, ◌&&◌, List, [], ◌∷◌, map, Option, Some, None, ◌⊎◌}
use Rattle.pool_journal.specs.declared.input.Input.{Input}
use Rattle.pool_journal.specs.declared.input.Input.TheVariants as inputs
use Rattle.pool_journal.specs.declared.input.When.TheVariants as times
use Rattle.pool_journal.specs.declared.input.Outcome.TheVariants as outcomes
use Rattle.pool_journal.specs.declared.answer.Answer.{Answer}
use Rattle.pool_journal.specs.declared.answer.Answer.TheVariants as answers
use Rattle.pool_calls.specs.declared.action.Action.{Action}
use Rattle.pool_calls.specs.declared.action.Action.TheVariants as actions
use Rattle.pool_calls.specs.declared.action.Event.{Event}
use Rattle.pool_calls.specs.declared.action.Event.TheVariants as events
use Rattle.pool_calls.specs.declared.action.End.{End}
use Rattle.pool_calls.specs.declared.action.End.TheVariants as ends
use Rattle.pool_calls.specs.declared.action.StepFailure.TheVariants as failures
use Rattle.pool_calls.specs.declared.kind.Kind.{Kind}
use Rattle.pool_calls.specs.declared.hook_plan.HookPlan.{HookPlan}
use Rattle.pool_calls.specs.declared.work.Task.{Task}
use Rattle.pool_calls.specs.declared.work.Task.TheVariants as tasks
use Rattle.pool_calls.specs.declared.work.Work.{Work}
use Rattle.pool_calls.specs.declared.stage.Object.{Object}
use Rattle.pool_calls.specs.declared.stage.Request.{Request}
use Rattle.pool_calls.specs.declared.stage.Request.TheVariants as requests
use Rattle.pool_calls.specs.declared.stage.Stage.{Stage}
use Rattle.pool_calls.specs.declared.stage.Stage.TheVariants as stages
use Rattle.pool_calls.specs.declared.stage.Place.{Place}
use Rattle.pool_calls.specs.declared.stage.Place.TheVariants as places
use Rattle.pool_calls.specs.Steps.{ask_of, next_of, report_of, outcome_of, destroys, is_borrow}
use Rattle.pool_calls.specs.Table.{after_request, after_report, after_freeing}
use Rattle.pool_calls.specs.Tasks.{action_of, failure_of, allows, work_of, in_order, rest_after}
use Rattle.pool_calls.specs.Turns.{Turn, but_first, is_full}

-- ---- the steps
-- where a call begins: a borrow may reclaim abandoned objects first
abbrev pub first_stage : HookPlan → Kind → Stage
first_stage p k = if is_borrow k && p.remove_abandoned_on_borrow then stages.Asks requests.Begin else stages.Asks requests.Ask

-- the stage after one more turn
abbrev pub next : Kind → Stage → Turn → Stage
next k (stages.Asks request) t = after_request k request t.answer
next k (stages.Works object) t = after_report k object (outcome_of t.input) t.answer
next k (stages.Removes object o) t = after_freeing k object o t.answer
next k stage t = stage

-- the step for a request
abbrev pub step_for : Kind → Request → Input
step_for k requests.Begin = inputs.Reclaim times.Borrow
step_for k requests.Ask = ask_of k
step_for k (requests.Next left) = next_of k

-- the first step of a call
abbrev pub first_step : HookPlan → Kind → Input
first_step p k = if is_borrow k && p.remove_abandoned_on_borrow then inputs.Reclaim times.Borrow else ask_of k

-- the input reports an outcome that the work may have
abbrev pub IsReport : Kind → Work → ℕ → Input → Type 0
IsReport k w i input = (input ≡ report_of k i (outcome_of input)) × (allows w (outcome_of input) ≡ true)

-- the next input
abbrev pub IsExpected : HookPlan → Kind → Stage → Input → Type 0
IsExpected p k (stages.Asks request) input = input ≡ step_for k request
IsExpected p k (stages.Works object) input = IsReport k (work_of p k object.is_new) object.id input
IsExpected p k (stages.Removes object o) input = input ≡ inputs.Destroyed object.id
IsExpected p k _ input = ⊥

-- ---- the ends
-- an end of a call that takes its step no more
abbrev pub IsUnanswered : Request → End → Type 0
IsUnanswered request (ends.NotTaken f) = Unit {0}
IsUnanswered request ends.Cancelled = Unit {0}
IsUnanswered request ends.TimedOut = request ≡ requests.Ask
IsUnanswered request _ = ⊥

-- a call that was given up may end as such after its last object
abbrev pub IsEnd : End → End → Type 0
IsEnd e f = (f ≡ e) ⊎ ((e ≡ ends.Complete) × (f ≡ ends.Cancelled))

-- the possible ends at a stage: none of them leaves an object in progress
abbrev pub MayEnd : Stage → End → Type 0
MayEnd (stages.Asks request) e = IsUnanswered request e
MayEnd (stages.Gone i) e = e ≡ ends.Gone
MayEnd (stages.Ends e) f = IsEnd e f
MayEnd _ e = ⊥

-- ---- places
-- a call is at this place at a stage
abbrev pub IsAt : HookPlan → Kind → Place → Stage → Type 0
IsAt p k (places.Asks request) s = s ≡ stages.Asks request
IsAt p k (places.LacksRoom request) s = s ≡ stages.Asks request
IsAt p k places.Waits s = s ≡ stages.Asks requests.Ask
IsAt p k (places.Works task object) s = (s ≡ stages.Works object) × (allows (work_of p k object.is_new) (failure_of task) ≡ true)
IsAt p k (places.Reports o object) s = (s ≡ stages.Works object) × (allows (work_of p k object.is_new) o ≡ true)
IsAt p k (places.Destroys o object) s = s ≡ stages.Removes object o
IsAt p k (places.Frees o object) s = s ≡ stages.Removes object o
IsAt p k (places.DestroysGone i) s = s ≡ stages.Gone i
IsAt p k (places.Ended e) s = MayEnd s e

-- the place of a call with this object, and the task that comes next
abbrev pub work_on : Object → Option Task → Place
work_on object (Some task) = places.Works task object
work_on object None = places.Reports outcomes.Good object

-- the call holds no object and has not failed: one that is given up ends
abbrev pub is_free : Stage → Bool
is_free (stages.Asks request) = true
is_free (stages.Ends ends.Complete) = true
is_free _ = false

-- the step that is asked for at a place
abbrev pub step_at : Kind → Place → Option Input
step_at k (places.Asks request) = Some (step_for k request)
step_at k (places.Reports o object) = Some (report_of k object.id o)
step_at k (places.Frees o object) = Some (inputs.Destroyed object.id)
step_at k _ = None

-- the stage after an answer at a place
abbrev pub stage_after : Kind → Place → Answer → Stage
stage_after k (places.Asks request) a = after_request k request a
stage_after k (places.Reports o object) a = after_report k object o a
stage_after k (places.Frees o object) a = after_freeing k object o a
stage_after k _ a = stages.Ends (ends.Contradicted a)

-- a call goes on from a place to another: to a place for the next stage after an answer, and for the same stage otherwise
abbrev pub GoesOn : HookPlan → Kind → Event → Place → Place → Type 0
GoesOn p k (events.Answered a) before after = IsAt p k after (stage_after k before a)
GoesOn p k _ before after = (s : Stage) → IsAt p k before s → IsAt p k after s

-- ---- actions
-- the call holds no object at this stage
abbrev pub HoldsNothing : Stage → Type 0
HoldsNothing (stages.Asks request) = Unit {0}
HoldsNothing _ = ⊥

-- the factory does its tasks on this object
abbrev pub IsWorking : ℕ → Stage → Type 0
IsWorking i (stages.Works object) = i ≡ object.id
IsWorking i _ = ⊥

-- the factory destroys this object
abbrev pub IsDestroying : ℕ → Stage → Type 0
IsDestroying i (stages.Removes object o) = i ≡ object.id
IsDestroying i (stages.Gone j) = i ≡ j
IsDestroying i _ = ⊥

-- an action is right at a stage
abbrev pub IsRight : HookPlan → Kind → Stage → Action → Type 0
IsRight p k s (actions.Step input) = IsExpected p k s input
IsRight p k s actions.MakeRoom = HoldsNothing s
IsRight p k s (actions.Make i) = IsWorking i s
IsRight p k s (actions.Activate i) = IsWorking i s
IsRight p k s (actions.Validate i) = IsWorking i s
IsRight p k s (actions.Passivate i) = IsWorking i s
IsRight p k s (actions.Destroy i) = IsDestroying i s
IsRight p k s actions.Wait = s ≡ stages.Asks requests.Ask
IsRight p k s (actions.Done e) = MayEnd s e

-- ---- the work of the factory
-- the work that a stage begins with
abbrev pub work_due : HookPlan → Kind → Stage → List Action
work_due p k (stages.Works object) = map (action_of object.id) (in_order (work_of p k object.is_new))
work_due p k (stages.Removes object o) = if destroys k then actions.Destroy object.id ∷ [] else []
work_due p k (stages.Gone i) = actions.Destroy i ∷ []
work_due p k _ = []

-- the work that is left at a place
abbrev pub work_left : HookPlan → Kind → Place → List Action
work_left p k (places.Works task object) = map (action_of object.id) (task ∷ rest_after (work_of p k object.is_new) task)
work_left p k (places.Destroys o object) = actions.Destroy object.id ∷ []
work_left p k (places.DestroysGone i) = actions.Destroy i ∷ []
work_left p k _ = []

-- what is reported is good
abbrev pub IsGood : Place → Type 0
IsGood (places.Reports o object) = o ≡ outcomes.Good
IsGood _ = Unit {0}

-- the place after a task that failed: without further work its failure is reported. What the factory failed to destroy is destroyed
abbrev pub failed : Place → Place
failed (places.Works task object) = places.Reports (failure_of task) object
failed (places.Destroys o object) = places.Frees o object
failed (places.DestroysGone i) = places.Ended ends.Gone
failed place = place

-- the place of a call that is given up: one without an object ends, and a task that was under way has failed
abbrev pub given_up_at : Place → Place
given_up_at (places.Asks request) = places.Ended ends.Cancelled
given_up_at (places.LacksRoom request) = places.Ended ends.Cancelled
given_up_at places.Waits = places.Ended ends.Cancelled
given_up_at (places.Works task object) = places.Reports (failure_of task) object
given_up_at place = place

-- An answer begins the work that is due. A success does the first of it, and only a good object is left without work. The rest
-- begins no work
abbrev pub Works : HookPlan → Kind → Event → Place → Place → Type 0
Works p k (events.Answered a) before after = work_left p k after ≡ work_due p k (stage_after k before a)
Works p k events.Succeeded before after = (work_left p k after ≡ but_first (work_left p k before)) × IsGood after
Works p k events.Failed before after = after ≡ failed before
Works p k events.Cancelled before after = after ≡ given_up_at before
Works p k _ before after = work_left p k after ≡ []

-- ---- the events that fit
abbrev pub has_step : Place → Bool
has_step (places.Asks request) = true
has_step (places.Reports o object) = true
has_step (places.Frees o object) = true
has_step _ = false

-- a step that may find no room
abbrev pub has_first_step : Place → Bool
has_first_step (places.Asks request) = true
has_first_step _ = false

abbrev pub lacks_room : Place → Bool
lacks_room (places.LacksRoom request) = true
lacks_room _ = false

abbrev pub has_work : Place → Bool
has_work (places.Works task object) = true
has_work (places.Destroys o object) = true
has_work (places.DestroysGone i) = true
has_work _ = false

abbrev pub is_making : Place → Bool
is_making (places.Works tasks.Make object) = true
is_making _ = false

abbrev pub is_waiting : Place → Bool
is_waiting places.Waits = true
is_waiting _ = false

-- a borrow asks
abbrev pub is_asking : Kind → Place → Bool
is_asking k (places.Asks requests.Ask) = is_borrow k
is_asking k _ = false

abbrev pub is_over : Place → Bool
is_over (places.Ended e) = true
is_over _ = false

-- an event fits what the host was asked to do. A call is given up once
abbrev pub fits : Kind → Bool → Place → Event → Bool
fits k given_up place (events.Answered a) = has_step place
fits k given_up place (events.NotTaken f) = has_first_step place
fits k given_up place events.RoomMade = lacks_room place
fits k given_up place events.NoRoom = lacks_room place
fits k given_up place events.Succeeded = has_work place
fits k given_up place events.Failed = has_work place
fits k given_up place events.Queued = is_asking k place
fits k given_up place events.Woken = is_waiting place
fits k given_up place events.TimeOver = is_waiting place
fits k given_up place events.Cancelled = not given_up && not (is_over place)

-- ---- pauses
abbrev pub is_wait : Answer → Bool
is_wait answers.Wait = true
is_wait _ = false

-- a borrow comes to wait if the pool has nothing for it yet, or if others come first
abbrev pub comes_to_wait : Kind → Event → Place → Bool
comes_to_wait k (events.Answered a) before = is_asking k before && is_wait a
comes_to_wait k events.Queued before = is_asking k before
comes_to_wait k _ before = false

-- the place where the journal has no room for the step, and the one where it has
abbrev pub paused : Place → Place
paused (places.Asks request) = places.LacksRoom request
paused place = place

abbrev pub resumed : Place → Place
resumed (places.LacksRoom request) = places.Asks request
resumed place = place

-- How a call pauses and goes on. A full journal ends no call: it asks for the same step once there is room
abbrev pub Resumes : Event → Place → Place → Type 0
Resumes (events.NotTaken failures.JournalFull) before after = after ≡ paused before
Resumes (events.NotTaken failures.OutOfMemory) before after = after ≡ places.Ended (ends.NotTaken failures.OutOfMemory)
Resumes events.RoomMade before after = after ≡ resumed before
Resumes events.NoRoom before after = after ≡ places.Ended (ends.NotTaken failures.JournalFull)
Resumes events.Queued before after = after ≡ places.Waits
Resumes events.Woken before after = after ≡ places.Asks requests.Ask
Resumes events.TimeOver before after = after ≡ places.Ended ends.TimedOut
Resumes _ before after = Unit {0}

abbrev pub Pauses : Kind → Event → Place → Place → Type 0
Pauses k event before after = (lacks_room after ≡ is_full event) × (is_waiting after ≡ comes_to_wait k event before) × Resumes event before after
