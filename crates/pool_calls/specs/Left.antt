-- How many reports are left at most.
use Rattle.std.specs.Prelude.{ℕ, ◌<◌, ◌+◌, ◌*◌, ◌^◌, if◌then◌else◌, length}
use Rattle.pool_journal.specs.declared.answer.Answer.{Answer}
use Rattle.pool_journal.specs.declared.answer.Answer.TheVariants as answers
use Rattle.pool_calls.specs.declared.kind.Kind.{Kind}
use Rattle.pool_calls.specs.declared.kind.Kind.TheVariants as kinds
use Rattle.pool_calls.specs.declared.hook_plan.HookPlan.{HookPlan}
use Rattle.pool_calls.specs.declared.stage.Request.{Request}
use Rattle.pool_calls.specs.declared.stage.Request.TheVariants as requests
use Rattle.pool_calls.specs.declared.stage.Place.{Place}
use Rattle.pool_calls.specs.declared.stage.Place.TheVariants as places
use Rattle.pool_calls.specs.declared.stage.Stage.{Stage}
use Rattle.pool_calls.specs.declared.stage.Stage.TheVariants as stages
use Rattle.pool_calls.specs.Steps.{is_borrow}
use Rattle.pool_calls.specs.Tasks.{work_of, rest_after}

-- ---- all reports, for a call that is given up
-- at a place
abbrev pub reports_left : Place → ℕ
reports_left (places.Ended e) = 0
reports_left (places.Frees o object) = 1
reports_left (places.DestroysGone i) = 1
reports_left (places.Destroys o object) = 2
reports_left (places.Reports o object) = 3
reports_left _ = 4

-- after an answer by which it comes to this stage: it asks for nothing more
abbrev pub stage_left : Stage → ℕ
stage_left (stages.Works object) = 4
stage_left (stages.Removes object o) = 2
stage_left (stages.Gone i) = 1
stage_left _ = 0

-- a count of objects has 64 bits
abbrev pub CountFits : Answer → Type 0
CountFits (answers.Count n) = n < 2 ^ 64
CountFits a = Unit {0}

-- ---- answers and reports of the factory, for any call: until a borrow or a fill asks again
-- at the step by which it asks
abbrev pub asking_left : Kind → ℕ
asking_left (kinds.Borrow began) = 8
asking_left (kinds.Return i) = 6
asking_left (kinds.Touch i) = 1
asking_left kinds.Add = 7
asking_left kinds.Fill = 7
asking_left kinds.Evict = 7 * 2 ^ 64
asking_left kinds.Reclaim = 2 ^ 64
asking_left kinds.Clear = 3 * 2 ^ 64
asking_left kinds.Close = 3 * 2 ^ 64
asking_left _ = 3

-- for each of the objects that the pool counted
abbrev pub each_left : Kind → ℕ
each_left (kinds.Borrow began) = 1
each_left kinds.Reclaim = 1
each_left kinds.Evict = 7
each_left _ = 3

-- once it went through them
abbrev pub through_left : Kind → ℕ
through_left k = if is_borrow k then asking_left k else 0

abbrev pub request_left : Kind → Request → ℕ
request_left k requests.Begin = each_left k * 2 ^ 64 + through_left k
request_left k requests.Ask = asking_left k
request_left k (requests.Next left) = each_left k * (left + 1) + through_left k

-- at a place
abbrev pub events_left : HookPlan → Kind → Place → ℕ
events_left p k (places.Asks request) = request_left k request
events_left p k (places.LacksRoom request) = request_left k request
events_left p k places.Waits = asking_left k
events_left p k (places.Works task object) = each_left k * object.left + length (rest_after (work_of p k object.is_new) task) + 4
events_left p k (places.Reports o object) = each_left k * object.left + 3
events_left p k (places.Destroys o object) = each_left k * object.left + 2
events_left p k (places.Frees o object) = each_left k * object.left + 1
events_left p k (places.DestroysGone i) = 1
events_left p k (places.Ended e) = 0

-- ---- steps in a row, before the factory's next call or the end: until a borrow asks again
-- at the step by which it asks
abbrev pub asking_steps : Kind → ℕ
asking_steps (kinds.Touch i) = 1
asking_steps kinds.Add = 1
asking_steps kinds.Fill = 1
asking_steps kinds.Evict = 2 ^ 64
asking_steps kinds.Reclaim = 2 ^ 64
asking_steps _ = 2

-- at the step for the next object: one that a clear takes is destroyed
abbrev pub next_steps : Kind → ℕ → ℕ
next_steps (kinds.Borrow began) left = left + 1
next_steps kinds.Reclaim left = left + 1
next_steps kinds.Evict left = left + 1
next_steps (kinds.Detach i) left = 2
next_steps _ left = 1

-- at the step that frees the place of an object
abbrev pub freeing_steps : Kind → ℕ → ℕ
freeing_steps (kinds.Borrow began) left = 1
freeing_steps (kinds.Return i) left = 1
freeing_steps (kinds.Invalidate i) left = 1
freeing_steps (kinds.Detach i) left = 1
freeing_steps kinds.Evict left = left + 1
freeing_steps kinds.Reclaim left = left + 1
freeing_steps _ left = 2

-- at the step that reports an object
abbrev pub reporting_steps : Kind → ℕ → ℕ
reporting_steps (kinds.Invalidate i) left = 2
reporting_steps (kinds.Detach i) left = 3
reporting_steps k left = freeing_steps k left

abbrev pub request_steps : Kind → Request → ℕ
request_steps k requests.Begin = 2 ^ 64
request_steps k requests.Ask = asking_steps k
request_steps k (requests.Next left) = next_steps k left

-- at a place
abbrev pub steps_left : Kind → Place → ℕ
steps_left k (places.Asks request) = request_steps k request
steps_left k (places.LacksRoom request) = request_steps k request
steps_left k (places.Reports o object) = reporting_steps k object.left
steps_left k (places.Frees o object) = freeing_steps k object.left
steps_left k _ = 0
