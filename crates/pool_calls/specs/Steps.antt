-- The steps that each kind of call asks for.
use Rattle.std.specs.Prelude.{ℕ, Bool, true, false}
use Rattle.pool_journal.specs.declared.input.Input.{Input}
use Rattle.pool_journal.specs.declared.input.Input.TheVariants as inputs
use Rattle.pool_journal.specs.declared.input.When.TheVariants as times
use Rattle.pool_journal.specs.declared.input.Outcome.{Outcome}
use Rattle.pool_journal.specs.declared.input.Outcome.TheVariants as outcomes
use Rattle.pool_journal.specs.declared.answer.Answer.{Answer}
use Rattle.pool_journal.specs.declared.answer.Answer.TheVariants as answers
use Rattle.pool_calls.specs.declared.kind.Kind.{Kind}
use Rattle.pool_calls.specs.declared.kind.Kind.TheVariants as kinds

-- the step by which a call asks the pool
abbrev pub ask_of : Kind → Input
ask_of (kinds.Borrow began) = inputs.Borrow began
ask_of (kinds.Return i) = inputs.GiveBack i
ask_of (kinds.Invalidate i) = inputs.Invalidate i
ask_of (kinds.Detach i) = inputs.Invalidate i
ask_of (kinds.Touch i) = inputs.Use i
ask_of kinds.Add = inputs.Add
ask_of kinds.Fill = inputs.Fill
ask_of kinds.Evict = inputs.Evict
ask_of kinds.Reclaim = inputs.Reclaim times.Maintain
ask_of kinds.Clear = inputs.Clear
ask_of kinds.Close = inputs.Close

-- the step for the next of the objects that the pool counted
abbrev pub next_of : Kind → Input
next_of (kinds.Borrow began) = inputs.ReclaimNext
next_of kinds.Reclaim = inputs.ReclaimNext
next_of kinds.Evict = inputs.EvictNext
next_of _ = inputs.ClearNext

-- the step that reports the outcome of the factory's tasks on an object
abbrev pub report_of : Kind → ℕ → Outcome → Input
report_of (kinds.Borrow began) i o = inputs.Ready i o
report_of (kinds.Return j) i o = inputs.Park i o
report_of kinds.Add i o = inputs.Added i o
report_of kinds.Fill i o = inputs.Added i o
report_of _ i o = inputs.Tested i o

-- the outcome that a step reports
abbrev pub outcome_of : Input → Outcome
outcome_of (inputs.Ready i o) = o
outcome_of (inputs.Park i o) = o
outcome_of (inputs.Added i o) = o
outcome_of (inputs.Tested i o) = o
outcome_of _ = outcomes.Good

-- the factory destroys what a call removes, unless its holder keeps it
abbrev pub destroys : Kind → Bool
destroys (kinds.Detach i) = false
destroys _ = true

abbrev pub is_borrow : Kind → Bool
is_borrow (kinds.Borrow began) = true
is_borrow _ = false

-- ---- counts
abbrev pub is_parked : Answer → Bool
is_parked answers.Parked = true
is_parked _ = false

abbrev pub is_reclaimed : Answer → Bool
is_reclaimed (answers.Reclaimed i) = true
is_reclaimed _ = false

abbrev pub is_taken : Answer → Bool
is_taken (answers.DestroyIdle i) = true
is_taken _ = false

abbrev pub is_examined : Answer → Bool
is_examined (answers.KeptIdle i) = true
is_examined (answers.Test i) = true
is_examined (answers.DestroyIdle i) = true
is_examined _ = false

abbrev pub is_freed : Answer → Bool
is_freed answers.Freed = true
is_freed _ = false

-- a call counts an object at this answer
abbrev pub is_counted : Kind → Answer → Bool
is_counted kinds.Fill a = is_parked a
is_counted kinds.Reclaim a = is_reclaimed a
is_counted kinds.Clear a = is_taken a
is_counted kinds.Close a = is_taken a
is_counted kinds.Evict a = is_examined a
is_counted _ a = false
