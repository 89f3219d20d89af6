-- What follows the answers of the pool, for each kind of call.
use Rattle.std.specs.Prelude.{ℕ, zero, suc, Bool, true, false, if◌then◌else◌}
use Rattle.pool_journal.specs.declared.input.Outcome.{Outcome}
use Rattle.pool_journal.specs.declared.input.Outcome.TheVariants as outcomes
use Rattle.pool_journal.specs.declared.answer.Answer.{Answer}
use Rattle.pool_journal.specs.declared.answer.Answer.TheVariants as answers
use Rattle.pool_journal.specs.declared.answer.Cause.TheVariants as causes
use Rattle.pool_calls.specs.declared.action.End.{End}
use Rattle.pool_calls.specs.declared.action.End.TheVariants as ends
use Rattle.pool_calls.specs.declared.kind.Kind.{Kind}
use Rattle.pool_calls.specs.declared.kind.Kind.TheVariants as kinds
use Rattle.pool_calls.specs.declared.stage.Object.{Object}
use Rattle.pool_calls.specs.declared.stage.Request.{Request}
use Rattle.pool_calls.specs.declared.stage.Request.TheVariants as requests
use Rattle.pool_calls.specs.declared.stage.Stage.{Stage}
use Rattle.pool_calls.specs.declared.stage.Stage.TheVariants as stages
use Rattle.pool_calls.specs.Steps.{is_borrow}

-- the pool gives this answer to no such call
abbrev pub contradicted : Answer → Stage
contradicted a = stages.Ends (ends.Contradicted a)

-- the factory does its tasks on an object, which up to `left` more may follow
abbrev pub works : ℕ → Bool → ℕ → Stage
works i new left = stages.Works (record { id = i; is_new = new; left = left })

-- an object is removed
abbrev pub removes : ℕ → ℕ → Stage
removes i left = stages.Removes (record { id = i; is_new = false; left = left }) outcomes.Good

-- the call went through all the objects that the pool counted: a borrow asks
abbrev pub through : Kind → Stage
through k = if is_borrow k then stages.Asks requests.Ask else stages.Ends ends.Complete

-- it goes through up to so many more
abbrev pub go_through : Kind → ℕ → Stage
go_through k zero = through k
go_through k (suc rest) = stages.Asks (requests.Next rest)

-- ---- the steps by which calls ask
abbrev pub after_borrowing : Answer → Stage
after_borrowing (answers.Take i) = works i false 0
after_borrowing (answers.Make i) = works i true 0
after_borrowing answers.Wait = stages.Asks requests.Ask
after_borrowing answers.Exhausted = stages.Ends ends.Exhausted
after_borrowing answers.TimedOut = stages.Ends ends.TimedOut
after_borrowing (answers.Refused causes.Closed) = stages.Ends ends.Closed
after_borrowing a = contradicted a

abbrev pub after_returning : ℕ → Answer → Stage
after_returning i answers.Check = works i false 0
after_returning i answers.Gone = stages.Gone i
after_returning i (answers.Refused causes.NotLent) = stages.Ends ends.NotLent
after_returning i a = contradicted a

abbrev pub after_invalidating : ℕ → Answer → Stage
after_invalidating i answers.Destroy = removes i 0
after_invalidating i answers.Gone = stages.Gone i
after_invalidating i (answers.Refused causes.NotLent) = stages.Ends ends.NotLent
after_invalidating i a = contradicted a

-- the holder keeps the object
abbrev pub after_detaching : ℕ → Answer → Stage
after_detaching i answers.Destroy = removes i 0
after_detaching i answers.Gone = stages.Ends ends.Gone
after_detaching i (answers.Refused causes.NotLent) = stages.Ends ends.NotLent
after_detaching i a = contradicted a

abbrev pub after_touching : Answer → Stage
after_touching answers.Noted = stages.Ends ends.Noted
after_touching answers.Gone = stages.Ends ends.Gone
after_touching (answers.Refused causes.NotLent) = stages.Ends ends.NotLent
after_touching a = contradicted a

abbrev pub after_adding : Answer → Stage
after_adding (answers.Make i) = works i true 0
after_adding answers.NoPlace = stages.Ends ends.NoPlace
after_adding (answers.Refused causes.Closed) = stages.Ends ends.Closed
after_adding a = contradicted a

abbrev pub after_filling : Answer → Stage
after_filling (answers.Make i) = works i true 0
after_filling answers.Enough = stages.Ends ends.Complete
after_filling answers.NoPlace = stages.Ends ends.Complete
after_filling a = contradicted a

abbrev pub after_evicting : Answer → Stage
after_evicting (answers.Count n) = go_through kinds.Evict n
after_evicting (answers.Refused causes.Closed) = stages.Ends ends.Closed
after_evicting a = contradicted a

abbrev pub after_reclaiming : Kind → Answer → Stage
after_reclaiming k (answers.Count n) = go_through k n
after_reclaiming k a = contradicted a

-- a clear or a close
abbrev pub after_clearing : Answer → Stage
after_clearing (answers.Count n) = go_through kinds.Clear n
after_clearing answers.Nothing = stages.Ends ends.Complete
after_clearing a = contradicted a

abbrev pub after_asking : Kind → Answer → Stage
after_asking (kinds.Borrow began) a = after_borrowing a
after_asking (kinds.Return i) a = after_returning i a
after_asking (kinds.Invalidate i) a = after_invalidating i a
after_asking (kinds.Detach i) a = after_detaching i a
after_asking (kinds.Touch i) a = after_touching a
after_asking kinds.Add a = after_adding a
after_asking kinds.Fill a = after_filling a
after_asking kinds.Evict a = after_evicting a
after_asking kinds.Reclaim a = after_reclaiming kinds.Reclaim a
after_asking kinds.Clear a = after_clearing a
after_asking kinds.Close a = after_clearing a

-- ---- the steps for the next object, which up to `left` more may follow
abbrev pub after_examining : ℕ → Answer → Stage
after_examining left (answers.KeptIdle i) = go_through kinds.Evict left
after_examining left (answers.Test i) = works i false left
after_examining left (answers.DestroyIdle i) = removes i left
after_examining left answers.Nothing = stages.Ends ends.Complete
after_examining left a = contradicted a

abbrev pub after_taking : ℕ → Answer → Stage
after_taking left (answers.DestroyIdle i) = removes i left
after_taking left answers.Nothing = stages.Ends ends.Complete
after_taking left a = contradicted a

abbrev pub after_removing : Kind → ℕ → Answer → Stage
after_removing k left (answers.Reclaimed i) = go_through k left
after_removing k left answers.Nothing = through k
after_removing k left a = contradicted a

abbrev pub after_next : Kind → ℕ → Answer → Stage
after_next (kinds.Borrow began) left a = after_removing (kinds.Borrow began) left a
after_next kinds.Reclaim left a = after_removing kinds.Reclaim left a
after_next kinds.Evict left a = after_examining left a
after_next _ left a = after_taking left a

-- a step that a call takes while it holds no object
abbrev pub after_request : Kind → Request → Answer → Stage
after_request k requests.Begin a = after_reclaiming k a
after_request k requests.Ask a = after_asking k a
after_request k (requests.Next left) a = after_next k left a

-- ---- the steps for an object
-- how a call ends whose object is gone, after work with this outcome
abbrev pub end_by : Outcome → End
end_by outcomes.Good = ends.Destroyed
end_by outcomes.MakeFailed = ends.MakeFailed
end_by outcomes.CreateTestFailed = ends.CreateTestFailed
end_by outcomes.ActivateFailed = ends.ActivateFailed
end_by outcomes.TestFailed = ends.BorrowTestFailed
end_by outcomes.PassivateFailed = ends.PassivateFailed

-- a fill goes on after a good object, which found the pool closed
abbrev pub fill_on : Outcome → Stage
fill_on outcomes.Good = stages.Asks requests.Ask
fill_on o = stages.Ends (end_by o)

-- the object is gone, and its place is free: a borrow that took it asks again
abbrev pub after_object : Kind → Object → Outcome → Stage
after_object (kinds.Borrow began) object o = if object.is_new then stages.Ends (end_by o) else stages.Asks requests.Ask
after_object kinds.Add object o = stages.Ends (end_by o)
after_object kinds.Fill object o = fill_on o
after_object kinds.Evict object o = go_through kinds.Evict object.left
after_object kinds.Clear object o = go_through kinds.Clear object.left
after_object kinds.Close object o = go_through kinds.Close object.left
after_object _ object o = stages.Ends ends.Destroyed

abbrev pub after_freeing : Kind → Object → Outcome → Answer → Stage
after_freeing k object o answers.Freed = after_object k object o
after_freeing k object o a = contradicted a

abbrev pub parked : Kind → Stage
parked kinds.Fill = stages.Asks requests.Ask
parked _ = stages.Ends ends.Parked

abbrev pub after_parking : Kind → Object → Answer → Stage
after_parking k object answers.Parked = parked k
after_parking k object answers.Destroy = stages.Removes object outcomes.Good
after_parking k object a = contradicted a

abbrev pub after_test : Object → Answer → Stage
after_test object answers.Kept = go_through kinds.Evict object.left
after_test object answers.Destroy = stages.Removes object outcomes.Good
after_test object a = contradicted a

abbrev pub after_lending : ℕ → Answer → Stage
after_lending i answers.Lent = stages.Ends (ends.Lent i)
after_lending i a = contradicted a

-- a good object was reported
abbrev pub after_good : Kind → Object → Answer → Stage
after_good (kinds.Borrow began) object a = after_lending object.id a
after_good (kinds.Return i) object a = after_parking (kinds.Return i) object a
after_good kinds.Add object a = after_parking kinds.Add object a
after_good kinds.Fill object a = after_parking kinds.Fill object a
after_good _ object a = after_test object a

-- one was reported that failed a task
abbrev pub after_failure : Object → Outcome → Answer → Stage
after_failure object o answers.Destroy = stages.Removes object o
after_failure object o a = contradicted a

abbrev pub after_report : Kind → Object → Outcome → Answer → Stage
after_report k object outcomes.Good a = after_good k object a
after_report k object outcomes.MakeFailed a = after_freeing k object outcomes.MakeFailed a
after_report k object o a = after_failure object o a
