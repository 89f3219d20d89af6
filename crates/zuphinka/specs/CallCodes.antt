-- The codes of calls, reports, actions and ends.
use Rattle.std.specs.Prelude.{ℕ, ◌==◌, if◌then◌else◌, Option, Some, None}
use Rattle.pool_calls.specs.declared.action.Action.{Action}
use Rattle.pool_calls.specs.declared.action.Action.TheVariants as actions
use Rattle.pool_calls.specs.declared.action.End.{End}
use Rattle.pool_calls.specs.declared.action.End.TheVariants as ends
use Rattle.pool_calls.specs.declared.action.StepFailure.{StepFailure}
use Rattle.pool_calls.specs.declared.action.StepFailure.TheVariants as failures
use Rattle.pool_host.specs.declared.report.Report.{Report}
use Rattle.pool_host.specs.declared.report.Report.TheVariants as reports
use Rattle.zuphinka.specs.declared.event.CallEvent.{CallEvent}
use Rattle.zuphinka.specs.declared.starting.Kind.{Kind}
use Rattle.zuphinka.specs.declared.starting.Kind.TheVariants as kinds

-- the kind of a code, if it is one
abbrev pub kind_at : ℕ → Option Kind
kind_at code =
    if code == 1 then Some kinds.Borrow
    else (if code == 2 then Some kinds.Return
    else (if code == 3 then Some kinds.Invalidate
    else (if code == 4 then Some kinds.Detach
    else (if code == 5 then Some kinds.Touch
    else (if code == 6 then Some kinds.Add
    else (if code == 7 then Some kinds.Fill
    else (if code == 8 then Some kinds.Evict
    else (if code == 9 then Some kinds.Reclaim
    else (if code == 10 then Some kinds.Clear
    else (if code == 11 then Some kinds.Close
    else None))))))))))

-- the reports that their codes alone determine
abbrev pub plain_report : ℕ → Option Report
plain_report code =
    if code == 1 then Some reports.GoOn
    else (if code == 3 then Some reports.Succeeded
    else (if code == 4 then Some reports.Failed
    else (if code == 5 then Some reports.Woken
    else (if code == 6 then Some reports.RoomMade
    else (if code == 7 then Some reports.NoRoom
    else (if code == 8 then Some reports.GivenUp
    else None))))))

-- the report of an event, if its code is valid
abbrev pub report_of : CallEvent → Option Report
report_of e = if e.report == 2 then Some (reports.Made e.object) else plain_report e.report

abbrev pub action_code : Action → ℕ
action_code (actions.Step input) = 1
action_code actions.MakeRoom = 2
action_code (actions.Make i) = 3
action_code (actions.Activate i) = 4
action_code (actions.Validate i) = 5
action_code (actions.Passivate i) = 6
action_code (actions.Destroy i) = 7
action_code actions.Wait = 8
action_code (actions.Done e) = 9

abbrev pub failure_code : StepFailure → ℕ
failure_code failures.JournalFull = 17
failure_code failures.OutOfMemory = 18

abbrev pub end_code : End → ℕ
end_code (ends.Lent i) = 1
end_code ends.Closed = 2
end_code ends.Exhausted = 3
end_code ends.TimedOut = 4
end_code ends.MakeFailed = 5
end_code ends.CreateTestFailed = 6
end_code ends.ActivateFailed = 7
end_code ends.BorrowTestFailed = 8
end_code ends.PassivateFailed = 9
end_code ends.Parked = 10
end_code ends.Destroyed = 11
end_code ends.Gone = 12
end_code ends.NotLent = 13
end_code ends.Noted = 14
end_code ends.NoPlace = 15
end_code ends.Complete = 16
end_code (ends.NotTaken f) = failure_code f
end_code ends.Cancelled = 19
end_code (ends.Contradicted a) = 20

-- the code of the end of an action; 0 if the call is not over
abbrev pub action_end : Action → ℕ
action_end (actions.Done e) = end_code e
action_end _ = 0

-- the id of the object that an end names; 0 for the others
abbrev pub end_number : End → ℕ
end_number (ends.Lent i) = i
end_number _ = 0

-- the id of the object that an action is for, or that is lent; 0 for the others
abbrev pub action_number : Action → ℕ
action_number (actions.Make i) = i
action_number (actions.Activate i) = i
action_number (actions.Validate i) = i
action_number (actions.Passivate i) = i
action_number (actions.Destroy i) = i
action_number (actions.Done e) = end_number e
action_number _ = 0
