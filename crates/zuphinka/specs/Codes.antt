-- The codes of inputs and answers.
use Rattle.std.specs.Prelude.{ℕ, ◌==◌, if◌then◌else◌, Option, Some, None, is_some, unwrap_or}
use Rattle.std.specs.Option.{option_or}
use Rattle.pool_journal.specs.declared.input.Input.{Input}
use Rattle.pool_journal.specs.declared.input.Input.TheVariants as inputs
use Rattle.pool_journal.specs.declared.input.Outcome.{Outcome}
use Rattle.pool_journal.specs.declared.input.Outcome.TheVariants as outcomes
use Rattle.pool_journal.specs.declared.input.When.TheVariants as times
use Rattle.pool_journal.specs.declared.answer.Answer.{Answer}
use Rattle.pool_journal.specs.declared.answer.Answer.TheVariants as answers
use Rattle.pool_journal.specs.declared.answer.Cause.{Cause}
use Rattle.pool_journal.specs.declared.answer.Cause.TheVariants as causes
use Rattle.zuphinka.specs.declared.request.Request.{Request}
use Rattle.zuphinka.specs.declared.reply.Reply.{Reply}

-- the outcome of a code, if it is one
abbrev pub outcome_at : ℕ → Option Outcome
outcome_at code =
    if code == 1 then Some outcomes.Good
    else (if code == 2 then Some outcomes.MakeFailed
    else (if code == 3 then Some outcomes.CreateTestFailed
    else (if code == 4 then Some outcomes.ActivateFailed
    else (if code == 5 then Some outcomes.TestFailed
    else (if code == 6 then Some outcomes.PassivateFailed
    else None)))))

-- the inputs that their codes alone determine
abbrev pub plain_at : ℕ → Option Input
plain_at code =
    if code == 7 then Some inputs.Add
    else (if code == 8 then Some inputs.Fill
    else (if code == 10 then Some inputs.Evict
    else (if code == 11 then Some inputs.EvictNext
    else (if code == 13 then Some (inputs.Reclaim times.Borrow)
    else (if code == 14 then Some (inputs.Reclaim times.Maintain)
    else (if code == 15 then Some inputs.ReclaimNext
    else (if code == 16 then Some inputs.Clear
    else (if code == 17 then Some inputs.ClearNext
    else (if code == 19 then Some inputs.Close
    else None)))))))))

-- the inputs with a number: the time at which a borrow began, or the id of an object
abbrev pub numbered_at : ℕ → ℕ → Option Input
numbered_at code n =
    if code == 1 then Some (inputs.Borrow n)
    else (if code == 3 then Some (inputs.GiveBack n)
    else (if code == 5 then Some (inputs.Invalidate n)
    else (if code == 6 then Some (inputs.Use n)
    else (if code == 18 then Some (inputs.Destroyed n)
    else None))))

-- the inputs that report the outcome of work on an object
abbrev pub reported_at : ℕ → ℕ → Outcome → Option Input
reported_at code i o =
    if code == 2 then Some (inputs.Ready i o)
    else (if code == 4 then Some (inputs.Park i o)
    else (if code == 9 then Some (inputs.Added i o)
    else (if code == 12 then Some (inputs.Tested i o)
    else None)))

-- the same, for an outcome that may be none
abbrev pub reported_with : ℕ → ℕ → Option Outcome → Option Input
reported_with code i None = None
reported_with code i (Some o) = reported_at code i o

-- the input of a request, if its codes are valid
abbrev pub input_of : Request → Option Input
input_of q = option_or (plain_at q.input) (option_or (numbered_at q.input q.number) (reported_with q.input q.number (outcome_at q.outcome)))

abbrev pub answer_code : Answer → ℕ
answer_code (answers.Take i) = 1
answer_code (answers.Make i) = 2
answer_code answers.Wait = 3
answer_code answers.Exhausted = 4
answer_code answers.TimedOut = 5
answer_code answers.Lent = 6
answer_code answers.Check = 7
answer_code answers.Parked = 8
answer_code answers.Kept = 9
answer_code (answers.KeptIdle i) = 10
answer_code answers.Destroy = 11
answer_code (answers.DestroyIdle i) = 12
answer_code (answers.Test i) = 13
answer_code answers.Freed = 14
answer_code answers.Gone = 15
answer_code answers.Noted = 16
answer_code (answers.Count n) = 17
answer_code (answers.Reclaimed i) = 18
answer_code answers.Nothing = 19
answer_code answers.Enough = 20
answer_code answers.NoPlace = 21
answer_code (answers.Refused cause) = 22

-- the id of the object that an answer names, or the number that it counts; 0 for the others
abbrev pub answer_number : Answer → ℕ
answer_number (answers.Take i) = i
answer_number (answers.Make i) = i
answer_number (answers.KeptIdle i) = i
answer_number (answers.DestroyIdle i) = i
answer_number (answers.Test i) = i
answer_number (answers.Count n) = n
answer_number (answers.Reclaimed i) = i
answer_number _ = 0

abbrev pub cause_code : Cause → ℕ
cause_code causes.Closed = 1
cause_code causes.NotLent = 2
cause_code causes.NotHeld = 3
cause_code causes.BadOutcome = 4

-- the code of the cause of an answer `Refused`; 0 for the other answers
abbrev pub answer_cause : Answer → ℕ
answer_cause (answers.Refused cause) = cause_code cause
answer_cause _ = 0

-- the reply to C, with an answer and the value that is returned with it
abbrev pub reply_of : Answer → Option ℕ → Reply
reply_of answer out =
    record {
      number = answer_number answer;
      object = unwrap_or out 0;
      answer = answer_code answer;
      cause = answer_cause answer;
      has_object = is_some out;
    }
