-- The possible answers to an input in an owner-respecting history.
use Rattle.pool_journal.specs.declared.input.Input.{Input}
use Rattle.pool_journal.specs.declared.input.Input.TheVariants.{Borrow, Ready, GiveBack, Park, Invalidate, Use, Add, Fill, Added, Evict, EvictNext, Tested, Reclaim, ReclaimNext, Clear, ClearNext, Destroyed, Close}
use Rattle.pool_journal.specs.declared.input.Outcome.TheVariants as outcomes
use Rattle.pool_journal.specs.declared.answer.Answer.{Answer}
use Rattle.pool_journal.specs.declared.answer.Answer.TheVariants as answers
use Rattle.pool_journal.specs.declared.answer.Cause.TheVariants as causes

-- the answer to this input is a possible one
abbrev pub IsPossibleAnswer : Input → Answer → Type 0
IsPossibleAnswer (Borrow began) (answers.Take i) = Unit {0}
IsPossibleAnswer (Borrow began) (answers.Make i) = Unit {0}
IsPossibleAnswer (Borrow began) answers.Wait = Unit {0}
IsPossibleAnswer (Borrow began) answers.Exhausted = Unit {0}
IsPossibleAnswer (Borrow began) answers.TimedOut = Unit {0}
IsPossibleAnswer (Borrow began) (answers.Refused causes.Closed) = Unit {0}
IsPossibleAnswer (Ready i outcomes.Good) answers.Lent = Unit {0}
IsPossibleAnswer (Ready i outcomes.MakeFailed) answers.Freed = Unit {0}
IsPossibleAnswer (Ready i outcomes.CreateTestFailed) answers.Destroy = Unit {0}
IsPossibleAnswer (Ready i outcomes.ActivateFailed) answers.Destroy = Unit {0}
IsPossibleAnswer (Ready i outcomes.TestFailed) answers.Destroy = Unit {0}
IsPossibleAnswer (GiveBack i) answers.Check = Unit {0}
IsPossibleAnswer (GiveBack i) answers.Gone = Unit {0}
IsPossibleAnswer (GiveBack i) (answers.Refused causes.NotLent) = Unit {0}
IsPossibleAnswer (Park i outcomes.Good) answers.Parked = Unit {0}
IsPossibleAnswer (Park i o) answers.Destroy = Unit {0}
IsPossibleAnswer (Invalidate i) answers.Destroy = Unit {0}
IsPossibleAnswer (Invalidate i) answers.Gone = Unit {0}
IsPossibleAnswer (Invalidate i) (answers.Refused causes.NotLent) = Unit {0}
IsPossibleAnswer (Use i) answers.Noted = Unit {0}
IsPossibleAnswer (Use i) answers.Gone = Unit {0}
IsPossibleAnswer (Use i) (answers.Refused causes.NotLent) = Unit {0}
IsPossibleAnswer Add (answers.Make i) = Unit {0}
IsPossibleAnswer Add answers.NoPlace = Unit {0}
IsPossibleAnswer Add (answers.Refused causes.Closed) = Unit {0}
IsPossibleAnswer Fill (answers.Make i) = Unit {0}
IsPossibleAnswer Fill answers.NoPlace = Unit {0}
IsPossibleAnswer Fill answers.Enough = Unit {0}
IsPossibleAnswer (Added i outcomes.Good) answers.Parked = Unit {0}
IsPossibleAnswer (Added i outcomes.Good) answers.Destroy = Unit {0}
IsPossibleAnswer (Added i outcomes.MakeFailed) answers.Freed = Unit {0}
IsPossibleAnswer (Added i outcomes.CreateTestFailed) answers.Destroy = Unit {0}
IsPossibleAnswer (Added i outcomes.PassivateFailed) answers.Destroy = Unit {0}
IsPossibleAnswer Evict (answers.Count n) = Unit {0}
IsPossibleAnswer Evict (answers.Refused causes.Closed) = Unit {0}
IsPossibleAnswer EvictNext (answers.KeptIdle i) = Unit {0}
IsPossibleAnswer EvictNext (answers.Test i) = Unit {0}
IsPossibleAnswer EvictNext (answers.DestroyIdle i) = Unit {0}
IsPossibleAnswer EvictNext answers.Nothing = Unit {0}
IsPossibleAnswer (Tested i outcomes.Good) answers.Kept = Unit {0}
IsPossibleAnswer (Tested i o) answers.Destroy = Unit {0}
IsPossibleAnswer (Reclaim on) (answers.Count n) = Unit {0}
IsPossibleAnswer ReclaimNext (answers.Reclaimed i) = Unit {0}
IsPossibleAnswer ReclaimNext answers.Nothing = Unit {0}
IsPossibleAnswer Clear (answers.Count n) = Unit {0}
IsPossibleAnswer ClearNext (answers.DestroyIdle i) = Unit {0}
IsPossibleAnswer ClearNext answers.Nothing = Unit {0}
IsPossibleAnswer (Destroyed i) answers.Freed = Unit {0}
IsPossibleAnswer Close (answers.Count n) = Unit {0}
IsPossibleAnswer Close answers.Nothing = Unit {0}
IsPossibleAnswer _ _ = ⊥
