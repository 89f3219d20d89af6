-- The errors of the calls, from those of their critical sections.
use Rattle.pool_core.specs.declared.step_fault.StepFault.{StepFault}
use Rattle.pool_core.specs.declared.step_fault.StepFault.TheVariants as steps
use Rattle.pool_shared.specs.declared.faults.PoolFault.{PoolFault}
use Rattle.pool_shared.specs.declared.faults.PoolFault.TheVariants as pool_faults
use Rattle.pool_shared.specs.declared.faults.AddFault.{AddFault}
use Rattle.pool_shared.specs.declared.faults.AddFault.TheVariants as add_faults
use Rattle.pool_shared.specs.declared.faults.BorrowFault.{BorrowFault}
use Rattle.pool_shared.specs.declared.faults.BorrowFault.TheVariants as borrow_faults
use Rattle.pool_shared.specs.declared.faults.ReturnFault.{ReturnFault}
use Rattle.pool_shared.specs.declared.faults.ReturnFault.TheVariants as return_faults

-- the error of a call whose critical section failed
abbrev pub room_fault : {T : Type 0} → StepFault T → PoolFault
room_fault (steps.JournalFull out) = pool_faults.JournalFull
room_fault (steps.OutOfMemory out) = pool_faults.OutOfMemory

-- the error of a return, an invalidation or a note of a use whose critical section failed
abbrev pub return_fault : {T : Type 0} → StepFault T → ReturnFault
return_fault (steps.JournalFull out) = return_faults.JournalFull
return_fault (steps.OutOfMemory out) = return_faults.OutOfMemory

-- the error of an addition, a fill or maintenance in which a call failed with this error
abbrev pub add_fault : {E : Type 0} → PoolFault → AddFault E
add_fault pool_faults.Closed = add_faults.Closed
add_fault pool_faults.JournalFull = add_faults.JournalFull
add_fault pool_faults.OutOfMemory = add_faults.OutOfMemory

-- the error of a borrow in which a call failed with this error
abbrev pub borrow_fault : {E : Type 0} → PoolFault → BorrowFault E
borrow_fault pool_faults.Closed = borrow_faults.Closed
borrow_fault pool_faults.JournalFull = borrow_faults.JournalFull
borrow_fault pool_faults.OutOfMemory = borrow_faults.OutOfMemory
