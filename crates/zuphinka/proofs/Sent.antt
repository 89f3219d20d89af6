-- A handle may go to another thread, with the pool that it owns: nothing of them belongs to a thread.
use Rattle.std.proofs.Common.{Option, Some, None}
use mir.Raw.{raw}
use base.Fraction.{full_share}
use base.Shift.{Keyless}
use denote.Builtin.{RawPtr}
use denote.Memory.{lone}
use denote.Param.Send.{IsSend, owning_send, part_keyless, sendable}
use denote.RawPtr.{Ptr, block_ptr, null_ptr}
use Rattle.std.proofs.Crossing.{frees}
use Rattle.std.specs.declared.alloc.Global.{Global}
use Rattle.std.specs.contracts.alloc.Global as heap
use Rattle.zuphinka.specs.Opening.{OpenModel}
use Rattle.zuphinka.specs.Holding.{Pools, holds}
use Rattle.zuphinka.proofs.open_pool.OpenPool.TheSendSync.{the_send}
use Rattle.zuphinka.specs.contracts.handle.Handle as handle

pointers : IsSend RawPtr
pointers = search sendable

heap_handles : IsSend (heap.the_field).row
heap_handles = search sendable depth 20

keyless : (a : Global) (p : Ptr) (c : Option OpenModel) → Keyless (holds a p c)
keyless a p None = tt
keyless a (block_ptr b o) (Some x) = (part_keyless Pools the_send full_share x b o, frees.frees a (raw (lone Pools.mir)) (block_ptr b o))
keyless a null_ptr (Some x) = (tt, frees.frees a (raw (lone Pools.mir)) null_ptr)

pub handles : IsSend handle.the_row
handles = owning_send handle.the_type (pointers, (heap_handles, tt)) (λ d. keyless d.alloc d.at d.held) (λ k d w. tt)
