-- The memory that a handle owns.
use Rattle.std.specs.Prelude.{Option, Some, None}
use Rattle.std.specs.Coded.{Coded, coded_option}
use base.Fml.{Fml, feq}
use denote.RattleType.{RattleType}
use denote.RawPtr.{Ptr, null_ptr}
use Rattle.std.specs.Box.Ownership.{box_owns}
use Rattle.std.specs.declared.alloc.Global.{Global}
use Rattle.std.specs.contracts.impls.GlobalAllocator.TheImpl.{ghosts}
use Rattle.zuphinka.specs.Opening.{OpenModel}
use Rattle.zuphinka.specs.contracts.open_pool.OpenPool as pools

-- a pool for C, as a type
abbrev pub Pools : RattleType
Pools = pools.the_row

abbrev pub pool_code : Coded (Option OpenModel)
pool_code = coded_option Pools.coded

-- nothing at null, and otherwise a box with the pool, which may be freed
abbrev pub holds : Global → Ptr → Option OpenModel → Fml
holds a p None = feq Ptr p null_ptr
holds a p (Some pool) = box_owns (ghosts.dealloc_token a) Pools p pool
