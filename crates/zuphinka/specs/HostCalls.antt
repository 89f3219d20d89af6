-- The calls in progress that hosts keep.
use Rattle.std.specs.Prelude.{◌≡◌, ℕ, Bool, true, false}
use Rattle.pool_host.specs.declared.call.Call.{Call}
use Rattle.pool_host.specs.Words.{Reads}
use Rattle.zuphinka.specs.declared.host_call.HostCall.{HostCall}

-- the mark of a struct that has a call in progress: the bytes `zuphinka`
abbrev pub mark : ℕ
mark = 0x616b6e696870757a

-- a struct has this call in progress, of the pool with this number
pub record Holds (pool : ℕ) (h : HostCall) (c : Call) : Type 0 where
  pub marked : h.mark ≡ mark
  pub same : h.pool ≡ pool
  pub words : Reads h.words c

-- it has no call in progress of the pool with this number
abbrev pub HoldsNone : ℕ → HostCall → Type 0
HoldsNone pool h = (c : Call) → Holds pool h c → ⊥

-- it has this call of the pool with this number, or none of any pool if the call is over
abbrev pub Keeps : Bool → ℕ → HostCall → Call → Type 0
Keeps true pool h c = (other : ℕ) → HoldsNone other h
Keeps false pool h c = Holds pool h c
