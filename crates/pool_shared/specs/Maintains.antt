-- The trace of maintenance.
use Rattle.std.specs.Prelude.{◌≡◌, ℕ, Result, Ok, Err}
use Rattle.pool_settings.specs.declared.settings.Settings.{Settings}
use Rattle.pool_history.specs.CallerStates.{CallerState, Advances}
use Rattle.pool_shared.specs.declared.evicting.EvictRun.{EvictRun}
use Rattle.pool_shared.specs.declared.faults.AddFault.{AddFault}
use Rattle.pool_shared.specs.declared.faults.PoolFault.{PoolFault}
use Rattle.pool_shared.specs.Faults.{add_fault}
use Rattle.pool_shared.specs.Evicts.{EvictSpec}
use Rattle.pool_shared.specs.Reclaims.{ReclaimSpec}
use Rattle.pool_shared.specs.Fills.{FillSpec}

-- an eviction run succeeded
pub record HasEvicted (s : Settings) (before after : CallerState) : Type 0 where
  pub run : EvictRun
  pub goes : Advances s before after
  pub row : EvictSpec s (Ok run) before after

-- a removal of abandoned objects succeeded
pub record HasReclaimed (s : Settings) (before after : CallerState) : Type 0 where
  pub taken : ℕ
  pub goes : Advances s before after
  pub row : ReclaimSpec s (Ok taken) before after

-- failed maintenance: the eviction run, the removal after it or the fill after both is the first that fails
pub data Fails {E : Type 0} (s : Settings) (f : AddFault E) (before after : CallerState) : Type 0 where
  in_evicting : (g : PoolFault) → f ≡ add_fault g → EvictSpec s (Err g) before after → Fails s f before after
  in_reclaiming : (g : PoolFault) (mid : CallerState) → f ≡ add_fault g → HasEvicted s before mid → ReclaimSpec s (Err g) mid after → Fails s f before after
  in_filling : (mid later : CallerState) → HasEvicted s before mid → HasReclaimed s mid later → FillSpec s (Err f) later after → Fails s f before after

-- the trace of whole maintenance: an eviction run, a removal and a fill, or these up to the first error
abbrev pub MaintainSpec : {U E : Type 0} → Settings → Result U (AddFault E) → CallerState → CallerState → Type 0
MaintainSpec {U} {E} s (Ok u) before after = (mid : CallerState) × (later : CallerState) × (n : ℕ) × HasEvicted s before mid × HasReclaimed s mid later × FillSpec {E = E} s (Ok n) later after
MaintainSpec s (Err f) before after = Fails s f before after
