-- The trace of maintenance, from its three parts.
use Rattle.std.proofs.Common.{◌≡◌, ℕ, Result, Ok, Err, IsErrAnd, sym, subst}
use Rattle.pool_settings.specs.declared.settings.Settings.{Settings}
use Rattle.pool_history.specs.CallerStates.{CallerState, Advances}
use Rattle.pool_shared.specs.declared.evicting.EvictRun.{EvictRun}
use Rattle.pool_shared.specs.declared.faults.AddFault.{AddFault}
use Rattle.pool_shared.specs.declared.faults.PoolFault.{PoolFault}
use Rattle.pool_shared.specs.Faults.{add_fault}
use Rattle.pool_shared.specs.Evicts.{EvictSpec}
use Rattle.pool_shared.specs.Reclaims.{ReclaimSpec}
use Rattle.pool_shared.specs.Fills.{FillSpec}
use Rattle.pool_shared.specs.Maintains.{in_evicting, in_reclaiming, in_filling, MaintainSpec}

module _ {U E : Type 0} (s : Settings) where
  -- the eviction run failed
  pub evict_stops : (r : Result U (AddFault E)) (g : PoolFault) (a b : CallerState) → IsErrAnd r (λ f. f ≡ add_fault g) → EvictSpec s (Err g) a b → MaintainSpec s r a b
  evict_stops (Ok u) g a b is row = absurd is
  evict_stops (Err f) g a b is row = in_evicting g is row

  -- the removal failed
  pub reclaim_stops : (r : Result U (AddFault E)) (run : EvictRun) (g : PoolFault) (a b c : CallerState) → IsErrAnd r (λ f. f ≡ add_fault g) → Advances s a b → EvictSpec s (Ok run) a b → ReclaimSpec s (Err g) b c → MaintainSpec s r a c
  reclaim_stops (Ok u) run g a b c is goes evicts row = absurd is
  reclaim_stops (Err f) run g a b c is goes evicts row = in_reclaiming g b is record { run = run; goes = goes; row = evicts } row

  -- the fill failed
  pub fill_stops : (r : Result U (AddFault E)) (run : EvictRun) (n : ℕ) (g : AddFault E) (a b c d : CallerState) → IsErrAnd r (λ f. f ≡ g) → Advances s a b → EvictSpec s (Ok run) a b → Advances s b c → ReclaimSpec s (Ok n) b c
      → FillSpec s (Err g) c d → MaintainSpec s r a d
  fill_stops (Ok u) run n g a b c d is there evicts then_there removes row = absurd is
  fill_stops (Err f) run n g a b c d is there evicts then_there removes row =
      in_filling b c record { run = run; goes = there; row = evicts } record { taken = n; goes = then_there; row = removes } (subst (λ h. FillSpec s (Err h) c d) (sym is) row)
