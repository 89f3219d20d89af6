-- A pool for C.
use Rattle.std.specs.Prelude.{◌≡◌, ℕ, false, Option, Some, None, IsSomeAnd}
use Rattle.std.specs.Option.{option_map}
use Rattle.pool_core.specs.Pool.{CoreModel}
use Rattle.pool_host.specs.Hosting.{HostedModel}
use Rattle.pool_host.specs.declared.hooks.Hooks.{Hooks}
use Rattle.pool_host.specs.declared.options.Options.{Options}
use Rattle.zuphinka.specs.declared.pool_options.PoolOptions.{PoolOptions}

-- the model of a pool for C
pub record OpenModel : Type 0 where
  pub hosted : HostedModel
  pub running : ℕ  -- the number of calls in progress
  pub number : ℕ  -- the host's number of the pool
  pub hooks : Hooks  -- which calls its factory has

-- the pool of steps, if there is one
abbrev pub core_in : Option OpenModel → Option (CoreModel ℕ)
core_in = option_map (λ p. p.hosted.core)

-- the options of a pool, without the host's number of it
abbrev pub options_of : PoolOptions → Options
options_of o =
    record {
      hooks = record { activates = o.activates; validates = o.validates; passivates = o.passivates };
      max_overtakes = o.max_overtakes;
      overtake_millis = o.overtake_millis;
      drops_journal = o.drops_journal;
    }

-- all options are 0
abbrev pub no_options : PoolOptions
no_options = record { pool = 0; max_overtakes = 0; overtake_millis = 0; activates = false; validates = false; passivates = false; drops_journal = false }

-- the pool in a handle changed by steps alone: the calls that wait, and the number of those in progress, are as before
abbrev pub KeepsCalls : Option OpenModel → Option OpenModel → Type 0
KeepsCalls None new = new ≡ None
KeepsCalls (Some old) new = IsSomeAnd new (λ p. p ≡ record old { hosted = record old.hosted { core = p.hosted.core; last = p.hosted.last } })
