-- A pool that goes on with other settings.
use Rattle.std.specs.Prelude.{[]}
use Rattle.pool_journal.specs.Base.{base_after}
use Rattle.pool_journal.specs.declared.base.Base.{Base}
use Rattle.pool_settings.specs.declared.settings.Settings.{Settings}
use Rattle.pool_core.specs.Fits.{FitsLimitFrom, ExceedsLimitFrom}
use Rattle.pool_core.specs.Pool.{CoreModel}
use Rattle.pool_core.specs.declared.reconfigure_error.ReconfigureError.{ReconfigureError}
use Rattle.pool_core.specs.declared.reconfigure_error.ReconfigureError.TheVariants.{NoRoom, OutOfMemory}

-- the condition of each error, with these settings and the state after all entries: the second applies only if the first does not
abbrev pub IsRefused : Settings → Base → ReconfigureError → Type 0
IsRefused S b NoRoom = ExceedsLimitFrom S b []
IsRefused S b OutOfMemory = FitsLimitFrom S b []

-- the pool with these settings: it continues from the state after its entries, and has none
abbrev pub reconfigured : {T : Type 0} → Settings → CoreModel T → CoreModel T
reconfigured S c = record c { settings = S; base = base_after c.base c.journal; journal = [] }
