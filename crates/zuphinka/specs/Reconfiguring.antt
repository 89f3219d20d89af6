-- Settings that change while a pool is open.
use Rattle.std.specs.Prelude.{◌≡◌, ◌⊎◌, ℕ, List, Option, Some, None, IsSomeAnd, Ok, IsUtf8}
use Rattle.pool_settings.specs.Answer.{settings_of_text}
use Rattle.pool_settings.specs.declared.settings.Settings.{Settings}
use Rattle.pool_journal.specs.Base.{base_after}
use Rattle.pool_core.specs.Reconfigured.{IsRefused}
use Rattle.pool_core.specs.declared.reconfigure_error.ReconfigureError.{ReconfigureError}
use Rattle.pool_core.specs.declared.reconfigure_error.ReconfigureError.TheVariants as errors
use Rattle.pool_host.specs.Hosting.{reconfigured_with}
use Rattle.zuphinka.specs.Calls.{HasFault}
use Rattle.zuphinka.specs.Opening.{OpenModel}
use Rattle.zuphinka.specs.declared.status.Status.{Status}
use Rattle.zuphinka.specs.declared.status.Status.TheVariants.{Done, NotOpen, OutOfMemory, JournalFull, NotText}

-- the pool has the settings of the text: it continues from the state after its entries, and has none. Its calls are as before
pub record IsReconfigured (text : List ℕ) (old new : OpenModel) : Type 0 where
  pub settings : Settings
  pub read : settings_of_text text ≡ Ok settings
  pub goes_on : new ≡ record old { hosted = reconfigured_with settings old.hooks old.hosted }

-- the text has settings, and the condition of this error applies
pub record IsDueFor (text : List ℕ) (old : OpenModel) (e : ReconfigureError) : Type 0 where
  pub settings : Settings
  pub read : settings_of_text text ≡ Ok settings
  pub refused : IsRefused settings (base_after old.hosted.core.base old.hosted.core.journal) e

-- the result for an open pool
abbrev pub ReconfiguresTo : List ℕ → OpenModel → OpenModel → Status → Type 0
ReconfiguresTo text old new Done = IsReconfigured text old new
ReconfiguresTo text old new NotText = ¬ (IsUtf8 text) × (new ≡ old)
ReconfiguresTo text old new JournalFull = IsDueFor text old errors.NoRoom × (new ≡ old)
ReconfiguresTo text old new OutOfMemory = (HasFault text OutOfMemory ⊎ IsDueFor text old errors.OutOfMemory) × (new ≡ old)
ReconfiguresTo text old new s = HasFault text s × (new ≡ old)

abbrev pub Reconfigures : List ℕ → Option OpenModel → Option OpenModel → Status → Type 0
Reconfigures text None new s = (s ≡ NotOpen) × (new ≡ None)
Reconfigures text (Some old) new s = IsSomeAnd new (λ pool. ReconfiguresTo text old pool s)
