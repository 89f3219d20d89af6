-- The settings, as C reads them.
use Rattle.std.specs.Prelude.{◌≡◌, ℕ, ◌<◌, ◌≤◌, List, ◌++◌, length, drop, Option, Some, None, Ok, Err, IsUtf8}
use Rattle.pool_settings.specs.Answer.{settings_of_text, IsAnswer}
use Rattle.pool_settings.specs.declared.fault.SettingsFault.{SettingsFault}
use Rattle.pool_settings.specs.declared.fault.SettingsFault.TheVariants as faults
use Rattle.pool_settings.specs.declared.settings.Settings.{Settings}
use Rattle.zuphinka.specs.Status.{fault_status}
use Rattle.zuphinka.specs.declared.setup.Setup.{Setup}
use Rattle.zuphinka.specs.declared.status.Status.{Status}
use Rattle.zuphinka.specs.declared.status.Status.TheVariants.{Done, NotText}

abbrev pub setup_of : Settings → Setup
setup_of s =
    record {
      journal_limit = s.journal_limit;
      max_wait_millis = s.max_wait_millis;
      min_evictable_idle_millis = s.min_evictable_idle_millis;
      remove_abandoned_timeout_millis = s.remove_abandoned_timeout_millis;
      soft_min_evictable_idle_millis = s.soft_min_evictable_idle_millis;
      max_idle = s.max_idle;
      max_total = s.max_total;
      min_idle = s.min_idle;
      num_tests_per_eviction_run = s.num_tests_per_eviction_run;
      abandoned = s.abandoned;
      block_when_exhausted = s.block_when_exhausted;
      lifo = s.lifo;
      remove_abandoned_on_borrow = s.remove_abandoned_on_borrow;
      remove_abandoned_on_maintenance = s.remove_abandoned_on_maintenance;
      test_on_borrow = s.test_on_borrow;
      test_on_create = s.test_on_create;
      test_on_return = s.test_on_return;
      test_while_idle = s.test_while_idle;
    }

-- the key that an error names
abbrev pub key_of : SettingsFault → Option (List ℕ)
key_of (faults.UnknownKey key) = Some key
key_of (faults.WrongType key) = Some key.now
key_of (faults.OutOfRange key) = Some key.now
key_of _ = None

-- the name is at the start of the buffer, if it fits, and its length is stored
pub record NameTold (name before after : List ℕ) (m : ℕ) : Type 0 where
  pub size : m ≡ length name
  pub fits : length name ≤ length before → after ≡ name ++ drop (length name) before
  pub too_long : length before < length name → after ≡ before

-- a key is stored if the error names one
abbrev pub KeyTold : Option (List ℕ) → List ℕ → List ℕ → ℕ → ℕ → Type 0
KeyTold None before after n m = (after ≡ before) × (m ≡ n)
KeyTold (Some name) before after n m = NameTold name before after m

-- the result of reading the settings of a text; any error may be replaced by an allocation failure
abbrev pub SetsTo : List ℕ → Setup → Setup → List ℕ → List ℕ → ℕ → ℕ → Status → Type 0
SetsTo text old new before after n m Done =
    (S : Settings) × (settings_of_text text ≡ Ok S) × (new ≡ setup_of S) × (after ≡ before) × (m ≡ n)
SetsTo text old new before after n m NotText = ¬ (IsUtf8 text) × (new ≡ old) × (after ≡ before) × (m ≡ n)
SetsTo text old new before after n m s =
    (fault : SettingsFault) × (s ≡ fault_status fault) × IsAnswer text (Err fault) × (new ≡ old) × KeyTold (key_of fault) before after n m
