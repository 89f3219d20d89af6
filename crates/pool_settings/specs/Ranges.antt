-- The ranges of the settings that a text can have.
use Rattle.std.specs.Prelude.{ℤ, pos, negsuc, ◌≤◌, ◌≤ℤ◌}
use Rattle.pool_settings.specs.declared.settings.Settings.{Settings}

-- the greatest number of milliseconds, 2^53
abbrev pub greatest_millis : ℤ
greatest_millis = pos 9007199254740992

abbrev pub IsBetween : ℤ → ℤ → ℤ → Type 0
IsBetween least greatest z = (least ≤ℤ z) × (z ≤ℤ greatest)

-- The numbers of objects and tests whose range is that of 32 bits are in it by their type.
pub record IsInRange (s : Settings) : Type 0 where
  pub journal_limit : (1 ≤ s.journal_limit) × (s.journal_limit ≤ 4294967296)
  pub max_wait_millis : IsBetween (negsuc 0) greatest_millis s.max_wait_millis
  pub min_evictable_idle_millis : IsBetween (negsuc 0) greatest_millis s.min_evictable_idle_millis
  pub min_idle : pos 0 ≤ℤ s.min_idle
  pub remove_abandoned_timeout_millis : IsBetween (pos 0) greatest_millis s.remove_abandoned_timeout_millis
  pub soft_min_evictable_idle_millis : IsBetween (negsuc 0) greatest_millis s.soft_min_evictable_idle_millis
