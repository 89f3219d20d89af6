-- The number of idle objects to be kept ready.
use Rattle.std.specs.Prelude.{ℤ, pos, ◌&&◌, if◌then◌else◌, int_le, int_lt}
use Rattle.pool_settings.specs.declared.settings.Settings.{Settings}

-- The least number of idle objects, but no more than may be idle; a negative `max_idle` is no limit.
abbrev pub effective_min_idle : Settings → ℤ
effective_min_idle s = if int_le (pos 0) s.max_idle && int_lt s.max_idle s.min_idle then s.max_idle else s.min_idle
