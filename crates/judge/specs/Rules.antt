-- The settings that hold for a segment.
use Rattle.std.specs.Prelude.{ℕ, nat_le, if◌then◌else◌, List, [], ◌∷◌}
use Rattle.pool_settings.specs.declared.settings.Settings.{Settings}
use Rattle.judge.specs.declared.rules.Change.{Change}

-- those of the last change whose position is at most this one, or else the first ones
abbrev pub settings_at : Settings → List Change → ℕ → Settings
settings_at first [] position = first
settings_at first (change ∷ more) position =
    settings_at (if nat_le change.position position then change.settings else first) more position
