-- The settings of a text, or its first error.
use Rattle.std.specs.Prelude.{ℕ, List, [], Option, Some, None, Result, Err}
use Rattle.toml.specs.Data.{Members}
use Rattle.toml.specs.Parse.{parse_document}
use Rattle.pool_settings.specs.declared.fault.SettingsFault.{SettingsFault}
use Rattle.pool_settings.specs.declared.settings.Settings.{Settings}
use Rattle.pool_settings.specs.Defaults.{defaults}
use Rattle.pool_settings.specs.Faults.{Fault, not_toml, GivesInMemory}
use Rattle.pool_settings.specs.Keys.{read_table, rows}

-- The settings of a table, starting from the defaults, or the first error in the order of its keys' bytes.
unfoldable pub settings_of : Members → Result Settings Fault
settings_of table = read_table [] rows table defaults

-- the settings of a document, if the text is one
abbrev pub settings_of_read : Option Members → Result Settings Fault
settings_of_read None = Err not_toml
settings_of_read (Some table) = settings_of table

-- the settings of a text
abbrev pub settings_of_text : List ℕ → Result Settings Fault
settings_of_text text = settings_of_read (parse_document text)

-- The result is the settings of the text, or its first error. An allocation failure may replace each of them.
abbrev pub IsAnswer : List ℕ → Result Settings SettingsFault → Type 0
IsAnswer text result = GivesInMemory result (settings_of_text text)
