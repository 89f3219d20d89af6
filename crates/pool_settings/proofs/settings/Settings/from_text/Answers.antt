use Rattle.std.proofs.Common.{◌≡◌, [], Ok, refl}
use Rattle.toml.specs.View.{table_view}
use Rattle.toml.specs.Errors.{IsBlank}
use Rattle.toml.proofs.OnLiterals.{toml_on_literals}
use Rattle.pool_settings.specs.Answer.{settings_of}
use Rattle.pool_settings.specs.Defaults.{defaults}
use Rattle.pool_settings.specs.Keys.{read_table, rows}
use Rattle.pool_settings.proofs.Ranges.{settings_of_in_range}
use Rattle.pool_settings.proofs.settings.Settings.from_text.Goals as goal

empty_is_blank : IsBlank []
unfolding toml_on_literals
empty_is_blank = refl

-- `toml` allocates nothing for the empty text.
pub returns-in-Err-clause-empty : goal.returns-in-Err-clause-empty
returns-in-Err-clause-empty c = λ empty.
    absurd (c.in-Err.ensures.memory (c.is_memory.ensures.0 c.if-is_memory.true) (rw empty empty_is_blank))

pub returns-in-Err-clause-answer : goal.returns-in-Err-clause-answer
returns-in-Err-clause-answer c = λ other. absurd (other refl)

pub returns-clause-in_range : goal.returns-clause-in_range
unfolding settings_of
returns-clause-in_range c =
    let read : read_table [] rows (table_view c.in-Ok.table) defaults ≡ Ok c.put_table.new.settings =
    rw (← c.default-settings.ensures) c.in_ok-put_table.ensures in
    settings_of_in_range (table_view c.in-Ok.table) c.put_table.new.settings read
