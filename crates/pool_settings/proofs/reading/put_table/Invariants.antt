use Rattle.std.proofs.Common.{◌≡◌, []}
use Rattle.toml.specs.View.{members_view, table_view}
use Rattle.pool_settings.specs.Keys.{rows, read_keys, read_table}
use Rattle.pool_settings.proofs.reading.put_table.Given as goal

-- The remaining entries, read into the settings so far, have the result of the whole table.
abbrev pub invariant-loop-key : goal.invariant-loop-key
invariant-loop-key l =
    read_keys [] rows (members_view l.key-iterator) l.settings
    ≡ read_table [] rows (table_view l.fn.table) l.fn.settings
