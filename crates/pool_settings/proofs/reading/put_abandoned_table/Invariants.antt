use Rattle.std.proofs.Common.{◌≡◌, codes}
use Rattle.toml.specs.View.{members_view, table_view}
use Rattle.pool_settings.specs.Keys.{abandoned_rows, read_keys, read_table}
use Rattle.pool_settings.proofs.reading.put_abandoned_table.Given as goal

-- The remaining entries, read into the settings so far, have the result of the whole table.
abbrev pub invariant-loop-key : goal.invariant-loop-key
invariant-loop-key l =
    read_keys (codes "abandoned.") abandoned_rows (members_view l.key-iterator) l.settings
    ≡ read_table (codes "abandoned.") abandoned_rows (table_view l.fn.abandoned) l.fn.settings
