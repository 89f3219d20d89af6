-- The changes of the record of an object that is not idle before nor after them.
use Rattle.pool_journal.specs.declared.record.Record.{Record}
use Rattle.pool_journal.specs.declared.record.Phase.{Phase}
use Rattle.pool_journal.specs.declared.record.Phase.TheVariants as phases
use Rattle.pool_places.specs.Changes.{phase_set, lent_at, used_at}
use Rattle.pool_places.specs.declared.turning.Turn.{Turn}
use Rattle.pool_places.specs.declared.turning.Turn.TheVariants as turns

-- the record after the change
abbrev pub turned : Turn → Record → Record
turned (turns.Reach phase) r = phase_set phase r
turned (turns.Lend at) r = lent_at at r
turned (turns.Use at) r = used_at at r

-- its phase
abbrev pub phase_after : Turn → Phase → Phase
phase_after (turns.Reach phase) from = phase
phase_after (turns.Lend at) from = phases.Lent
phase_after (turns.Use at) from = from
