use Rattle.std.proofs.Common.{◌∙◌, sym}
use Rattle.pool_journal.specs.Queue.{is_queued}
use Rattle.pool_places.proofs.Turned.{stays_if}
use Rattle.pool_places.proofs.queue.leave.Goals as goal
use Rattle.pool_places.proofs.queue.leave.Goals.{else-is_queued_phase-via-then-is_queued_phase+else-not-is_queued_phase, else-is_queued_phase-via-else-is_queued_phase}

pub returns-else-is_queued_phase-clause-queue : goal.returns-else-is_queued_phase-clause-queue
returns-else-is_queued_phase-clause-queue g c =
    elim c.else-is_queued_phase.branch [
      | else-is_queued_phase-via-then-is_queued_phase+else-not-is_queued_phase w ↦
          stays_if c.args.slots.now c.args.key (is_queued c.args.to) (λ out. absurd (cc (out, w.is_queued_phase-then-is_queued_phase.ensures, w.if-not-is_queued_phase.false)))
      | else-is_queued_phase-via-else-is_queued_phase w ↦
          stays_if c.args.slots.now c.args.key (is_queued c.args.to) (λ out. c.requires.follows ∙ sym c.is_queued_phase.ensures ∙ w.if-is_queued_phase.false)
    ]
