-- Phases in which no value is stored.
use Rattle.std.proofs.Common.{◌≡◌, false, refl}
use Rattle.std.specs.Prelude.{IsTrue}
use Rattle.pool_journal.specs.Queue.{is_idle, is_queued}
use Rattle.pool_journal.specs.declared.record.Phase.{Phase}
use Rattle.pool_journal.specs.declared.record.Phase.TheVariants as phases
use Rattle.pool_journal.specs.declared.record.Record.{Record}
use Rattle.pool_places.specs.Changes.{opens_as, takes_to}
use Rattle.pool_places.specs.Turn.{phase_after, turned}
use Rattle.pool_places.specs.declared.turning.Turn.{Turn}
use Rattle.pool_places.specs.declared.turning.Turn.TheVariants as turns

pub not_queued : (p : Phase) → is_queued p ≡ false → is_idle p ≡ false
not_queued phases.Idle is = is
not_queued _ is = refl

pub opened_not_idle : (p : Phase) → IsTrue (opens_as p) → is_idle p ≡ false
opened_not_idle phases.Idle is = absurd (cc is)
opened_not_idle _ is = refl

pub taken_not_idle : (p : Phase) → IsTrue (takes_to p) → is_idle p ≡ false
taken_not_idle phases.Idle is = absurd (cc is)
taken_not_idle _ is = refl

-- a change of a record
pub turned_id : (t : Turn) (r : Record) → (turned t r).id ≡ r.id
turned_id (turns.Reach p) r = refl
turned_id (turns.Lend at) r = refl
turned_id (turns.Use at) r = refl

pub turned_phase : (t : Turn) (r : Record) → (turned t r).phase ≡ phase_after t r.phase
turned_phase (turns.Reach p) r = refl
turned_phase (turns.Lend at) r = refl
turned_phase (turns.Use at) r = refl
