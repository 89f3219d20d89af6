use Rattle.std.proofs.Common.{◌∙◌}
use Rattle.pool_places.specs.PlacesModel.{records_in}
use Rattle.pool_core.proofs.Moving.{lent_known, noted_known, check_known, destroy_known, freed_known}
use Rattle.pool_core.proofs.state.State.move_named.Goals as goal

pub returns-in-Lent-clause-known : goal.returns-in-Lent-clause-known
returns-in-Lent-clause-known g c =
    let s = c.args.self.now in
    rw c.in-Lent.is
    (c.set_lent.ensures.records
    ∙ lent_known c.args.now s.next c.named_by-id.result c.args.input (records_in s.places.objects) c.named_by-id.ensures c.requires.before.stay)

pub returns-in-Noted-clause-known : goal.returns-in-Noted-clause-known
returns-in-Noted-clause-known g c =
    let s = c.args.self.now in
    rw c.in-Noted.is
    (c.set_used.ensures.records
    ∙ noted_known c.args.now s.next c.named_by-id.result c.args.input (records_in s.places.objects) c.named_by-id.ensures c.requires.before.stay)

pub returns-in-Check-clause-known : goal.returns-in-Check-clause-known
returns-in-Check-clause-known g c =
    let s = c.args.self.now in
    rw c.in-Check.is
    (c.set_returned.ensures.records
    ∙ check_known c.args.now s.next c.named_by-id.result c.args.input (records_in s.places.objects) c.named_by-id.ensures c.requires.before.stay)

pub returns-in-Destroy-clause-known : goal.returns-in-Destroy-clause-known
returns-in-Destroy-clause-known g c =
    let s = c.args.self.now in
    rw c.in-Destroy.is
    (c.set_phase.ensures.records
    ∙ destroy_known c.args.now s.next c.named_by-id.result c.args.input (records_in s.places.objects) c.named_by-id.ensures c.requires.before.stay)

pub returns-in-Freed-clause-known : goal.returns-in-Freed-clause-known
returns-in-Freed-clause-known g c =
    let s = c.args.self.now in
    rw c.in-Freed.is
    (c.free.ensures.records
    ∙ freed_known c.args.now s.next c.named_by-id.result c.args.input (records_in s.places.objects) c.named_by-id.ensures c.requires.before.stay)
