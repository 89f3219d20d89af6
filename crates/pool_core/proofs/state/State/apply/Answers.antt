use Rattle.pool_places.specs.PlacesModel.{records_in}
use Rattle.pool_core.proofs.Finding.{finds_of}
use Rattle.pool_core.proofs.state.State.apply.Goals as goal

pub move_object-out-requires-clause-finds : goal.move_object-out-requires-clause-finds
move_object-out-requires-clause-finds g c =
    let s = c.args.self.now in
    rw c.update_hints.ensures
    (finds_of s.settings (records_in s.places.objects) s.next s.closed s.cursor c.args.now.at c.args.input c.args.answer
    c.requires.before.found c.requires.due)
