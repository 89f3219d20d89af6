use Rattle.std.proofs.Common.{sym, ◌∙◌}
use Rattle.pool_places.specs.PlacesModel.{records_in}
use Rattle.pool_places.proofs.Picks.{each_is_found}
use Rattle.pool_core.proofs.Queues.{examined_found}
use Rattle.pool_core.proofs.state.State.examine.Goals as goal

-- the record that is found under its id is the one that is examined
pub returns : goal.returns
returns g c =
    c.find.ensures.value
    ∙ examined_found c.args.self.now.cursor (records_in c.args.self.now.places.objects) c.in_ok-id.id
    (each_is_found c.args.self.now.places.objects c.find.ensures.well_formed.ascending) (sym c.examined_id.ensures ∙ c.in_ok-id.was)
