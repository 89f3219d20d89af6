use Rattle.std.proofs.Common.{sym, ◌∙◌}
use Rattle.pool_places.specs.PlacesModel.{records_in}
use Rattle.pool_core.proofs.Queues.{length-idle_queue}
use Rattle.pool_core.proofs.state.State.count_idle.Goals as goal

pub returns : goal.returns
returns g c = c.counts.ensures.idle ∙ sym (length-idle_queue (records_in c.args.self.now.places.objects))
