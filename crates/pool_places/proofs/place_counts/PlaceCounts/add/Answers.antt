use Rattle.std.proofs.Common.{rules}
use Rattle.pool_places.proofs.place_counts.PlaceCounts.add.Goals as goal

pub returns : goal.returns
returns c = search rules
