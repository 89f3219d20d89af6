use Rattle.test_core.proofs.Ids.{below_without}
use Rattle.test_core.proofs.places.index.take_indexed.Goals as goal

pub returns-in-Some : goal.returns-in-Some
returns-in-Some c = λ n below. rw c.remove.ensures.pairs (below_without n c.args.id c.args.index.now.pairs below)
