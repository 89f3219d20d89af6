use Rattle.std.proofs.Common.{refl}
use Rattle.sorted_index.proofs.Dropped.{last_found}
use Rattle.sorted_index.proofs.queue_marks.is_last_gone.Goals as goal

pub returns-in-Some : goal.returns-in-Some
returns-in-Some c = last_found c.args.stored.now.items c.in-Some.last.now c.args.stored.now.len c.args.stored.now.ok.0 (c.in-Some.ensures.variant.0 refl) c.in-Some.ensures.lookup
