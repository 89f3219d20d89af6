use Rattle.sorted_index.proofs.Dropped.{ends_read}
use Rattle.sorted_index.proofs.marks.is_last_gone.Goals as goal

pub returns-in-len1-up : goal.returns-in-len1-up
returns-in-len1-up c = ends_read c.args.stored.now _ c.in-len1-up.len_at_least
