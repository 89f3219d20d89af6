use Rattle.std.proofs.Common.{rules}
use Rattle.pool_stats.proofs.counts.Counts.to_words.Goals as goal

pub returns : goal.returns
returns c = search rules
