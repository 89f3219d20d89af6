use Rattle.std.proofs.Common.{rules}
use Rattle.std.proofs.lemmas.Fn.{filter_same}
use Rattle.sorted_index.specs.Marks.{is_there}
use Rattle.sorted_index.proofs.Dropped.{swept_pairs, swept_trimmed}
use Rattle.sorted_index.proofs.queue_marks.sweep.Goals as goal

pub returns-clause-pairs : goal.returns-clause-pairs
returns-clause-pairs c = swept_pairs c.args.stored.now.items c.retain.new.self.items (filter_same _ is_there _ (λ x b f k. search rules) _ _ c.retain.ensures.filtered)

pub returns-clause-trimmed : goal.returns-clause-trimmed
returns-clause-trimmed c =
    swept_trimmed c.args.stored.now.items c.retain.new.self.items c.args.gone.now (filter_same _ is_there _ (λ x b f k. search rules) _ _ c.retain.ensures.filtered) c.requires
