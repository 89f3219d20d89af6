use Rattle.std.proofs.Common.{arith, rules}
use Rattle.std.proofs.lemmas.Fn.{filter_same}
use Rattle.sorted_index.specs.Marks.{is_there}
use Rattle.sorted_index.proofs.Dropped.{swept_pairs, swept_trimmed}
use Rattle.sorted_index.proofs.marks.sweep.Goals as goal

pub returns-clause-pairs : goal.returns-clause-pairs
returns-clause-pairs c =
    swept_pairs c.args.stored.now.items c.retain.new.self.items (filter_same _ is_there _ (λ x b f k. search rules) _ _ c.retain.ensures.filtered)

pub returns-clause-tidy : goal.returns-clause-tidy
returns-clause-tidy c =
    let trimmed = swept_trimmed c.args.stored.now.items c.retain.new.self.items c.args.gone.now (filter_same _ is_there _ (λ x b f k. search rules) _ _ c.retain.ensures.filtered) c.requires in
    record { counted = trimmed.counted; last = trimmed.last; mostly_there = omega arith }
