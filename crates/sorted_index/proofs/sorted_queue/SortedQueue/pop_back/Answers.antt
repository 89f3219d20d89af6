use Rattle.std.proofs.Common.{◌++◌, ◌∷◌, [], sym, ap, ◌∙◌}
use Rattle.sorted_index.proofs.Dropped.{taken_last}
use Rattle.sorted_index.proofs.sorted_queue.SortedQueue.pop_back.Goals as goal

pub tidy-requires : goal.tidy-requires
tidy-requires c =
    (taken_last c.self.inside.stored.items c.pop_back.new.self.items c.pop_back.result c.in_ok-last.last c.self.inside.gone c.pop_back.ensures.items c.in_ok-last.was c.self.invariant).counted

pub returns-clause-pairs : goal.returns-clause-pairs
returns-clause-pairs c =
    rw (← c.self.view_is) ((taken_last c.self.inside.stored.items c.pop_back.new.self.items c.pop_back.result c.in_ok-last.last c.self.inside.gone c.pop_back.ensures.items c.in_ok-last.was c.self.invariant).pairs ∙ ap (λ ps. ps ++ c.in_ok-last.last.pair ∷ []) (sym c.tidy.ensures.pairs))
