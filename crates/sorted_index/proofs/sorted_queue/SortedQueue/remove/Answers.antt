use Rattle.std.proofs.Common.{refl, sym, ◌∙◌}
use Rattle.sorted_index.proofs.Found.{has_there, has_none}
use Rattle.sorted_index.proofs.Marked.{mark_pairs, mark_counted, without_none}
use Rattle.sorted_index.proofs.sorted_queue.SortedQueue.remove.Goals as goal

pub tidy-requires : goal.tidy-requires
tidy-requires c =
    mark_counted c.args.id c.in-Some.position c.self.inside.gone _ c.index_mut-taken.result.now c.self.inside.stored.items c.self.invariant.counted c.in-Some.ensures.there c.index_mut-taken.ensures.value refl refl

pub returns-in-Some-clause-had : goal.returns-in-Some-clause-had
returns-in-Some-clause-had c =
    rw (← c.self.view_is) (sym (has_there c.args.id c.in-Some.position c.index_mut-taken.result.now c.self.inside.stored.items c.self.invariant.counted.ascending c.in-Some.ensures.there))

pub returns-in-Some-clause-pairs : goal.returns-in-Some-clause-pairs
returns-in-Some-clause-pairs c =
    rw (← c.self.view_is) (c.tidy.ensures.pairs ∙ mark_pairs c.args.id c.in-Some.position _ c.index_mut-taken.result.now c.self.inside.stored.items c.self.invariant.counted.ascending c.in-Some.ensures.there refl)

pub returns-in-None-clause-had : goal.returns-in-None-clause-had
returns-in-None-clause-had c = rw (← c.self.view_is) (sym (has_none c.args.id _ c.in-None.ensures.absent))

pub returns-in-None-clause-pairs : goal.returns-in-None-clause-pairs
returns-in-None-clause-pairs c = rw (← c.self.view_is) (sym (without_none c.args.id _ (has_none c.args.id _ c.in-None.ensures.absent)))
