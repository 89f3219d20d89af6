use Rattle.std.proofs.Common.{sym, subst}
use Rattle.sorted_index.specs.Marks.{IsThereAt}
use Rattle.sorted_index.proofs.There.{ascending_there}
use Rattle.sorted_index.proofs.Found.{key_there}
use Rattle.sorted_index.proofs.sorted_index.SortedIndex.find.Goals as goal

pub returns-in_err-position-clause-ascending : goal.returns-in_err-position-clause-ascending
returns-in_err-position-clause-ascending c = rw (← c.self.view_is) (ascending_there c.self.inside.stored.items c.self.invariant.counted.ascending)

pub returns-clause-value : goal.returns-clause-value
returns-clause-value c =
    let at = subst (λ xs. IsThereAt xs c.args.id c.in_ok-position.position) c.deref.ensures.value c.in_ok-position.ensures.there in
    rw (← c.self.view_is) (sym (key_there c.args.id c.in_ok-position.position c.index.result.now c.self.inside.stored.items c.self.invariant.counted.ascending at c.index.ensures))

pub returns-clause-ascending : goal.returns-clause-ascending
returns-clause-ascending c = rw (← c.self.view_is) (ascending_there c.self.inside.stored.items c.self.invariant.counted.ascending)
