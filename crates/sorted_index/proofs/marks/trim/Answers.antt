use Rattle.std.proofs.Common.{sym, ap, ◌∙◌, arith}
use Rattle.sorted_index.specs.Marks.{ends_gone}
use Rattle.sorted_index.proofs.Dropped.{popped, ends_some}
use Rattle.sorted_index.proofs.marks.trim.Goals as goal

pub overflow_sub-gone : goal.overflow_sub-gone
overflow_sub-gone c =
    let ends = ap ends_gone (sym c.deref.ensures.value) ∙ sym c.is_last_gone.ensures ∙ c.loop-stored-test.true in
    let some = c.pop.ensures.variant.1 (omega (arith, ends_some c.loop-stored.stored.items ends, c.loop-stored.stored.ok.0)) in
    (popped c.loop-stored.stored.items c.pop.new.self.items c.pop.result c.loop-stored.gone c.pop.ensures.items some ends c.loop-stored.invariant.counted).some

pub loop-stored-preserved : goal.loop-stored-preserved
loop-stored-preserved c =
    let ends = ap ends_gone (sym c.deref.ensures.value) ∙ sym c.is_last_gone.ensures ∙ c.loop-stored-test.true in
    let some = c.pop.ensures.variant.1 (omega (arith, ends_some c.loop-stored.stored.items ends, c.loop-stored.stored.ok.0)) in
    let left = popped c.loop-stored.stored.items c.pop.new.self.items c.pop.result c.loop-stored.gone c.pop.ensures.items some ends c.loop-stored.invariant.counted in
    record {
      pairs = left.pairs ∙ c.loop-stored.invariant.pairs;
      counted = left.counted;
      len = omega (arith, c.loop-stored.invariant.len, c.pop.ensures.len);
      capacity = c.pop.ensures.capacity ∙ c.loop-stored.invariant.capacity;
    }

pub returns-clause-last : goal.returns-clause-last
returns-clause-last c = ap ends_gone (sym c.deref.ensures.value) ∙ sym c.is_last_gone.ensures ∙ c.loop-stored-test.false
