use Rattle.std.proofs.Common.{sym, ◌∙◌, arith, subst, false, ◌≡◌}
use Rattle.sorted_index.specs.Marks.{starts_gone}
use Rattle.sorted_index.proofs.Dropped.{popped, ends_some, starts_popped}
use Rattle.sorted_index.proofs.queue_marks.trim_back.Goals as goal

pub overflow_sub-gone : goal.overflow_sub-gone
overflow_sub-gone c =
    let marked = sym c.is_last_gone.ensures ∙ c.loop-stored-test.true in
    let some = c.pop_back.ensures.variant.1 (omega (arith, ends_some c.loop-stored.stored.items marked, c.loop-stored.stored.ok.0)) in
    (popped c.loop-stored.stored.items c.pop_back.new.self.items c.pop_back.result c.loop-stored.gone c.pop_back.ensures.items some marked c.loop-stored.invariant.counted).some

pub loop-stored-preserved : goal.loop-stored-preserved
loop-stored-preserved c =
    let marked = sym c.is_last_gone.ensures ∙ c.loop-stored-test.true in
    let some = c.pop_back.ensures.variant.1 (omega (arith, ends_some c.loop-stored.stored.items marked, c.loop-stored.stored.ok.0)) in
    let left = popped c.loop-stored.stored.items c.pop_back.new.self.items c.pop_back.result c.loop-stored.gone c.pop_back.ensures.items some marked c.loop-stored.invariant.counted in
    record {
      pairs = left.pairs ∙ c.loop-stored.invariant.pairs;
      counted = left.counted;
      first = starts_popped c.pop_back.new.self.items c.pop_back.result (subst (λ xs. starts_gone xs ≡ false) c.pop_back.ensures.items c.loop-stored.invariant.first);
      capacity = c.pop_back.ensures.capacity ∙ c.loop-stored.invariant.capacity;
    }
