use Rattle.std.proofs.Common.{◌≡◌, ◌-◌, ◌+◌, length, take, slice_range, ap, ◌∙◌, arith}
use Rattle.std.proofs.lemmas.List.{with_items_is}
use Rattle.std.proofs.lemmas.Result.{IfOk-from_err, err_from_is_err_and}
use Rattle.pool_engines.proofs.Windows.{take-copy_within, slice_range-grown, length-slice_range}
use Rattle.pool_engines.proofs.input_buffer.InputBuffer.fill.Goals as goal

pub returns-clause-more : goal.returns-clause-more
returns-clause-more g c =
    let i = c.self.inside in
    let kept = i.end - i.start in
    let count = c.in_ok-count.count in
    let xs = c.read_behind.new.buffer in
    let more = c.in_ok-count.ensures.more in
    let moved : take kept c.deref_mut.result.now ≡ slice_range i.buffer.items i.start i.end =
    ap (take kept) (c.deref_mut.ensures.value ∙ c.copy_within.ensures.items)
    ∙ take-copy_within i.buffer.items i.start i.end (omega arith) (omega arith) in
    let same_length : length xs ≡ c.copy_within.new.self.len = omega (arith, c.copy_within.new.self.ok.0) in (
      slice_range xs kept (kept + count),
      length-slice_range xs kept count (omega (arith, more.0, c.min.ensures)),
      ap (λ l. slice_range l 0 (kept + count)) (with_items_is c.copy_within.new.self xs same_length)
          ∙ slice_range-grown xs _ kept count (c.in_ok-count.ensures.front ∙ moved ∙ c.self.view_is),
      more.1,
    )

pub returns-in_err-count-clause-more : goal.returns-in_err-count-clause-more
returns-in_err-count-clause-more g c = IfOk-from_err _ _ c.from_residual.ensures.0

pub returns-in_err-count-clause-fault : goal.returns-in_err-count-clause-fault
returns-in_err-count-clause-fault g c =
    let p = err_from_is_err_and c.from_residual.result c.from_residual.ensures.1 in rw (p.1, p.2) c.in_err-count.ensures.fault

pub returns-in_err-count-clause-reported : goal.returns-in_err-count-clause-reported
returns-in_err-count-clause-reported g c =
    let p = err_from_is_err_and c.from_residual.result c.from_residual.ensures.1 in rw p.1 c.in_err-count.ensures.reported

pub returns-clause-end : goal.returns-clause-end
returns-clause-end g c = c.in_ok-count.ensures.end

pub returns-clause-reported : goal.returns-clause-reported
returns-clause-reported g c = c.in_ok-count.ensures.reported

pub returns-clause-unchanged_on_error : goal.returns-clause-unchanged_on_error
returns-clause-unchanged_on_error g c = tt
