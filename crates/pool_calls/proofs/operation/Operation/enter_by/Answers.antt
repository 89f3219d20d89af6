use Rattle.std.proofs.Common.{ap, sym, ◌∙◌, subst, arith}
use Rattle.pool_calls.specs.declared.stage.Stage.{Stage}
use Rattle.pool_calls.specs.Progress.{EndsBy}
use Rattle.pool_calls.specs.Rules.{IsAt, work_due}
use Rattle.pool_calls.proofs.Nearing.{answer_nears}
use Rattle.pool_calls.proofs.operation.Operation.enter_by.Goals as goal

pub returns : goal.returns
returns c =
    let op = c.args.self.now in
    let place = c.enter.result in
    let to = c.enter.ensures in
    let due = c.requires.due in
    let At : Stage → Type 0 = IsAt op.plan op.kind place in
    let By : Stage → Type 0 = λ s. EndsBy op.given_up s place in
    let nears = answer_nears op.plan op.kind c.args.answer op.place place c.args.stage c.count_of-count.ensures c.requires.step in
    let near = nears to.pauses.0 due to.at to.works in
    record {
      goes = subst At due to.at;
      works = to.works ∙ ap (work_due op.plan op.kind) due;
      ends = (λ given. omega (arith, c.requires.left given, to.left given), subst By due to.ends);
      pauses = (to.pauses.0, to.pauses.1 ∙ sym c.requires.awake, tt);
      nears = near.0;
      steps = near.1;
    }
