use Rattle.std.proofs.Common.{arith, ap, ◌∙◌, drop, ◌+◌, ◌≤◌, length, length-take}
use Rattle.pool_engines.proofs.Windows.{slice_range-drop}
use Rattle.pool_engines.proofs.input_buffer.InputBuffer.drop_front.Goals as goal

pub returns : goal.returns
returns c =
    let i = c.self.inside in
    let within : i.start + c.args.count ≤ i.end = omega (arith, simp length-take at (ap length c.self.view_is)) in
    slice_range-drop i.buffer.items i.start c.args.count i.end within ∙ ap (drop c.args.count) c.self.view_is
