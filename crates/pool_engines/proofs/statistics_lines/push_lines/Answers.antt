use Rattle.std.proofs.Common.{codes}
use Rattle.std.proofs.lemmas.Result.{IfOk-from_err}
use Rattle.pool_engines.specs.StatisticsLines.{number_line, statistics_text}
use Rattle.pool_engines.proofs.Parts.{extends_more, extends_six, nine_parts}
use Rattle.pool_engines.proofs.statistics_lines.push_lines.Goals as goal

pub returns-in_err-push_line-6-clause-grows : goal.returns-in_err-push_line-6-clause-grows
returns-in_err-push_line-6-clause-grows c =
    extends_six c.push_line.ensures.grows c.push_line-2.ensures.grows c.push_line-3.ensures.grows c.push_line-4.ensures.grows
    c.push_line-5.ensures.grows c.push_line-6.ensures.grows

pub returns-in_err-push_line-7-clause-grows : goal.returns-in_err-push_line-7-clause-grows
returns-in_err-push_line-7-clause-grows c =
    let six = extends_six c.push_line.ensures.grows c.push_line-2.ensures.grows c.push_line-3.ensures.grows
    c.push_line-4.ensures.grows c.push_line-5.ensures.grows c.push_line-6.ensures.grows in
    extends_more six c.push_line-7.ensures.grows

pub returns-in_err-push_line-8-clause-grows : goal.returns-in_err-push_line-8-clause-grows
returns-in_err-push_line-8-clause-grows c =
    let six = extends_six c.push_line.ensures.grows c.push_line-2.ensures.grows c.push_line-3.ensures.grows
    c.push_line-4.ensures.grows c.push_line-5.ensures.grows c.push_line-6.ensures.grows in
    extends_more (extends_more six c.push_line-7.ensures.grows) c.push_line-8.ensures.grows

pub returns-in_err-push_line-9-clause-grows : goal.returns-in_err-push_line-9-clause-grows
returns-in_err-push_line-9-clause-grows c =
    let six = extends_six c.push_line.ensures.grows c.push_line-2.ensures.grows c.push_line-3.ensures.grows
    c.push_line-4.ensures.grows c.push_line-5.ensures.grows c.push_line-6.ensures.grows in
    extends_more (extends_more (extends_more six c.push_line-7.ensures.grows) c.push_line-8.ensures.grows)
    c.push_line-9.ensures.grows

pub returns-clause-ok : goal.returns-clause-ok
unfolding statistics_text
returns-clause-ok c =
    let s = c.args.found.now in
    nine_parts c.args.out.now.items (number_line (codes "borrowed") s.borrowed) (number_line (codes "returned") s.returned)
    (number_line (codes "created") s.created)
    (number_line (codes "destroyed") s.destroyed) (number_line (codes "evicted") s.evicted)
    (number_line (codes "borrowtestfailed") s.borrow_test_failed)
    (number_line (codes "reclaimed") s.reclaimed) (number_line (codes "longest") s.longest) (number_line (codes "total") s.total)
    c.push_line.new.out.items
    c.push_line-2.new.out.items c.push_line-3.new.out.items c.push_line-4.new.out.items c.push_line-5.new.out.items
    c.push_line-6.new.out.items c.push_line-7.new.out.items
    c.push_line-8.new.out.items c.push_line-9.new.out.items c.in_ok-push_line.ensures.ok c.in_ok-push_line-2.ensures.ok
    c.in_ok-push_line-3.ensures.ok c.in_ok-push_line-4.ensures.ok
    c.in_ok-push_line-5.ensures.ok c.in_ok-push_line-6.ensures.ok c.in_ok-push_line-7.ensures.ok c.in_ok-push_line-8.ensures.ok
    c.in_ok-push_line-9.ensures.ok

pub returns-clause-grows : goal.returns-clause-grows
returns-clause-grows c =
    let six = extends_six c.push_line.ensures.grows c.push_line-2.ensures.grows c.push_line-3.ensures.grows
    c.push_line-4.ensures.grows c.push_line-5.ensures.grows c.push_line-6.ensures.grows in
    extends_more (extends_more (extends_more six c.push_line-7.ensures.grows) c.push_line-8.ensures.grows)
    c.push_line-9.ensures.grows

pub returns-in_err-push_line-clause-ok : goal.returns-in_err-push_line-clause-ok
returns-in_err-push_line-clause-ok c = IfOk-from_err _ _ c.from_residual.ensures.0

pub returns-in_err-push_line-2-clause-ok : goal.returns-in_err-push_line-2-clause-ok
returns-in_err-push_line-2-clause-ok c = IfOk-from_err _ _ c.from_residual-in_err-push_line-2.ensures.0

pub returns-in_err-push_line-3-clause-ok : goal.returns-in_err-push_line-3-clause-ok
returns-in_err-push_line-3-clause-ok c = IfOk-from_err _ _ c.from_residual-in_err-push_line-3.ensures.0

pub returns-in_err-push_line-4-clause-ok : goal.returns-in_err-push_line-4-clause-ok
returns-in_err-push_line-4-clause-ok c = IfOk-from_err _ _ c.from_residual-in_err-push_line-4.ensures.0

pub returns-in_err-push_line-5-clause-ok : goal.returns-in_err-push_line-5-clause-ok
returns-in_err-push_line-5-clause-ok c = IfOk-from_err _ _ c.from_residual-in_err-push_line-5.ensures.0

pub returns-in_err-push_line-6-clause-ok : goal.returns-in_err-push_line-6-clause-ok
returns-in_err-push_line-6-clause-ok c = IfOk-from_err _ _ c.from_residual-in_err-push_line-6.ensures.0

pub returns-in_err-push_line-7-clause-ok : goal.returns-in_err-push_line-7-clause-ok
returns-in_err-push_line-7-clause-ok c = IfOk-from_err _ _ c.from_residual-in_err-push_line-7.ensures.0

pub returns-in_err-push_line-8-clause-ok : goal.returns-in_err-push_line-8-clause-ok
returns-in_err-push_line-8-clause-ok c = IfOk-from_err _ _ c.from_residual-in_err-push_line-8.ensures.0

pub returns-in_err-push_line-9-clause-ok : goal.returns-in_err-push_line-9-clause-ok
returns-in_err-push_line-9-clause-ok c = IfOk-from_err _ _ c.from_residual-in_err-push_line-9.ensures.0

pub returns-in_err-push_line-2-clause-grows : goal.returns-in_err-push_line-2-clause-grows
returns-in_err-push_line-2-clause-grows c = extends_more c.push_line.ensures.grows c.push_line-2.ensures.grows

pub returns-in_err-push_line-3-clause-grows : goal.returns-in_err-push_line-3-clause-grows
returns-in_err-push_line-3-clause-grows c = extends_more (extends_more c.push_line.ensures.grows c.push_line-2.ensures.grows) c.push_line-3.ensures.grows

pub returns-in_err-push_line-4-clause-grows : goal.returns-in_err-push_line-4-clause-grows
returns-in_err-push_line-4-clause-grows c = extends_more (extends_more (extends_more c.push_line.ensures.grows c.push_line-2.ensures.grows) c.push_line-3.ensures.grows) c.push_line-4.ensures.grows

pub returns-in_err-push_line-5-clause-grows : goal.returns-in_err-push_line-5-clause-grows
returns-in_err-push_line-5-clause-grows c = extends_more (extends_more (extends_more (extends_more c.push_line.ensures.grows c.push_line-2.ensures.grows) c.push_line-3.ensures.grows) c.push_line-4.ensures.grows) c.push_line-5.ensures.grows
