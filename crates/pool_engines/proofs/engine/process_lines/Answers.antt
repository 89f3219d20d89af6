use Rattle.std.proofs.Common.{◌≡◌, ◌∙◌, sym, true, false}
use Rattle.std.proofs.lemmas.Bool.{false≢true}
use Rattle.std.proofs.lemmas.Result.{err_from_is_err_and}
use Rattle.pool_engines.proofs.Reporting.{not_read, stays, unreported}
use Rattle.pool_engines.proofs.Going.{Going-begun, Passes-stopped, Passes-handed, Passes-unhanded, Passes-broken}
use Rattle.pool_engines.specs.Faults.{is_write_failure}
use Rattle.pool_engines.specs.Leaving.{most_bytes}
use Rattle.pool_engines.proofs.engine.process_lines.Goals as goal
use Rattle.pool_engines.proofs.engine.process_lines.Goals.{then-not-is_write_failure+in_ok-write_buffered, else-not-is_write_failure}

pub returns-in-Err-clause-passed : goal.returns-in-Err-clause-passed
returns-in-Err-clause-passed g c =
    let e = g.E.Engine in
    let r = c.requires in
    let begun = e.with_past c.args.engine.now e.none in
    let going = Going-begun e.settings e.taken e.reported e.active e.is_partial e.ends (most_bytes (e.lines_left c.args.engine.now)) begun (g.R.Read.remaining c.args.reader.now) (g.W.Write.contents c.args.writer.now) r.active r.none_taken r.none_reported in
    (e.none, r.keeps, Passes-stopped e.settings e.taken e.reported e.active e.is_partial e.ends (most_bytes (e.lines_left c.args.engine.now)) begun _ _ _ begun _ _ _ _ going (λ reported. absurd (false≢true reported)) (λ rest. g.met.E.Engine.stops_at_first begun rest r.active r.is_new))

pub returns-in_err-write_buffered-clause-passed : goal.returns-in_err-write_buffered-clause-passed
returns-in_err-write_buffered-clause-passed g c =
    let e = g.E.Engine in
    let p = err_from_is_err_and c.from_residual.result c.from_residual.ensures.1 in
    let (end, keeps, passed) = c.pass_lines-end.ensures.passed in
    let engine = e.with_past c.pass_lines-end.new.engine end in
    let works : is_write_failure c.pass_lines-end.result ≡ false = sym c.is_write_failure.ensures ∙ c.if-not-is_write_failure.true in
    rw (p.1, p.2, c.in_err-write_buffered.ensures.fault) (end, keeps, Passes-unhanded e.settings e.taken e.reported e.active e.is_partial e.ends (most_bytes (e.lines_left c.args.engine.now)) (e.with_past c.args.engine.now e.none) _ _ c.pass_lines-end.result engine _ _ _ _ works passed c.in_err-write_buffered.ensures.on_error (λ rest. g.met.E.Engine.fails_after engine rest c.pass_lines-end.result))

pub returns-clause-passed : goal.returns-clause-passed
returns-clause-passed g c =
    let e = g.E.Engine in
    let (end, keeps, passed) = c.pass_lines-end.ensures.passed in
    let engine = e.with_past c.pass_lines-end.new.engine end in
    let begun = e.with_past c.args.engine.now e.none in
    elim c.if-not-is_write_failure.branch [
      | then-not-is_write_failure+in_ok-write_buffered w ↦
          let works : is_write_failure c.pass_lines-end.result ≡ false = sym c.is_write_failure.ensures ∙ w.if-not-is_write_failure.true in
          rw w.writer-is (end, keeps, Passes-handed e.settings e.taken e.reported e.active e.is_partial e.ends (most_bytes (e.lines_left c.args.engine.now)) begun _ _ c.pass_lines-end.result engine _ _ _ _ works passed w.in_ok-write_buffered.ensures.ok.1)
      | else-not-is_write_failure w ↦
          let broken : is_write_failure c.pass_lines-end.result ≡ true = sym c.is_write_failure.ensures ∙ w.if-not-is_write_failure.false in
          rw w.writer-is (end, keeps, Passes-broken e.settings e.taken e.reported e.active e.is_partial e.ends (most_bytes (e.lines_left c.args.engine.now)) begun _ _ c.pass_lines-end.result engine _ _ _ broken passed)
    ]

pub returns-in_err-write_buffered-clause-reader : goal.returns-in_err-write_buffered-clause-reader
returns-in_err-write_buffered-clause-reader g c =
    let p = err_from_is_err_and c.from_residual.result c.from_residual.ensures.1 in
    let end = c.pass_lines-end.result in
    let none = not_read end (◌≡◌ false true) (λ reported. c.in_err-write_buffered.ensures.idle (c.pass_lines-end.ensures.handed reported)) false≢true in
    rw (p.1, p.2, c.in_err-write_buffered.ensures.fault) (stays _ _ _ none c.pass_lines-end.ensures.reader)

pub returns-in_err-write_buffered-clause-writer : goal.returns-in_err-write_buffered-clause-writer
returns-in_err-write_buffered-clause-writer g c =
    let p = err_from_is_err_and c.from_residual.result c.from_residual.ensures.1 in
    rw (p.1, p.2, c.in_err-write_buffered.ensures.fault) c.in_err-write_buffered.ensures.reported

pub returns-clause-writer : goal.returns-clause-writer
returns-clause-writer g c =
    elim c.if-not-is_write_failure.branch [
      | then-not-is_write_failure+in_ok-write_buffered w ↦
          let works : is_write_failure c.pass_lines-end.result ≡ false = sym c.is_write_failure.ensures ∙ w.if-not-is_write_failure.true in
          rw w.writer-is (unreported _ _ _ works (w.in_ok-write_buffered.ensures.reported ∙ stays _ _ _ works c.pass_lines-end.ensures.writer))
      | else-not-is_write_failure w ↦ rw w.writer-is c.pass_lines-end.ensures.writer
    ]
