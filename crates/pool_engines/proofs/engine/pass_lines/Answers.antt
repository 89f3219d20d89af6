use Rattle.std.proofs.Common.{ℕ, ◌+◌, ◌*◌, ◌≤◌, List, Ok, Err, length, refl, ap, sym, ◌∙◌, subst, arith}
use Rattle.std.specs.Prelude.{Contains}
use Rattle.pool_journal.specs.Appending.{longest_line}
use Rattle.pool_journal.specs.Text.{line_feed}
use Rattle.std.proofs.lemmas.Bool.{false≢true}
use Rattle.std.proofs.lemmas.Result.{err_from_is_err_and}
use Rattle.pool_engines.proofs.Going.{leaves_other, Going-begun, Passes-ended, Passes-stopped, Passes-failed, Passes-finished, Going-took, Going-sent, Going-emptied, Going-filled, Going-kept, Going-same, refilled, took_short}
use Rattle.pool_engines.proofs.Reporting.{own_reads, own_writes, unreported}
use Rattle.pool_engines.specs.Leaving.{most_bytes}
use Rattle.pool_engines.specs.declared.engine_fault.EngineFault.TheVariants as faults
use Rattle.pool_engines.proofs.engine.pass_lines.Goals as goal

pub returns-in_err-count-clause-passed : goal.returns-in_err-count-clause-passed
returns-in_err-count-clause-passed g c =
    let e = g.E.Engine in
    let i = c.loop-count.invariant in
    let (past, keeps, h) = c.in_err-count.ensures.turned i.past i.keeps i.going.standing in
    let p = err_from_is_err_and c.from_residual.result c.from_residual.ensures.1 in
    rw (p.1, p.2) (past, keeps, Passes-ended e.settings e.taken e.reported e.active e.is_partial e.ends (most_bytes (e.lines_left c.args.engine.now)) (e.with_past c.args.engine.now e.none) _ _ _ (e.with_past c.loop-count.engine i.past) (e.with_past c.turn.new.self past) _ _ c.loop-count.incoming _ _ c.bytes.result.now i.going (leaves_other (Err c.in_err-count.field-0.0) c.loop-count.incoming (own_reads {A = Unit {0}} (Err c.in_err-count.field-0.0) c.in_err-count.ensures.own)) c.bytes.ensures h.0 h.1 h.2)

pub returns-in-Finished-clause-passed : goal.returns-in-Finished-clause-passed
returns-in-Finished-clause-passed g c =
    let e = g.E.Engine in
    let i = c.loop-count.invariant in
    let (past, keeps, h) = (rw c.in-Finished.is at c.in_ok-count.ensures.turned) i.past i.keeps i.going.standing in
    (past, keeps, Passes-ended e.settings e.taken e.reported e.active e.is_partial e.ends (most_bytes (e.lines_left c.args.engine.now)) (e.with_past c.args.engine.now e.none) _ _ _ (e.with_past c.loop-count.engine i.past) (e.with_past c.turn.new.self past) _ _ c.loop-count.incoming _ _ c.bytes.result.now i.going (leaves_other (Ok tt) c.loop-count.incoming refl) c.bytes.ensures h.0 h.1 h.2)

pub returns-in_err-reserve_line-in-Consumed-clause-passed : goal.returns-in_err-reserve_line-in-Consumed-clause-passed
returns-in_err-reserve_line-in-Consumed-clause-passed g c =
    let e = g.E.Engine in
    let i = c.loop-count.invariant in
    let (past, keeps, h) = (rw c.in-Consumed.is at c.in_ok-count.ensures.turned) i.past i.keeps i.going.standing in
    let p = err_from_is_err_and c.from_residual-in_err-reserve_line-in-Consumed.result c.from_residual-in_err-reserve_line-in-Consumed.ensures.1 in
    let going = Going-took e.settings e.taken e.reported e.active e.is_partial e.ends (most_bytes (e.lines_left c.args.engine.now)) (e.with_past c.args.engine.now e.none) _ _ (e.with_past c.loop-count.engine i.past) (e.with_past c.turn.new.self past) _ _ c.loop-count.incoming _ _ c.bytes.result.now c.in-Consumed.count i.going c.bytes.ensures h.0 h.2 h.3 in
    rw (p.1, p.2, c.in_err-reserve_line-in-Consumed.ensures.fault) (past, keeps, Passes-failed e.settings e.taken e.reported e.active e.is_partial e.ends (most_bytes (e.lines_left c.args.engine.now)) (e.with_past c.args.engine.now e.none) _ _ (e.with_past c.turn.new.self past) _ _ _ _ _ _ going c.in_err-reserve_line-in-Consumed.ensures.on_error (λ rest. g.met.E.Engine.stops_anywhere (e.with_past c.turn.new.self past) rest faults.Write h.0 tt))

pub returns-in_err-write_buffered-in-Incomplete-clause-passed : goal.returns-in_err-write_buffered-in-Incomplete-clause-passed
returns-in_err-write_buffered-in-Incomplete-clause-passed g c =
    let e = g.E.Engine in
    let i = c.loop-count.invariant in
    let (past, keeps, h) = (rw c.in-Incomplete.is at c.in_ok-count.ensures.turned) i.past i.keeps i.going.standing in
    let p = err_from_is_err_and c.from_residual-in_err-write_buffered-in-Incomplete.result c.from_residual-in_err-write_buffered-in-Incomplete.ensures.1 in
    let going = Going-same e.settings e.taken e.reported e.active e.is_partial e.ends (most_bytes (e.lines_left c.args.engine.now)) (e.with_past c.args.engine.now e.none) _ _ (e.with_past c.loop-count.engine i.past) (e.with_past c.turn.new.self past) _ _ _ _ _ i.going h.0 h.1 in
    rw (p.1, p.2, c.in_err-write_buffered-in-Incomplete.ensures.fault) (past, keeps, Passes-failed e.settings e.taken e.reported e.active e.is_partial e.ends (most_bytes (e.lines_left c.args.engine.now)) (e.with_past c.args.engine.now e.none) _ _ (e.with_past c.turn.new.self past) _ _ _ _ _ _ going c.in_err-write_buffered-in-Incomplete.ensures.on_error (λ rest. g.met.E.Engine.stops_anywhere (e.with_past c.turn.new.self past) rest faults.Write going.standing tt))

pub returns-in_err-fill-in-Incomplete-clause-passed : goal.returns-in_err-fill-in-Incomplete-clause-passed
returns-in_err-fill-in-Incomplete-clause-passed g c =
    let e = g.E.Engine in
    let i = c.loop-count.invariant in
    let (past, keeps, h) = (rw c.in-Incomplete.is at c.in_ok-count.ensures.turned) i.past i.keeps i.going.standing in
    let p = err_from_is_err_and c.from_residual-in_err-fill-in-Incomplete.result c.from_residual-in_err-fill-in-Incomplete.ensures.1 in
    let going = Going-same e.settings e.taken e.reported e.active e.is_partial e.ends (most_bytes (e.lines_left c.args.engine.now)) (e.with_past c.args.engine.now e.none) _ _ (e.with_past c.loop-count.engine i.past) (e.with_past c.turn.new.self past) _ _ _ _ _ i.going h.0 h.1 in
    let ok = c.in_ok-write_buffered-in-Incomplete.ensures.ok in
    let given = Going-emptied e.settings e.taken e.reported e.active e.is_partial e.ends (most_bytes (e.lines_left c.args.engine.now)) (e.with_past c.args.engine.now e.none) _ _ (e.with_past c.turn.new.self past) _ _ _ _ _ _ going ok.0 ok.1 in
    let kept = Going-kept e.settings e.taken e.reported e.active e.is_partial e.ends (most_bytes (e.lines_left c.args.engine.now)) (e.with_past c.args.engine.now e.none) _ _ (e.with_past c.turn.new.self past) _ _ _ _ _ given c.in_err-fill-in-Incomplete.ensures.unchanged_on_error.1 in
    rw (p.1, p.2, c.in_err-fill-in-Incomplete.ensures.fault) (past, keeps, Passes-stopped e.settings e.taken e.reported e.active e.is_partial e.ends (most_bytes (e.lines_left c.args.engine.now)) (e.with_past c.args.engine.now e.none) _ _ _ (e.with_past c.turn.new.self past) _ _ _ _ kept (λ reported. subst (λ (l : List ℕ). ¬ Contains l line_feed) c.bytes.ensures h.2.1) (λ rest. g.met.E.Engine.stops_anywhere (e.with_past c.turn.new.self past) rest faults.Read going.standing tt))

pub returns-then-branch-eq0-clause-passed : goal.returns-then-branch-eq0-clause-passed
returns-then-branch-eq0-clause-passed g c =
    let e = g.E.Engine in
    let i = c.loop-count.invariant in
    let (past, keeps, h) = (rw c.in-Incomplete.is at c.in_ok-count.ensures.turned) i.past i.keeps i.going.standing in
    let going = Going-same e.settings e.taken e.reported e.active e.is_partial e.ends (most_bytes (e.lines_left c.args.engine.now)) (e.with_past c.args.engine.now e.none) _ _ (e.with_past c.loop-count.engine i.past) (e.with_past c.turn.new.self past) _ _ _ _ _ i.going h.0 h.1 in
    let ok = c.in_ok-write_buffered-in-Incomplete.ensures.ok in
    let given = Going-emptied e.settings e.taken e.reported e.active e.is_partial e.ends (most_bytes (e.lines_left c.args.engine.now)) (e.with_past c.args.engine.now e.none) _ _ (e.with_past c.turn.new.self past) _ _ _ _ _ _ going ok.0 ok.1 in
    let (more, count, grown, came) = c.in_ok-fill-in-Incomplete.ensures.more in
    let short : length (e.taken (e.with_past c.turn.new.self past)) + longest_line * e.lines_left c.turn.new.self ≤ longest_line * e.lines_left c.args.engine.now =
    omega (arith, i.short, ap (λ x. length (e.taken x)) h.0, rw c.in-Incomplete.is at c.in_ok-count.ensures.fewer) in
    let within = refilled _ _ _ _ _ short c.lines_ahead.ensures c.in_ok-fill-in-Incomplete.ensures.ahead.1 in
    let filled = Going-filled e.settings e.taken e.reported e.active e.is_partial e.ends (most_bytes (e.lines_left c.args.engine.now)) (e.with_past c.args.engine.now e.none) _ _ (e.with_past c.turn.new.self past) _ _ _ _ _ more _ given grown c.in_ok-fill-in-Incomplete.ensures.ahead.0 within came in
    let at_end = c.in_ok-fill-in-Incomplete.ensures.end (ap Ok c.if-branch-eq0.true) in
    let (last, kept, f) = c.finish.ensures.finished past keeps going.standing in
    (last, kept, Passes-finished e.settings e.taken e.reported e.active e.is_partial e.ends (most_bytes (e.lines_left c.args.engine.now)) (e.with_past c.args.engine.now e.none) _ _ c.finish.result (e.with_past c.turn.new.self past) (e.with_past c.finish.new.self last) _ _ _ _ _ c.bytes-then-branch-eq0.result.now filled (leaves_other c.finish.result _ (own_reads c.finish.result c.finish.ensures.own)) c.bytes-then-branch-eq0.ensures at_end f.0 f.1 f.2)

pub loop-count-preserved-in_ok-reserve_line-in-Consumed : goal.loop-count-preserved-in_ok-reserve_line-in-Consumed
loop-count-preserved-in_ok-reserve_line-in-Consumed g c =
    let e = g.E.Engine in
    let i = c.loop-count.invariant in
    let (past, keeps, h) = (rw c.in-Consumed.is at c.in_ok-count.ensures.turned) i.past i.keeps i.going.standing in
    let going = Going-took e.settings e.taken e.reported e.active e.is_partial e.ends (most_bytes (e.lines_left c.args.engine.now)) (e.with_past c.args.engine.now e.none) _ _ (e.with_past c.loop-count.engine i.past) (e.with_past c.turn.new.self past) _ _ c.loop-count.incoming _ _ c.bytes.result.now c.in-Consumed.count i.going c.bytes.ensures h.0 h.2 h.3 in
    let (sent, parts, given) = c.in_ok-reserve_line-in-Consumed.ensures.ok in
    rw c.drop_front.ensures (record {
      past = past;
      keeps = keeps;
      going = Going-sent e.settings e.taken e.reported e.active e.is_partial e.ends (most_bytes (e.lines_left c.args.engine.now)) (e.with_past c.args.engine.now e.none) _ _ (e.with_past c.turn.new.self past) _ _ _ _ _ _ sent going parts given;
      short = took_short _ _ _ _ _ _ _ i.short h.2 h.1.2 (rw c.in-Consumed.is at c.in_ok-count.ensures.fewer);
      room = c.in_ok-reserve_line-in-Consumed.ensures.room;
      capacity = omega (arith, c.in_ok-reserve_line-in-Consumed.ensures.capacity, c.in_ok-count.ensures.room, c.loop-count.invariant.capacity);
      reads = c.loop-count.invariant.reads;
      writes = c.in_ok-reserve_line-in-Consumed.ensures.reported ∙ c.loop-count.invariant.writes;
    })

pub loop-count-preserved : goal.loop-count-preserved
loop-count-preserved g c =
    let e = g.E.Engine in
    let i = c.loop-count.invariant in
    let (past, keeps, h) = (rw c.in-Incomplete.is at c.in_ok-count.ensures.turned) i.past i.keeps i.going.standing in
    let going = Going-same e.settings e.taken e.reported e.active e.is_partial e.ends (most_bytes (e.lines_left c.args.engine.now)) (e.with_past c.args.engine.now e.none) _ _ (e.with_past c.loop-count.engine i.past) (e.with_past c.turn.new.self past) _ _ _ _ _ i.going h.0 h.1 in
    let ok = c.in_ok-write_buffered-in-Incomplete.ensures.ok in
    let emptied = Going-emptied e.settings e.taken e.reported e.active e.is_partial e.ends (most_bytes (e.lines_left c.args.engine.now)) (e.with_past c.args.engine.now e.none) _ _ (e.with_past c.turn.new.self past) _ _ _ _ _ _ going ok.0 ok.1 in
    let (more, count, grown, came) = c.in_ok-fill-in-Incomplete.ensures.more in
    let short : length (e.taken (e.with_past c.turn.new.self past)) + longest_line * e.lines_left c.turn.new.self ≤ longest_line * e.lines_left c.args.engine.now =
    omega (arith, i.short, ap (λ x. length (e.taken x)) h.0, rw c.in-Incomplete.is at c.in_ok-count.ensures.fewer) in
    let within = refilled _ _ _ _ _ short c.lines_ahead.ensures c.in_ok-fill-in-Incomplete.ensures.ahead.1 in
    record {
      past = past;
      keeps = keeps;
      going = Going-filled e.settings e.taken e.reported e.active e.is_partial e.ends (most_bytes (e.lines_left c.args.engine.now)) (e.with_past c.args.engine.now e.none) _ _ (e.with_past c.turn.new.self past) _ _ _ _ _ more _ emptied grown c.in_ok-fill-in-Incomplete.ensures.ahead.0 within came;
      short = short;
      room = omega (arith, c.in_ok-write_buffered-in-Incomplete.ensures.capacity, ap length ok.0, c.write_buffered.new.buffered.ok.0, c.in_ok-count.ensures.room, c.loop-count.invariant.capacity);
      capacity = omega (arith, c.in_ok-write_buffered-in-Incomplete.ensures.capacity, c.in_ok-count.ensures.room, c.loop-count.invariant.capacity);
      reads = c.in_ok-fill-in-Incomplete.ensures.reported ∙ c.loop-count.invariant.reads;
      writes = c.in_ok-write_buffered-in-Incomplete.ensures.reported ∙ c.loop-count.invariant.writes;
    }

pub returns-in_err-count-clause-reader : goal.returns-in_err-count-clause-reader
returns-in_err-count-clause-reader g c =
    let p = err_from_is_err_and c.from_residual.result c.from_residual.ensures.1 in
    rw (p.1, p.2) (unreported _ _ _ (own_reads {A = Unit {0}} (Err c.in_err-count.field-0.0) c.in_err-count.ensures.own) c.loop-count.invariant.reads)

pub returns-in_err-count-clause-writer : goal.returns-in_err-count-clause-writer
returns-in_err-count-clause-writer g c =
    let p = err_from_is_err_and c.from_residual.result c.from_residual.ensures.1 in
    rw (p.1, p.2) (unreported _ _ _ (own_writes {A = Unit {0}} (Err c.in_err-count.field-0.0) c.in_err-count.ensures.own) c.loop-count.invariant.writes)

pub returns-in_err-count-clause-handed : goal.returns-in_err-count-clause-handed
returns-in_err-count-clause-handed g c =
    let p = err_from_is_err_and c.from_residual.result c.from_residual.ensures.1 in
    rw (p.1, p.2) (λ reported. absurd (false≢true (sym (own_reads {A = Unit {0}} (Err c.in_err-count.field-0.0) c.in_err-count.ensures.own) ∙ reported)))

pub returns-then-branch-eq0-clause-reader : goal.returns-then-branch-eq0-clause-reader
returns-then-branch-eq0-clause-reader g c =
    unreported _ _ _ (own_reads c.finish.result c.finish.ensures.own) (c.in_ok-fill-in-Incomplete.ensures.reported ∙ c.loop-count.invariant.reads)

pub returns-then-branch-eq0-clause-writer : goal.returns-then-branch-eq0-clause-writer
returns-then-branch-eq0-clause-writer g c =
    unreported _ _ _ (own_writes c.finish.result c.finish.ensures.own) (c.in_ok-write_buffered-in-Incomplete.ensures.reported ∙ c.loop-count.invariant.writes)

pub returns-then-branch-eq0-clause-handed : goal.returns-then-branch-eq0-clause-handed
returns-then-branch-eq0-clause-handed g c = λ reported. absurd (false≢true (sym (own_reads c.finish.result c.finish.ensures.own) ∙ reported))

pub returns-in_err-reserve_line-in-Consumed-clause-reader : goal.returns-in_err-reserve_line-in-Consumed-clause-reader
returns-in_err-reserve_line-in-Consumed-clause-reader g c =
    let p = err_from_is_err_and c.from_residual-in_err-reserve_line-in-Consumed.result c.from_residual-in_err-reserve_line-in-Consumed.ensures.1 in
    rw (p.1, p.2, c.in_err-reserve_line-in-Consumed.ensures.fault) c.loop-count.invariant.reads

pub returns-in_err-reserve_line-in-Consumed-clause-writer : goal.returns-in_err-reserve_line-in-Consumed-clause-writer
returns-in_err-reserve_line-in-Consumed-clause-writer g c =
    let p = err_from_is_err_and c.from_residual-in_err-reserve_line-in-Consumed.result c.from_residual-in_err-reserve_line-in-Consumed.ensures.1 in
    rw (p.1, p.2, c.in_err-reserve_line-in-Consumed.ensures.fault) c.in_err-reserve_line-in-Consumed.ensures.reported

pub returns-in_err-reserve_line-in-Consumed-clause-handed : goal.returns-in_err-reserve_line-in-Consumed-clause-handed
returns-in_err-reserve_line-in-Consumed-clause-handed g c =
    let p = err_from_is_err_and c.from_residual-in_err-reserve_line-in-Consumed.result c.from_residual-in_err-reserve_line-in-Consumed.ensures.1 in
    rw (p.1, p.2, c.in_err-reserve_line-in-Consumed.ensures.fault) (λ reported. absurd (false≢true reported))

pub returns-in_err-write_buffered-in-Incomplete-clause-reader : goal.returns-in_err-write_buffered-in-Incomplete-clause-reader
returns-in_err-write_buffered-in-Incomplete-clause-reader g c =
    let p = err_from_is_err_and c.from_residual-in_err-write_buffered-in-Incomplete.result c.from_residual-in_err-write_buffered-in-Incomplete.ensures.1 in
    rw (p.1, p.2, c.in_err-write_buffered-in-Incomplete.ensures.fault) c.loop-count.invariant.reads

pub returns-in_err-write_buffered-in-Incomplete-clause-writer : goal.returns-in_err-write_buffered-in-Incomplete-clause-writer
returns-in_err-write_buffered-in-Incomplete-clause-writer g c =
    let p = err_from_is_err_and c.from_residual-in_err-write_buffered-in-Incomplete.result c.from_residual-in_err-write_buffered-in-Incomplete.ensures.1 in
    rw (p.1, p.2, c.in_err-write_buffered-in-Incomplete.ensures.fault) c.in_err-write_buffered-in-Incomplete.ensures.reported

pub returns-in_err-write_buffered-in-Incomplete-clause-handed : goal.returns-in_err-write_buffered-in-Incomplete-clause-handed
returns-in_err-write_buffered-in-Incomplete-clause-handed g c =
    let p = err_from_is_err_and c.from_residual-in_err-write_buffered-in-Incomplete.result c.from_residual-in_err-write_buffered-in-Incomplete.ensures.1 in
    rw (p.1, p.2, c.in_err-write_buffered-in-Incomplete.ensures.fault) (λ reported. absurd (false≢true reported))

pub returns-in_err-fill-in-Incomplete-clause-reader : goal.returns-in_err-fill-in-Incomplete-clause-reader
returns-in_err-fill-in-Incomplete-clause-reader g c =
    let p = err_from_is_err_and c.from_residual-in_err-fill-in-Incomplete.result c.from_residual-in_err-fill-in-Incomplete.ensures.1 in
    rw (p.1, p.2, c.in_err-fill-in-Incomplete.ensures.fault) c.in_err-fill-in-Incomplete.ensures.reported

pub returns-in_err-fill-in-Incomplete-clause-writer : goal.returns-in_err-fill-in-Incomplete-clause-writer
returns-in_err-fill-in-Incomplete-clause-writer g c =
    let p = err_from_is_err_and c.from_residual-in_err-fill-in-Incomplete.result c.from_residual-in_err-fill-in-Incomplete.ensures.1 in
    rw (p.1, p.2, c.in_err-fill-in-Incomplete.ensures.fault) (c.in_ok-write_buffered-in-Incomplete.ensures.reported ∙ c.loop-count.invariant.writes)

pub returns-in_err-fill-in-Incomplete-clause-handed : goal.returns-in_err-fill-in-Incomplete-clause-handed
returns-in_err-fill-in-Incomplete-clause-handed g c = λ reported. c.in_ok-write_buffered-in-Incomplete.ensures.ok.0

pub loop-count-init : goal.loop-count-init
loop-count-init g c =
    let e = g.E.Engine in
    let r = c.requires in
    record {
      past = e.none;
      keeps = r.keeps;
      going =
          rw (r.none_came, r.none_waits)
          (Going-begun e.settings e.taken e.reported e.active e.is_partial e.ends (most_bytes (e.lines_left c.args.engine.now)) (e.with_past c.args.engine.now e.none) (g.R.Read.remaining c.args.reader.now)
          (g.W.Write.contents c.args.writer.now) r.active r.none_taken r.none_reported);
      short = omega (arith, ap length r.none_taken);
      room = omega (arith, r.room, ap length r.none_waits, c.args.buffered.now.ok.0);
      capacity = r.room;
      reads = refl;
      writes = refl;
    }
