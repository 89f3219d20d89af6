use Rattle.std.proofs.Common.{◌≡◌, ◌+◌, ◌-◌, ◌*◌, ◌≤◌, length}
use Rattle.std.specs.Prelude.{vec_capacity}
use Rattle.pool_journal.specs.Appending.{longest_line}
use Rattle.pool_engines.specs.Leaving.{most_bytes}
use Rattle.pool_engines.specs.Handing.{HasRoom, buffer_room}
use Rattle.pool_engines.proofs.Going.{Going}
use Rattle.pool_engines.proofs.engine.pass_lines.Given as goal

abbrev pub invariant-loop-count : goal.invariant-loop-count
invariant-loop-count g l =
    let e = g.E.Engine in
    record {
      past : e.past;
      keeps : e.keeps l.engine past;
      going : Going e.settings e.taken e.reported e.active e.is_partial e.ends (most_bytes (e.lines_left l.fn.engine)) (e.with_past l.fn.engine e.none) (g.R.Read.remaining l.fn.reader)
          (g.W.Write.contents l.fn.writer) (e.with_past l.engine past) (g.R.Read.remaining l.reader) (g.W.Write.contents l.writer) l.incoming l.buffered.items;
      short : length (e.taken (e.with_past l.engine past)) + longest_line * e.lines_left l.engine ≤ longest_line * e.lines_left l.fn.engine;
      room : HasRoom l.buffered;
      capacity : buffer_room ≤ vec_capacity l.buffered;
      reads : g.R.Source.may_have_failed l.reader ≡ g.R.Source.may_have_failed l.fn.reader;
      writes : g.W.Sink.may_have_failed l.writer ≡ g.W.Sink.may_have_failed l.fn.writer;
    }

abbrev pub decreases-loop-count : goal.decreases-loop-count
decreases-loop-count g l = g.E.Engine.lines_left l.engine * 65537 + (65536 - length l.incoming)
