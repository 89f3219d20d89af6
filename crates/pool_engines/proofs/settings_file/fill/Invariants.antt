use Rattle.std.proofs.Common.{◌≡◌, ◌-◌, ◌≤◌, length}
use Rattle.std.specs.Prelude.{vec_capacity}
use Rattle.std.specs.Io.KnownBytes.{Consumes}
use Rattle.pool_engines.proofs.settings_file.fill.Given as goal

abbrev pub invariant-loop-chunk : goal.invariant-loop-chunk
invariant-loop-chunk g l = record {
  chunk : length l.chunk ≡ 4096;
  within : length l.bytes.items ≤ 1048577;
  room : 1048577 ≤ vec_capacity l.bytes;
  came : Consumes (g.R.Read.remaining l.fn.reader) (g.R.Read.remaining l.reader) l.bytes.items;
  reads : g.R.Source.may_have_failed l.reader ≡ g.R.Source.may_have_failed l.fn.reader;
}

abbrev pub decreases-loop-chunk : goal.decreases-loop-chunk
decreases-loop-chunk g l = 1048577 - length l.bytes.items
