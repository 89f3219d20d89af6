use Rattle.std.proofs.Common.{◌≡◌, map}
use Rattle.crossbeam_utils.specs.Seq.{cell_view}
use Rattle.pool_history.specs.CellInvariant.{with_fragments}
use Rattle.pool_history.specs.CallerStates.{fragment_of}
use Rattle.pool_history.proofs.opening.join_callers.Given as goal

abbrev pub invariant-loop-caller : goal.invariant-loop-caller
invariant-loop-caller g l = (l.pass.table_id ≡ l.initial.pass.table_id) × (cell_view l.pass ≡ with_fragments (cell_view l.initial.pass) (map (fragment_of g.B.PoolBrand.settings) l.yielded))
