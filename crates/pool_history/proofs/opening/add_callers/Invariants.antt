use Rattle.std.proofs.Common.{◌≡◌, ◌<◌, ℕ, [], length, Some, slice_get}
use Rattle.crossbeam_utils.specs.Seq.{cell_view}
use Rattle.pool_history.specs.CellInvariant.{authority}
use Rattle.pool_history.specs.CallerStates.{newcomer_at}
use Rattle.pool_history.proofs.opening.add_callers.Given as goal

abbrev pub invariant-loop-number : goal.invariant-loop-number
invariant-loop-number g l = (l.pass.table_id ≡ l.initial.pass.table_id) × (cell_view l.pass ≡ authority g.B.PoolBrand.settings [] l.number [] []) × (length l.list.items ≡ l.number) × ((k : ℕ) → k < l.number → slice_get l.list.items k ≡ Some (newcomer_at k))
