-- The counts before the first entry.
use Rattle.std.proofs.Common.{◌≡◌, [], ◌∷◌, ap, sym}
use Rattle.pool_journal.specs.Base.{empty_base}
use Rattle.pool_journal.specs.declared.base.Base.{Base}
use Rattle.pool_journal.proofs.Segments.{reach-none}
use Rattle.pool_journal.proofs.Starting.{empty_is_sound}
use Rattle.pool_stats.specs.Counts.{counts_at}
use Rattle.pool_stats.specs.Words.{words_of}
use Rattle.pool_history.specs.CellInvariant.{counted}

pub counted_empty : 0 ∷ 0 ∷ 0 ∷ 0 ∷ 0 ∷ 0 ∷ 0 ∷ 0 ∷ [] ≡ counted []
counted_empty = ap (λ (b : Base). words_of (counts_at b)) (sym (reach-none empty_base empty_is_sound))
