-- The counts of the objects after a change of one.
use Rattle.std.proofs.Common.{◌≡◌, ℕ, ◌+◌, ◌*◌, ◌≤◌, ◌^◌, lit≤, Bool, true, false, cond, List, [], ◌∷◌, ◌++◌, length, set, refl, ap, arith}
use Rattle.std.specs.Prelude.{remove}
use Rattle.std.specs.Int.{from_bool}
use Rattle.std.specs.List.{sum_by}
use Rattle.std.proofs.lemmas.List.{length-map}
use Rattle.std.proofs.lemmas.List.Folds.{fold-map}
use Rattle.std.proofs.lemmas.List.Sums.{sum_by-set, sum_by-remove, sum_by_push, sum_by-cons, sum_by-le}
use Rattle.pool_journal.specs.declared.record.Record.{Record}
use Rattle.pool_journal.specs.declared.record.Phase.{Phase}
use Rattle.pool_journal.specs.declared.record.Phase.TheVariants as phases
use Rattle.pool_journal.specs.Queue.{is_idle, is_queued}
use Rattle.pool_places.specs.declared.place.Place.{Place}
use Rattle.pool_places.specs.declared.place_counts.PlaceCounts.{PlaceCounts}
use Rattle.pool_places.specs.Counts.{is_adding, max_remaining, IsCounts, IsSmall, HasOne, HasOneMore}
use Rattle.pool_places.specs.Overdue.{is_lent}
use Rattle.pool_places.specs.PlacesModel.{records_in}
use Rattle.pool_places.proofs.Found.{Found}

-- the sum over the objects of the number of each phase
abbrev total : {T : Type 0} → (Phase → ℕ) → List (Place T) → ℕ
total w ps = sum_by (λ r. w r.phase) (records_in ps)

total_is : {T : Type 0} (w : Phase → ℕ) (ps : List (Place T)) → total w ps ≡ sum_by (λ p. w p.known.phase) ps
total_is {T} w ps = fold-map (λ (a : ℕ) (r : Record). a + w r.phase) (λ (p : Place T). p.known) 0 ps

total_set : {T : Type 0} {ps : List (Place T)} {i k : ℕ} {q : Place T} (w : Phase → ℕ) (p : Place T) → Found ps i k q → total w (set ps k p) + w q.known.phase ≡ total w ps + w p.known.phase
total_set {T} {ps} {i} {k} {q} w p here =
    omega (arith, total_is w (set ps k p), total_is w ps, sum_by-set (λ (x : Place T). w x.known.phase) ps k p q here.at.in_range, ap (λ (x : Place T). w x.known.phase) here.read)

total_remove : {T : Type 0} {ps : List (Place T)} {i k : ℕ} {q : Place T} (w : Phase → ℕ) → Found ps i k q → total w (remove ps k) + w q.known.phase ≡ total w ps
total_remove {T} {ps} {i} {k} {q} w here =
    omega (arith, total_is w (remove ps k), total_is w ps, sum_by-remove (λ (x : Place T). w x.known.phase) ps k q here.at.in_range, ap (λ (x : Place T). w x.known.phase) here.read)

total_push : {T : Type 0} (w : Phase → ℕ) (ps : List (Place T)) (p : Place T) → total w (ps ++ p ∷ []) ≡ total w ps + w p.known.phase
total_push {T} w ps p = omega (arith, total_is w (ps ++ p ∷ []), total_is w ps, sum_by_push (λ (x : Place T). w x.known.phase) ps p)

abbrev one : (Phase → Bool) → Phase → ℕ
one test phase = cond (test phase) 1 0

one_is : (test : Phase → Bool) (phase : Phase) → from_bool (test phase) ≡ one test phase
one_is test phase = as_number (test phase)
  where
    as_number : (t : Bool) → from_bool t ≡ cond t 1 0
    as_number true = refl
    as_number false = refl

ones : (rs : List Record) → sum_by (λ r. 1) rs ≡ length rs
ones [] = refl
ones (r ∷ rs) = omega (arith, sum_by-cons (λ (x : Record). 1) r rs, ones rs)

weight_at_most : (p : Phase) → max_remaining p ≤ 5
weight_at_most phases.Readying = lit≤ tt
weight_at_most _ = lit≤ tt

one_at_most : (test : Phase → Bool) (p : Phase) → one test p ≤ 5
one_at_most test p = at_most (test p)
  where
    at_most : (t : Bool) → cond t 1 0 ≤ 5
    at_most true = lit≤ tt
    at_most false = lit≤ tt

total_at_most : {T : Type 0} (w : Phase → ℕ) (ps : List (Place T)) → ((p : Phase) → w p ≤ 5) → total w ps ≤ length ps * 5
total_at_most {T} w ps bounded = omega (arith, total_is w ps, sum_by-le (λ (x : Place T). w x.known.phase) 5 ps (λ j d lt. bounded _))

pub length_records : {T : Type 0} (ps : List (Place T)) → length (records_in ps) ≡ length ps
length_records ps = length-map ps (λ p. p.known)

-- a present object is counted
pub has_one : {T : Type 0} {ps : List (Place T)} {i k : ℕ} {q : Place T} (c : PlaceCounts) → Found ps i k q → IsCounts c (records_in ps) → HasOne c q.known.phase
has_one {ps} {q} c here is = record {
  present = omega (arith, is.present, ones (records_in ps), total_remove (λ p. 1) here);
  queue = omega (arith, is.queue, one_is is_queued q.known.phase, total_remove (one is_queued) here);
  idle = omega (arith, is.idle, one_is is_idle q.known.phase, total_remove (one is_idle) here);
  lent = omega (arith, is.lent, one_is is_lent q.known.phase, total_remove (one is_lent) here);
  adding = omega (arith, is.adding, one_is is_adding q.known.phase, total_remove (one is_adding) here);
  owed = omega (arith, is.owed, total_remove max_remaining here);
}

-- the counts without the object
pub counted_remove : {T : Type 0} {ps : List (Place T)} {i k : ℕ} {q : Place T} (old rest : PlaceCounts) → Found ps i k q → IsCounts old (records_in ps) → HasOneMore rest old q.known.phase → IsCounts rest (records_in (remove ps k))
counted_remove {ps} {k} {q} old rest here is less = record {
  present = omega (arith, is.present, less.present, ones (records_in ps), ones (records_in (remove ps k)), total_remove (λ p. 1) here);
  queue = omega (arith, is.queue, less.queue, one_is is_queued q.known.phase, total_remove (one is_queued) here);
  idle = omega (arith, is.idle, less.idle, one_is is_idle q.known.phase, total_remove (one is_idle) here);
  lent = omega (arith, is.lent, less.lent, one_is is_lent q.known.phase, total_remove (one is_lent) here);
  adding = omega (arith, is.adding, less.adding, one_is is_adding q.known.phase, total_remove (one is_adding) here);
  owed = omega (arith, is.owed, less.owed, total_remove max_remaining here);
}

-- the counts with the object in another phase
pub counted_set : {T : Type 0} {ps : List (Place T)} {i k : ℕ} {q : Place T} (old rest new : PlaceCounts) (p : Place T) → Found ps i k q → IsCounts old (records_in ps) → HasOneMore rest old q.known.phase → HasOneMore rest new p.known.phase → IsCounts new (records_in (set ps k p))
counted_set {ps} {k} {q} old rest new p here is less more = record {
  present = omega (arith, is.present, less.present, more.present, ones (records_in ps), ones (records_in (set ps k p)), total_set (λ p. 1) p here);
  queue = omega (arith, is.queue, less.queue, more.queue, one_is is_queued q.known.phase, one_is is_queued p.known.phase, total_set (one is_queued) p here);
  idle = omega (arith, is.idle, less.idle, more.idle, one_is is_idle q.known.phase, one_is is_idle p.known.phase, total_set (one is_idle) p here);
  lent = omega (arith, is.lent, less.lent, more.lent, one_is is_lent q.known.phase, one_is is_lent p.known.phase, total_set (one is_lent) p here);
  adding = omega (arith, is.adding, less.adding, more.adding, one_is is_adding q.known.phase, one_is is_adding p.known.phase, total_set (one is_adding) p here);
  owed = omega (arith, is.owed, less.owed, more.owed, total_set max_remaining p here);
}

-- the counts with one more object
pub counted_push : {T : Type 0} (ps : List (Place T)) (old new : PlaceCounts) (p : Place T) → IsCounts old (records_in ps) → HasOneMore old new p.known.phase → IsCounts new (records_in (ps ++ p ∷ []))
counted_push ps old new p is more = record {
  present = omega (arith, is.present, more.present, ones (records_in ps), ones (records_in (ps ++ p ∷ [])), total_push (λ p. 1) ps p);
  queue = omega (arith, is.queue, more.queue, one_is is_queued p.known.phase, total_push (one is_queued) ps p);
  idle = omega (arith, is.idle, more.idle, one_is is_idle p.known.phase, total_push (one is_idle) ps p);
  lent = omega (arith, is.lent, more.lent, one_is is_lent p.known.phase, total_push (one is_lent) ps p);
  adding = omega (arith, is.adding, more.adding, one_is is_adding p.known.phase, total_push (one is_adding) ps p);
  owed = omega (arith, is.owed, more.owed, total_push max_remaining ps p);
}

pub small : {T : Type 0} (ps : List (Place T)) (c : PlaceCounts) → length ps ≤ 2 ^ 60 → IsCounts c (records_in ps) → IsSmall c
small ps c bounded is = record {
  present = omega (arith, bounded, is.present, length_records ps);
  queue = omega (arith, bounded, is.queue, total_at_most (one is_queued) ps (one_at_most is_queued));
  idle = omega (arith, bounded, is.idle, total_at_most (one is_idle) ps (one_at_most is_idle));
  lent = omega (arith, bounded, is.lent, total_at_most (one is_lent) ps (one_at_most is_lent));
  adding = omega (arith, bounded, is.adding, total_at_most (one is_adding) ps (one_at_most is_adding));
  owed = omega (arith, bounded, is.owed, total_at_most max_remaining ps weight_at_most);
}

-- with one object fewer, the counts are small as well
pub small_less : (rest old : PlaceCounts) (phase : Phase) → IsSmall old → HasOneMore rest old phase → IsSmall rest
small_less rest old phase is less = record {
  present = omega (arith, is.present, less.present);
  queue = omega (arith, is.queue, less.queue);
  idle = omega (arith, is.idle, less.idle);
  lent = omega (arith, is.lent, less.lent);
  adding = omega (arith, is.adding, less.adding);
  owed = omega (arith, is.owed, less.owed);
}
