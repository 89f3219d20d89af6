-- The outstanding entries after a change of one object.
use Rattle.std.proofs.Common.{◌≡◌, ℕ, ◌+◌, List, [], ◌∷◌, ◌++◌, set, Some, refl, ap, ◌∙◌, arith}
use Rattle.std.specs.Prelude.{remove}
use Rattle.std.specs.List.{sum_by}
use Rattle.std.specs.Option.{option_map}
use Rattle.std.proofs.lemmas.List.Folds.{fold-map}
use Rattle.std.proofs.lemmas.List.Sums.{sum_by-set, sum_by-remove, sum_by_push}
use Rattle.pool_journal.specs.Queue.{record_in}
use Rattle.pool_journal.specs.declared.record.Record.{Record}
use Rattle.pool_journal.specs.declared.record.Phase.{Phase}
use Rattle.pool_places.specs.declared.place.Place.{Place}
use Rattle.pool_places.specs.Changes.{with_changed, without_id}
use Rattle.pool_places.specs.Counts.{max_remaining, weight_of, owed_for}
use Rattle.pool_places.specs.PlacesModel.{records_in}
use Rattle.pool_places.proofs.WellFormed.{record_in-records_in, place_found}
use Rattle.pool_places.proofs.Found.{Found, set_records, remove_records}

owed_for-records_in : {T : Type 0} (ps : List (Place T)) → owed_for (records_in ps) ≡ sum_by (λ p. max_remaining p.known.phase) ps
owed_for-records_in {T} ps = fold-map (λ (a : ℕ) (r : Record). a + max_remaining r.phase) (λ (p : Place T). p.known) 0 ps

pub found_record : {T : Type 0} {ps : List (Place T)} {i k : ℕ} {q : Place T} → Found ps i k q → record_in (records_in ps) i ≡ Some q.known
found_record {ps} {i} {k} {q} here = record_in-records_in i ps ∙ ap (option_map (λ p. p.known)) (place_found ps i k q here.well_formed.ascending here.at here.read)

pub set_owed : {T : Type 0} {ps : List (Place T)} {i k : ℕ} {q : Place T} (p : Place T) → Found ps i k q → owed_for (records_in (set ps k p)) + max_remaining q.known.phase ≡ owed_for (records_in ps) + max_remaining p.known.phase
set_owed {T} {ps} {i} {k} {q} p here =
    omega (arith, owed_for-records_in (set ps k p), owed_for-records_in ps, sum_by-set (λ (x : Place T). max_remaining x.known.phase) ps k p q here.at.in_range, ap (λ (x : Place T). max_remaining x.known.phase) here.read)

-- if the phase of the object is given
pub set_owed_from : {T : Type 0} {ps : List (Place T)} {i k : ℕ} {q : Place T} {before : Phase} (p : Place T) → Found ps i k q → q.known.phase ≡ before → owed_for (records_in (set ps k p)) + max_remaining before ≡ owed_for (records_in ps) + max_remaining p.known.phase
set_owed_from p here is = omega (arith, set_owed p here, ap max_remaining is)

-- if it isn't
pub set_owed_of : {T : Type 0} {ps : List (Place T)} {i k : ℕ} {q : Place T} (p : Place T) → Found ps i k q → owed_for (records_in (set ps k p)) + weight_of (record_in (records_in ps) i) ≡ owed_for (records_in ps) + max_remaining p.known.phase
set_owed_of {ps} {i} {k} p here = rw (found_record here) (set_owed p here)

pub remove_owed : {T : Type 0} {ps : List (Place T)} {i k : ℕ} {q : Place T} → Found ps i k q → owed_for (records_in (remove ps k)) + max_remaining q.known.phase ≡ owed_for (records_in ps)
remove_owed {T} {ps} {i} {k} {q} here =
    omega (arith, owed_for-records_in (remove ps k), owed_for-records_in ps, sum_by-remove (λ (x : Place T). max_remaining x.known.phase) ps k q here.at.in_range, ap (λ (x : Place T). max_remaining x.known.phase) here.read)

pub remove_owed_of : {T : Type 0} {ps : List (Place T)} {i k : ℕ} {q : Place T} → Found ps i k q → owed_for (records_in (remove ps k)) + weight_of (record_in (records_in ps) i) ≡ owed_for (records_in ps)
remove_owed_of {ps} {i} {k} here = rw (found_record here) (remove_owed here)

pub push_owed : {T : Type 0} (ps : List (Place T)) (p : Place T) → owed_for (records_in (ps ++ p ∷ [])) ≡ owed_for (records_in ps) + max_remaining p.known.phase
push_owed {T} ps p = omega (arith, owed_for-records_in (ps ++ p ∷ []), owed_for-records_in ps, sum_by_push (λ (x : Place T). max_remaining x.known.phase) ps p)

-- the same of the records alone
pub owed_by-with_changed : {T : Type 0} {ps : List (Place T)} {i k : ℕ} {q : Place T} (change : Record → Record) → Found ps i k q → owed_for (with_changed i change (records_in ps)) + max_remaining q.known.phase ≡ owed_for (records_in ps) + max_remaining (change q.known).phase
owed_by-with_changed {ps} {i} {k} {q} change here =
    rw (← (set_records (λ p. record p { known = change p.known }) change (λ p. refl) here)) (set_owed (record q { known = change q.known }) here)

pub owed_by-without_id : {T : Type 0} {ps : List (Place T)} {i k : ℕ} {q : Place T} → Found ps i k q → owed_for (without_id i (records_in ps)) + max_remaining q.known.phase ≡ owed_for (records_in ps)
owed_by-without_id {ps} {i} {k} here = rw (← (remove_records here)) (remove_owed here)
