-- An object that was read at its position, and the effect of a write at this position.
use Rattle.std.proofs.Common.{◌≡◌, ◌≢◌, ℕ, ◌==◌, Bool, true, false, not, cond, if◌then◌else◌, List, [], ◌∷◌, ◌++◌, get_or, set, Option, Some, None, refl, ap, sym, ◌∙◌, subst}
use Rattle.std.specs.Prelude.{IsSomeAnd, is_some, remove}
use Rattle.std.specs.Option.{option_and_then, option_map}
use Rattle.std.proofs.lemmas.List.{map-append}
use Rattle.pool_journal.specs.Queue.{record_in, is_idle}
use Rattle.pool_journal.specs.declared.record.Record.{Record}
use Rattle.pool_journal.specs.declared.record.Phase.TheVariants as phases
use Rattle.pool_places.specs.declared.place.Place.{Place}
use Rattle.pool_places.specs.Changes.{with_changed, without_id}
use Rattle.pool_places.specs.PlacesModel.{PlacesModel, records_in, value_in, changed, without, IsAt, PlacesInvariant, IsValued}
use Rattle.pool_places.proofs.WellFormed.{place_found, shelf_set, change_is, shelf_without, remove_is, known_at, valued_at}
use Rattle.pool_places.proofs.Values.{value_changed_kept, value_changed_other, place_changed_here, value_without}

-- i is at position k, and q was read at it
pub record Found {T : Type 0} (ps : List (Place T)) (i k : ℕ) (q : Place T) : Type 0 where
  pub well_formed : PlacesInvariant ps
  pub at : IsAt ps i k
  pub read : q ≡ get_or ps k q

-- a property of the record of i holds of the record that was read
pub found_known : {T : Type 0} {ps : List (Place T)} {i k n : ℕ} {q : Place T} {s : PlacesModel T} (P : Record → Type 0) → Found ps i k q → (let seen : PlacesModel T = record { objects = ps; spare_capacity = n } in seen ≡ s)
    → IsSomeAnd (record_in (records_in s.objects) i) P → P q.known
found_known {ps} {i} {k} {n} {q} {s} P here seen known =
    known_at P ps i k q here.well_formed here.at here.read (subst (λ x. IsSomeAnd (record_in (records_in x.objects) i) P) (sym seen) known)

empty : {T : Type 0} (o : Option T) → is_some o ≡ false → o ≡ None
empty None is = refl
empty (Some x) is = absurd (cc is)

pub found_empty : {T : Type 0} {ps : List (Place T)} {i k : ℕ} {q : Place T} → Found ps i k q → is_idle q.known.phase ≡ false → q.value ≡ None
found_empty {ps} {i} {k} {q} here is = empty q.value (valued_at ps k q here.well_formed here.at.in_range here.read ∙ is)

pub found_full : {T : Type 0} {ps : List (Place T)} {i k : ℕ} {q : Place T} → Found ps i k q → q.known.phase ≡ phases.Idle → is_some q.value ≡ true
found_full {ps} {i} {k} {q} here is = valued_at ps k q here.well_formed here.at.in_range here.read ∙ ap is_idle is

pub found_value : {T : Type 0} {ps : List (Place T)} {i k : ℕ} {q : Place T} → Found ps i k q → value_in ps i ≡ q.value
found_value {ps} {i} {k} {q} here = ap (option_and_then (λ p. p.value)) (place_found ps i k q here.well_formed.ascending here.at here.read)

-- the records after a change
pub records_changed : {T : Type 0} (i : ℕ) (f : Place T → Place T) (t : Record → Record) (ps : List (Place T)) → ((p : Place T) → (f p).known ≡ t p.known)
    → records_in (changed i f ps) ≡ with_changed i t (records_in ps)
records_changed i f t [] is = refl
records_changed {T} i f t (p ∷ ps) is = by_test (i == p.known.id) (records_changed i f t ps is)
  where
    by_test : (b : Bool) → records_in (changed i f ps) ≡ with_changed i t (records_in ps)
        → records_in ((if b then f p else p) ∷ changed i f ps) ≡ (if b then t p.known else p.known) ∷ with_changed i t (records_in ps)
    by_test true later = λ x. is p x ∷ later x
    by_test false later = ap (λ ks. p.known ∷ ks) later

-- two changes of an object, one after the other
pub changed_twice : {T : Type 0} (i : ℕ) (f g : Place T → Place T) (ps : List (Place T)) → ((p : Place T) → (f p).known.id ≡ p.known.id)
    → changed i (λ p. g (f p)) ps ≡ changed i g (changed i f ps)
changed_twice i f g [] same = refl
changed_twice {T} i f g (p ∷ ps) same = by_test (i == p.known.id) refl (changed_twice i f g ps same)
  where
    by_test : (b : Bool) → (i == p.known.id) ≡ b → changed i (λ p. g (f p)) ps ≡ changed i g (changed i f ps)
        → (if b then g (f p) else p) ∷ changed i (λ p. g (f p)) ps ≡ changed i g ((if b then f p else p) ∷ changed i f ps)
    by_test true is later =
        ap (λ ks. g (f p) ∷ ks) later
        ∙ ap (λ (t : Bool). (if t then g (f p) else f p) ∷ changed i g (changed i f ps)) (sym (ap (λ (n : ℕ). i == n) (same p) ∙ is))
    by_test false is later =
        ap (λ ks. p ∷ ks) later ∙ ap (λ (t : Bool). (if t then g p else p) ∷ changed i g (changed i f ps)) (sym is)

pub records_without : {T : Type 0} (i : ℕ) (ps : List (Place T)) → records_in (without i ps) ≡ without_id i (records_in ps)
records_without i [] = refl
records_without {T} i (p ∷ ps) = by_test (not (i == p.known.id)) (records_without i ps)
  where
    by_test : (b : Bool) → records_in (without i ps) ≡ without_id i (records_in ps)
        → records_in (cond b (p ∷ without i ps) (without i ps)) ≡ cond b (p.known ∷ without_id i (records_in ps)) (without_id i (records_in ps))
    by_test true later = ap (λ ks. p.known ∷ ks) later
    by_test false later = later

pub records_push : {T : Type 0} (ps : List (Place T)) (p : Place T) → records_in (ps ++ p ∷ []) ≡ records_in ps ++ p.known ∷ []
records_push ps p = map-append (λ q. q.known) ps (p ∷ [])

-- a write that changes the object that was read
pub well_formed_set : {T : Type 0} {ps : List (Place T)} {i k : ℕ} {q : Place T} (p : Place T) → Found ps i k q → p.known.id ≡ q.known.id → IsValued p → PlacesInvariant (set ps k p)
well_formed_set {ps} {i} {k} {q} p here same valued = shelf_set ps k q p here.well_formed here.at.in_range here.read same valued

pub set_kept : {T : Type 0} {ps : List (Place T)} {i k : ℕ} {q : Place T} (f : Place T → Place T) → Found ps i k q → set ps k (f q) ≡ changed i f ps
set_kept {ps} {i} {k} {q} f here = change_is f ps i k q here.well_formed here.at here.read

pub set_records : {T : Type 0} {ps : List (Place T)} {i k : ℕ} {q : Place T} (f : Place T → Place T) (t : Record → Record) → ((p : Place T) → (f p).known ≡ t p.known) → Found ps i k q
    → records_in (set ps k (f q)) ≡ with_changed i t (records_in ps)
set_records {ps} {i} {k} {q} f t is here = ap records_in (set_kept f here) ∙ records_changed i f t ps is

pub set_values : {T : Type 0} {ps : List (Place T)} {i k : ℕ} {q : Place T} (f : Place T → Place T) → ((p : Place T) → (f p).known.id ≡ p.known.id) → ((p : Place T) → (f p).value ≡ p.value) → Found ps i k q
    → (j : ℕ) → value_in (set ps k (f q)) j ≡ value_in ps j
set_values {ps} {i} {k} {q} f same keeps here j = ap (λ xs. value_in xs j) (set_kept f here) ∙ value_changed_kept i f ps j same keeps

pub set_others : {T : Type 0} {ps : List (Place T)} {i k : ℕ} {q : Place T} (f : Place T → Place T) → ((p : Place T) → (f p).known.id ≡ p.known.id) → Found ps i k q
    → (j : ℕ) → j ≢ i → value_in (set ps k (f q)) j ≡ value_in ps j
set_others {ps} {i} {k} {q} f same here j other = ap (λ xs. value_in xs j) (set_kept f here) ∙ value_changed_other i f ps j same other

pub set_value : {T : Type 0} {ps : List (Place T)} {i k : ℕ} {q : Place T} (f : Place T → Place T) → ((p : Place T) → (f p).known.id ≡ p.known.id) → Found ps i k q → value_in (set ps k (f q)) i ≡ (f q).value
set_value {ps} {i} {k} {q} f same here =
    ap (λ xs. value_in xs i) (set_kept f here)
    ∙ ap (option_and_then (λ p. p.value)) (place_changed_here i f ps same ∙ ap (option_map f) (place_found ps i k q here.well_formed.ascending here.at here.read))

-- a removal of the object
pub well_formed_remove : {T : Type 0} {ps : List (Place T)} {i k : ℕ} {q : Place T} → Found ps i k q → PlacesInvariant (remove ps k)
well_formed_remove {ps} {i} {k} {q} here = subst PlacesInvariant (sym (remove_is ps i k q here.well_formed here.at here.read)) (shelf_without i ps here.well_formed)

pub remove_kept : {T : Type 0} {ps : List (Place T)} {i k : ℕ} {q : Place T} → Found ps i k q → remove ps k ≡ without i ps
remove_kept {ps} {i} {k} {q} here = remove_is ps i k q here.well_formed here.at here.read

pub remove_records : {T : Type 0} {ps : List (Place T)} {i k : ℕ} {q : Place T} → Found ps i k q → records_in (remove ps k) ≡ without_id i (records_in ps)
remove_records {ps} {i} here = ap records_in (remove_kept here) ∙ records_without i ps

pub remove_values : {T : Type 0} {ps : List (Place T)} {i k : ℕ} {q : Place T} → Found ps i k q → q.value ≡ None → (j : ℕ) → value_in (remove ps k) j ≡ value_in ps j
remove_values {ps} {i} here none j = ap (λ xs. value_in xs j) (remove_kept here) ∙ value_without i ps j (found_value here ∙ none)
