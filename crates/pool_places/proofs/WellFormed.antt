-- Searches among objects with ascending ids, and the effect of a change of one.
use Rattle.std.proofs.Common.{◌≡◌, ◌≢◌, ℕ, zero, suc, ◌<◌, ◌^◌, ◌==◌, eqb, Bool, true, false, not, cond, List, [], ◌∷◌, ◌++◌, length, get_or, set, Option, Some, None, refl, ap, sym, ◌∙◌, arith, subst}
use Rattle.std.specs.Prelude.{remove, is_some, IsSomeAnd}
use Rattle.std.specs.List.{AllByRecursion}
use Rattle.std.specs.Option.{option_map}
use Rattle.std.proofs.lemmas.Bool.Decides.{nat_tests}
use Rattle.std.proofs.Math.ListN.{length-set}
use Rattle.std.proofs.lemmas.List.{length_push}
use Rattle.std.proofs.lemmas.List.Sums.{length-filter, count_by-le-length}
use Rattle.std.proofs.lemmas.List.Elements.{All-set, All-filter, All-push}
use Rattle.pool_journal.specs.Queue.{record_in}
use Rattle.pool_journal.specs.declared.record.Record.{Record}
use Rattle.pool_places.specs.declared.place.Place.{Place}
use Rattle.pool_places.specs.PlacesModel.{records_in, place_in, changed, without, IsAscending, IsAt, PlacesInvariant, IsValued}

-- i is at position k, which is read with the default d
pub record At {T : Type 0} (ps : List (Place T)) (i k : ℕ) (d : Place T) : Type 0 where
  pub in_range : k < length ps
  pub has_id : (get_or ps k d).known.id ≡ i

other_is : (i j : ℕ) → i ≢ j → eqb i j ≡ false
other_is i j other = grind (arith, nat_tests)

same_is : (i j : ℕ) → i ≡ j → eqb i j ≡ true
same_is i j same = grind (arith, nat_tests)

-- objects with greater ids than i are not i
pub changed_above : {T : Type 0} (i : ℕ) (f : Place T → Place T) (ps : List (Place T)) → AllByRecursion (λ q. i < q.known.id) ps → changed i f ps ≡ ps
changed_above i f [] all = refl
changed_above i f (p ∷ ps) all = rw (other_is i p.known.id (λ same. omega (arith, all.0))) (ap (λ qs. p ∷ qs) (changed_above i f ps all.1))

pub without_above : {T : Type 0} (i : ℕ) (ps : List (Place T)) → AllByRecursion (λ q. i < q.known.id) ps → without i ps ≡ ps
without_above i [] all = refl
without_above i (p ∷ ps) all = rw (other_is i p.known.id (λ same. omega (arith, all.0))) (ap (λ qs. p ∷ qs) (without_above i ps all.1))

-- the id at a later position is greater
pub id_above : {T : Type 0} (n k : ℕ) (d : Place T) (ps : List (Place T)) → AllByRecursion (λ q. n < q.known.id) ps → k < length ps → n < (get_or ps k d).known.id
id_above n k d [] all lt = absurd (omega arith)
id_above n zero d (p ∷ ps) all lt = all.0
id_above n (suc k) d (p ∷ ps) all lt = id_above n k d ps all.1 (omega arith)

-- a write at the position of i changes i
pub set-changed : {T : Type 0} (i k : ℕ) (f : Place T → Place T) (d : Place T) (ps : List (Place T)) → IsAscending ps → At ps i k d → set ps k (f (get_or ps k d)) ≡ changed i f ps
set-changed i k f d [] up at = absurd (omega (arith, at.in_range))
set-changed i zero f d (p ∷ ps) up at =
    let above : AllByRecursion (λ q. i < q.known.id) ps = subst (λ (n : ℕ). AllByRecursion (λ q. n < q.known.id) ps) at.has_id up.0 in
    rw (same_is i p.known.id (sym at.has_id)) (ap (λ qs. f p ∷ qs) (sym (changed_above i f ps above)))
set-changed i (suc k) f d (p ∷ ps) up at =
    let below = id_above p.known.id k d ps up.0 (omega (arith, at.in_range)) in
    rw (other_is i p.known.id (λ same. omega (arith, below, at.has_id)))
    (ap (λ qs. p ∷ qs) (set-changed i k f d ps up.1 (record { in_range = omega (arith, at.in_range); has_id = at.has_id })))

-- a removal at the position of i removes i
pub remove-without : {T : Type 0} (i k : ℕ) (d : Place T) (ps : List (Place T)) → IsAscending ps → At ps i k d → remove ps k ≡ without i ps
remove-without i k d [] up at = absurd (omega (arith, at.in_range))
remove-without i zero d (p ∷ ps) up at =
    let above : AllByRecursion (λ q. i < q.known.id) ps = subst (λ (n : ℕ). AllByRecursion (λ q. n < q.known.id) ps) at.has_id up.0 in
    rw (same_is i p.known.id (sym at.has_id)) (sym (without_above i ps above))
remove-without i (suc k) d (p ∷ ps) up at =
    let below = id_above p.known.id k d ps up.0 (omega (arith, at.in_range)) in
    rw (other_is i p.known.id (λ same. omega (arith, below, at.has_id)))
    (ap (λ qs. p ∷ qs) (remove-without i k d ps up.1 (record { in_range = omega (arith, at.in_range); has_id = at.has_id })))

-- the object at the position of i is i
pub place_at : {T : Type 0} (i k : ℕ) (d : Place T) (ps : List (Place T)) → IsAscending ps → At ps i k d → place_in ps i ≡ Some (get_or ps k d)
place_at i k d [] up at = absurd (omega (arith, at.in_range))
place_at i zero d (p ∷ ps) up at = rw (same_is i p.known.id (sym at.has_id)) refl
place_at i (suc k) d (p ∷ ps) up at =
    let below = id_above p.known.id k d ps up.0 (omega (arith, at.in_range)) in
    rw (other_is i p.known.id (λ same. omega (arith, below, at.has_id))) (place_at i k d ps up.1 (record { in_range = omega (arith, at.in_range); has_id = at.has_id }))

-- a record is that of the object
pub record_in-records_in : {T : Type 0} (i : ℕ) (ps : List (Place T)) → record_in (records_in ps) i ≡ option_map (λ p. p.known) (place_in ps i)
record_in-records_in i [] = refl
record_in-records_in {T} i (p ∷ ps) = by_test (i == p.known.id) (record_in-records_in i ps)
  where
    by_test : (b : Bool) → record_in (records_in ps) i ≡ option_map (λ q. q.known) (place_in ps i)
        → cond b (Some p.known) (record_in (records_in ps) i) ≡ option_map (λ q. q.known) (cond b (Some p) (place_in ps i))
    by_test true rest = refl
    by_test false rest = rest

-- the object that was read at the position of i
pub at_read : {T : Type 0} (ps : List (Place T)) (i k : ℕ) (q : Place T) → IsAt ps i k → q ≡ get_or ps k q → At ps i k q
at_read ps i k q at read = record { in_range = at.in_range; has_id = at.has_id q }

pub place_found : {T : Type 0} (ps : List (Place T)) (i k : ℕ) (q : Place T) → IsAscending ps → IsAt ps i k → q ≡ get_or ps k q → place_in ps i ≡ Some q
place_found ps i k q up at read = place_at i k q ps up (at_read ps i k q at read) ∙ ap Some (sym read)

-- a write that keeps the id keeps the order of the ids
all_above_set : {T : Type 0} (n k : ℕ) (p d : Place T) (ps : List (Place T)) → k < length ps → p.known.id ≡ (get_or ps k d).known.id
    → AllByRecursion (λ q. n < q.known.id) ps → AllByRecursion (λ q. n < q.known.id) (set ps k p)
all_above_set n k p d [] lt same all = tt
all_above_set n zero p d (q ∷ ps) lt same all = (omega (arith, same, all.0), all.1)
all_above_set n (suc k) p d (q ∷ ps) lt same all = (all.0, all_above_set n k p d ps (omega arith) same all.1)

ascending_set : {T : Type 0} (k : ℕ) (p d : Place T) (ps : List (Place T)) → k < length ps → p.known.id ≡ (get_or ps k d).known.id → IsAscending ps → IsAscending (set ps k p)
ascending_set k p d [] lt same up = tt
ascending_set zero p d (q ∷ ps) lt same up = (subst (λ (n : ℕ). AllByRecursion (λ x. n < x.known.id) ps) (sym same) up.0, up.1)
ascending_set (suc k) p d (q ∷ ps) lt same up = (all_above_set q.known.id k p d ps (omega arith) same up.0, ascending_set k p d ps (omega arith) same up.1)

pub shelf_set : {T : Type 0} (ps : List (Place T)) (k : ℕ) (q p : Place T) → PlacesInvariant ps → k < length ps → q ≡ get_or ps k q → p.known.id ≡ q.known.id → IsValued p → PlacesInvariant (set ps k p)
shelf_set ps k q p well_formed lt read same valued =
    record { ascending = ascending_set k p q ps lt (same ∙ ap (λ x. x.known.id) read) well_formed.ascending; valued = All-set IsValued ps k p valued well_formed.valued; bounded = omega (arith, well_formed.bounded, length-set ps k p) }

-- a write at the position of i is a change of i
pub change_is : {T : Type 0} (f : Place T → Place T) (ps : List (Place T)) (i k : ℕ) (q : Place T) → PlacesInvariant ps → IsAt ps i k → q ≡ get_or ps k q → set ps k (f q) ≡ changed i f ps
change_is f ps i k q well_formed at read = ap (λ x. set ps k (f x)) read ∙ set-changed i k f q ps well_formed.ascending (at_read ps i k q at read)

all_without : {T : Type 0} (n i : ℕ) (ps : List (Place T)) → AllByRecursion (λ q. n < q.known.id) ps → AllByRecursion (λ q. n < q.known.id) (without i ps)
all_without n i [] all = tt
all_without n i (p ∷ ps) all = by_test (not (i == p.known.id)) all.0 (all_without n i ps all.1)
  where
    by_test : (b : Bool) → n < p.known.id → AllByRecursion (λ q. n < q.known.id) (without i ps) → AllByRecursion (λ q. n < q.known.id) (cond b (p ∷ without i ps) (without i ps))
    by_test true here rest = (here, rest)
    by_test false here rest = rest

ascending_without : {T : Type 0} (i : ℕ) (ps : List (Place T)) → IsAscending ps → IsAscending (without i ps)
ascending_without i [] up = tt
ascending_without i (p ∷ ps) up = by_test (not (i == p.known.id)) (all_without p.known.id i ps up.0) (ascending_without i ps up.1)
  where
    by_test : (b : Bool) → AllByRecursion (λ q. p.known.id < q.known.id) (without i ps) → IsAscending (without i ps) → IsAscending (cond b (p ∷ without i ps) (without i ps))
    by_test true here rest = (here, rest)
    by_test false here rest = rest

pub shelf_without : {T : Type 0} (i : ℕ) (ps : List (Place T)) → PlacesInvariant ps → PlacesInvariant (without i ps)
shelf_without i ps well_formed = record { ascending = ascending_without i ps well_formed.ascending; valued = All-filter (λ p. not (i == p.known.id)) IsValued ps well_formed.valued; bounded = omega (arith, well_formed.bounded, length-filter (λ (p : Place _). not (i == p.known.id)) ps, count_by-le-length (λ (p : Place _). not (i == p.known.id)) ps) }

pub remove_is : {T : Type 0} (ps : List (Place T)) (i k : ℕ) (q : Place T) → PlacesInvariant ps → IsAt ps i k → q ≡ get_or ps k q → remove ps k ≡ without i ps
remove_is ps i k q well_formed at read = remove-without i k q ps well_formed.ascending (at_read ps i k q at read)

all_above_push : {T : Type 0} (n : ℕ) (ps : List (Place T)) (p : Place T) → AllByRecursion (λ q. n < q.known.id) ps → n < p.known.id → AllByRecursion (λ q. n < q.known.id) (ps ++ p ∷ [])
all_above_push n [] p all lt = (lt, tt)
all_above_push n (q ∷ ps) p all lt = (all.0, all_above_push n ps p all.1 lt)

ascending_push : {T : Type 0} (ps : List (Place T)) (p : Place T) → IsAscending ps → AllByRecursion (λ q. q.known.id < p.known.id) ps → IsAscending (ps ++ p ∷ [])
ascending_push [] p up all = (tt, tt)
ascending_push (q ∷ ps) p up all = (all_above_push q.known.id ps p up.0 all.0, ascending_push ps p up.1 all.1)

pub well_formed_push : {T : Type 0} (ps : List (Place T)) (p : Place T) → PlacesInvariant ps → AllByRecursion (λ q. q.known.id < p.known.id) ps → IsValued p → length ps < 2 ^ 60 → PlacesInvariant (ps ++ p ∷ [])
well_formed_push ps p well_formed above valued bounded = record { ascending = ascending_push ps p well_formed.ascending above; valued = All-push IsValued ps p well_formed.valued valued; bounded = omega (arith, length_push ps p) }

-- a property of the record of i holds of the record of the object that was read
pub known_at : {T : Type 0} (P : Record → Type 0) (ps : List (Place T)) (i k : ℕ) (q : Place T) → PlacesInvariant ps → IsAt ps i k → q ≡ get_or ps k q → IsSomeAnd (record_in (records_in ps) i) P → P q.known
known_at P ps i k q well_formed at read known =
    subst (λ o. IsSomeAnd o P) (record_in-records_in i ps ∙ ap (option_map (λ p. p.known)) (place_found ps i k q well_formed.ascending at read)) known

pub valued_at : {T : Type 0} (ps : List (Place T)) (k : ℕ) (q : Place T) → PlacesInvariant ps → k < length ps → q ≡ get_or ps k q → IsValued q
valued_at ps k q well_formed lt read = subst IsValued (sym read) (well_formed.valued k q lt)

pub empty_valued : {T : Type 0} (o : Option T) {b : Bool} → o ≡ None → b ≡ false → is_some o ≡ b
empty_valued o none is = ap is_some none ∙ sym is

-- a property of each record holds of the record of each object
pub all_places : {T : Type 0} (P : Record → Type 0) (ps : List (Place T)) → AllByRecursion P (records_in ps) → AllByRecursion (λ p. P p.known) ps
all_places P [] all = tt
all_places P (p ∷ ps) all = (all.0, all_places P ps all.1)
