-- The object that a search finds: it is present, in its phase, and the first of those that pass.
use Rattle.std.proofs.Common.{◌≡◌, ℕ, ◌<◌, ◌≤◌, nat_lt, ◌&&◌, ◌==◌, Bool, true, false, cond, if◌then◌else◌, List, [], ◌∷◌, Option, Some, None, refl, ap, sym, ◌∙◌, arith, subst}
use Rattle.std.specs.Prelude.{filter, find, fold, IfSome, IsSomeAnd}
use Rattle.std.specs.List.{AllByRecursion}
use Rattle.std.specs.Option.{option_map, ForSome}
use Rattle.std.proofs.lemmas.Bool.Decides.{nat_tests}
use Rattle.pool_journal.specs.Queue.{record_in, is_idle, first_of, last_of, idle_queue}
use Rattle.pool_journal.specs.declared.record.Record.{Record}
use Rattle.pool_journal.proofs.Ascending.{first_of-by_ascending, last_of-by_ascending}
use Rattle.pool_journal.specs.Queue.{earlier, later}
use Rattle.std.proofs.Common.{ltb}
use Rattle.pool_journal.specs.declared.record.Phase.{Phase}
use Rattle.pool_journal.specs.declared.record.Phase.TheVariants as phases
use Rattle.pool_places.specs.declared.place.Place.{Place}
use Rattle.pool_places.specs.After.{is_after}
use Rattle.pool_places.specs.Overdue.{is_lent, is_overdue, overdue}
use Rattle.pool_places.proofs.Passes.{earlier_after, first_after-idle_queue}
use Rattle.pool_places.specs.PlacesModel.{records_in, IsAscending}

-- a property of each element holds of the element that a pass finds
pub pass_keeps : {A : Type 0} (Q : A → Type 0) (step : Option A → A → Option A) → ((o : Option A) (x : A) → ForSome o Q → Q x → ForSome (step o x) Q) → (o : Option A) (xs : List A) → ForSome o Q → AllByRecursion Q xs → ForSome (fold step o xs) Q
pass_keeps Q step keeps o [] so_far all = so_far
pass_keeps Q step keeps o (x ∷ xs) so_far all = pass_keeps Q step keeps (step o x) xs (keeps o x so_far all.0) all.1

-- if the ids are ascending, each record is found under its id
above_absent : {T : Type 0} (p : Place T) (ps : List (Place T)) → AllByRecursion (λ q. p.known.id < q.known.id) ps → AllByRecursion (λ r. record_in (records_in ps) r.id ≡ Some r) (records_in ps)
    → AllByRecursion (λ r. record_in (p.known ∷ records_in ps) r.id ≡ Some r) (records_in ps)
above_absent {T} p ps above here = along ps (records_in ps) above here
  where
    along : (qs : List (Place T)) (all : List Record) → AllByRecursion (λ q. p.known.id < q.known.id) qs → AllByRecursion (λ r. record_in all r.id ≡ Some r) (records_in qs)
        → AllByRecursion (λ r. record_in (p.known ∷ all) r.id ≡ Some r) (records_in qs)
    along [] all above here = tt
    along (q ∷ qs) all above here = (let differs : (q.known.id == p.known.id) ≡ false = grind (arith, nat_tests, above.0) in rw differs here.0, along qs all above.1 here.1)

pub each_is_found : {T : Type 0} (ps : List (Place T)) → IsAscending ps → AllByRecursion (λ r. record_in (records_in ps) r.id ≡ Some r) (records_in ps)
each_is_found [] up = tt
each_is_found (p ∷ ps) up = (let same : (p.known.id == p.known.id) ≡ true = grind (arith, nat_tests) in rw same refl, above_absent p ps up.0 (each_is_found ps up.1))

pub all_filtered : {A : Type 0} (P : A → Type 0) (p : A → Bool) (xs : List A) → AllByRecursion P xs → AllByRecursion (λ x. P x × (p x ≡ true)) (filter p xs)
all_filtered P p [] all = tt
all_filtered {A} P p (x ∷ xs) all = by_test (p x) refl (all_filtered P p xs all.1)
  where
    by_test : (b : Bool) → p x ≡ b → AllByRecursion (λ x. P x × (p x ≡ true)) (filter p xs) → AllByRecursion (λ x. P x × (p x ≡ true)) (cond b (x ∷ filter p xs) (filter p xs))
    by_test true is later = ((all.0, is), later)
    by_test false is later = later

pub for_one : {A : Type 0} (Q : A → Type 0) (x : A) → Q x → ForSome (Some x) Q
for_one Q x here y is = let e : x ≡ y = cc is in subst Q e here

pub later_keeps : {A : Type 0} (Q : A → Type 0) (key : A → ℕ) (o : Option A) (x : A) → ForSome o Q → Q x → ForSome (later key o x) Q
later_keeps Q key None x so_far here = for_one Q x here
later_keeps {A} Q key (Some b) x so_far here = by_test (ltb (key x) (key b))
  where
    by_test : (t : Bool) → ForSome (cond t (Some b) (Some x)) Q
    by_test true = so_far
    by_test false = for_one Q x here

pub earlier_keeps : {A : Type 0} (Q : A → Type 0) (key : A → ℕ) (o : Option A) (x : A) → ForSome o Q → Q x → ForSome (earlier key o x) Q
earlier_keeps Q key None x so_far here = for_one Q x here
earlier_keeps {A} Q key (Some b) x so_far here = by_test (ltb (key x) (key b))
  where
    by_test : (t : Bool) → ForSome (cond t (Some x) (Some b)) Q
    by_test true = for_one Q x here
    by_test false = so_far

is_idle_true : (p : Phase) → is_idle p ≡ true → p ≡ phases.Idle
is_idle_true phases.Idle is = refl
is_idle_true _ is = absurd (cc is)

-- the record that a pass finds among the idle ones is that of an idle object
IsFoundIdle : List Record → Record → Type 0
IsFoundIdle rs r = (record_in rs r.id ≡ Some r) × (is_idle r.phase ≡ true)

found_idle : (rs : List Record) (r : Record) → IsFoundIdle rs r → IsSomeAnd (record_in rs r.id) (λ r. r.phase ≡ phases.Idle)
unfolding IsFoundIdle
found_idle rs r is = rw is.0 (is_idle_true r.phase is.1)

pub no_one : {A : Type 0} (Q : A → Type 0) → ForSome None Q
no_one Q x is = absurd (cc is)

pub last_is_idle : {T : Type 0} (ps : List (Place T)) → IsAscending ps → (r : Record) → last_of (idle_queue (records_in ps)) ≡ Some r → IsSomeAnd (record_in (records_in ps) r.id) (λ r. r.phase ≡ phases.Idle)
unfolding IsFoundIdle
last_is_idle ps up r is =
    let idle = filter (λ (r : Record). is_idle r.phase) (records_in ps) in
    found_idle (records_in ps) r
    (pass_keeps (IsFoundIdle (records_in ps)) (later (λ r. r.parked)) (later_keeps (IsFoundIdle (records_in ps)) (λ r. r.parked)) None idle (no_one (IsFoundIdle (records_in ps)))
    (all_filtered (λ r. record_in (records_in ps) r.id ≡ Some r) (λ r. is_idle r.phase) (records_in ps) (each_is_found ps up)) r (sym (last_of-by_ascending (λ r. r.parked) idle) ∙ is))

pub first_is_idle : {T : Type 0} (ps : List (Place T)) → IsAscending ps → (r : Record) → first_of (idle_queue (records_in ps)) ≡ Some r → IsSomeAnd (record_in (records_in ps) r.id) (λ r. r.phase ≡ phases.Idle)
unfolding IsFoundIdle
first_is_idle ps up r is =
    let idle = filter (λ (r : Record). is_idle r.phase) (records_in ps) in
    found_idle (records_in ps) r
    (pass_keeps (IsFoundIdle (records_in ps)) (earlier (λ r. r.parked)) (earlier_keeps (IsFoundIdle (records_in ps)) (λ r. r.parked)) None idle (no_one (IsFoundIdle (records_in ps)))
    (all_filtered (λ r. record_in (records_in ps) r.id ≡ Some r) (λ r. is_idle r.phase) (records_in ps) (each_is_found ps up)) r (sym (first_of-by_ascending (λ r. r.parked) idle) ∙ is))

pub next_is_idle : {T : Type 0} (k : ℕ) (ps : List (Place T)) → IsAscending ps → (r : Record) → first_of (filter (is_after (Some k)) (idle_queue (records_in ps))) ≡ Some r → IsSomeAnd (record_in (records_in ps) r.id) (λ r. r.phase ≡ phases.Idle)
unfolding IsFoundIdle
next_is_idle k ps up r is =
    let idle = filter (λ (r : Record). is_idle r.phase) (records_in ps) in
    found_idle (records_in ps) r
    (pass_keeps (IsFoundIdle (records_in ps)) (earlier_after k) keeps None idle (no_one (IsFoundIdle (records_in ps)))
    (all_filtered (λ r. record_in (records_in ps) r.id ≡ Some r) (λ r. is_idle r.phase) (records_in ps) (each_is_found ps up)) r (sym (first_after-idle_queue k (records_in ps)) ∙ is))
  where
    keeps : (o : Option Record) (x : Record) → ForSome o (IsFoundIdle (records_in ps)) → IsFoundIdle (records_in ps) x → ForSome (earlier_after k o x) (IsFoundIdle (records_in ps))
    keeps o x so_far here = by_test (nat_lt k x.parked) so_far (earlier_keeps (IsFoundIdle (records_in ps)) (λ r. r.parked) o x so_far here)
      where
        by_test : (b : Bool) → ForSome o (IsFoundIdle (records_in ps)) → ForSome (earlier (λ r. r.parked) o x) (IsFoundIdle (records_in ps)) → ForSome (if b then earlier (λ r. r.parked) o x else o) (IsFoundIdle (records_in ps))
        by_test true stays comes = comes
        by_test false stays comes = stays

-- a property of each element holds of the first one
all_first : {A : Type 0} (Q : A → Type 0) (xs : List A) (x : A) → AllByRecursion Q xs → first_of xs ≡ Some x → Q x
all_first Q [] x all is = absurd (cc is)
all_first Q (y ∷ xs) x all is = let e : y ≡ x = cc is in subst Q e all.0

lent_true : (p : Phase) (b : Bool) → (is_lent p && b) ≡ true → p ≡ phases.Lent
lent_true phases.Lent b is = refl
lent_true _ b is = absurd (cc is)

-- the first abandoned object is lent, and no other has a smaller id
pub overdue_is_lent : {T : Type 0} (at timeout : ℕ) (ps : List (Place T)) → IsAscending ps → (r : Record) → first_of (overdue at timeout (records_in ps)) ≡ Some r → IsSomeAnd (record_in (records_in ps) r.id) (λ r. r.phase ≡ phases.Lent)
overdue_is_lent at timeout ps up r is =
    let both = all_first _ (overdue at timeout (records_in ps)) r (all_filtered (λ r. record_in (records_in ps) r.id ≡ Some r) (is_overdue at timeout) (records_in ps) (each_is_found ps up)) is in
    rw both.0 (lent_true r.phase _ both.1)

above_filtered : {T : Type 0} (p : Record → Bool) (n : ℕ) (ps : List (Place T)) → AllByRecursion (λ q. n < q.known.id) ps → AllByRecursion (λ r. n ≤ r.id) (filter p (records_in ps))
above_filtered p n [] all = tt
above_filtered p n (q ∷ ps) all = by_test (p q.known) (omega (arith, all.0)) (above_filtered p n ps all.1)
  where
    by_test : (b : Bool) → n ≤ q.known.id → AllByRecursion (λ r. n ≤ r.id) (filter p (records_in ps)) → AllByRecursion (λ r. n ≤ r.id) (cond b (q.known ∷ filter p (records_in ps)) (filter p (records_in ps)))
    by_test true here later = (here, later)
    by_test false here later = later

pub first_has_least_id : {T : Type 0} (p : Record → Bool) (ps : List (Place T)) → IsAscending ps → (r : Record) → first_of (filter p (records_in ps)) ≡ Some r → AllByRecursion (λ x. r.id ≤ x.id) (filter p (records_in ps))
first_has_least_id p [] up r is = tt
first_has_least_id {T} p (q ∷ ps) up r is = by_test (p q.known) is (first_has_least_id p ps up.1 r)
  where
    by_test : (b : Bool) → first_of (cond b (q.known ∷ filter p (records_in ps)) (filter p (records_in ps))) ≡ Some r → (first_of (filter p (records_in ps)) ≡ Some r → AllByRecursion (λ x. r.id ≤ x.id) (filter p (records_in ps)))
        → AllByRecursion (λ x. r.id ≤ x.id) (cond b (q.known ∷ filter p (records_in ps)) (filter p (records_in ps)))
    by_test true is later = let e : q.known ≡ r = cc is in (omega (arith, ap (λ (x : Record). x.id) e), subst (λ (x : Record). AllByRecursion (λ y. x.id ≤ y.id) (filter p (records_in ps))) e (above_filtered p q.known.id ps up.0))
    by_test false is later = later is

-- a property of the id of the record that is found holds of the id that is returned
pub named_by_id : (m : Option ℕ) (o : Option Record) (P : ℕ → Type 0) → m ≡ option_map (λ r. r.id) o → ((r : Record) → o ≡ Some r → P r.id) → IfSome m P
named_by_id m None P is has = subst (λ x. IfSome x P) (sym is) tt
named_by_id m (Some r) P is has = subst (λ x. IfSome x P) (sym is) (has r refl)

pub first_of-filter : {A : Type 0} (p : A → Bool) (xs : List A) → first_of (filter p xs) ≡ find p xs
first_of-filter p [] = refl
first_of-filter {A} p (x ∷ xs) = by_test (p x) (first_of-filter p xs)
  where
    by_test : (b : Bool) → first_of (filter p xs) ≡ find p xs → first_of (cond b (x ∷ filter p xs) (filter p xs)) ≡ cond b (Some x) (find p xs)
    by_test true later = refl
    by_test false later = later
