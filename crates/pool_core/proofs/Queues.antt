-- A property of each record is one of each in the queue, and of one that is picked from it.
use Rattle.std.proofs.Common.{◌≡◌, ℕ, ltb, Bool, true, false, cond, if◌then◌else◌, List, [], ◌∷◌, length, Option, Some, None, refl}
use Rattle.std.proofs.Common.{◌∙◌, arith, subst}
use Rattle.std.specs.Prelude.{filter, fold, unwrap_or, count_by, ◌+◌}
use Rattle.std.specs.List.{AllByRecursion}
use Rattle.std.proofs.lemmas.List.Sums.{length-filter}
use Rattle.std.specs.Option.{option_map, option_or}
use Rattle.pool_journal.specs.Queue.{record_in, is_idle, idle_queue, first_of, last_of, insert_sorted, sort_by}
use Rattle.pool_journal.specs.declared.record.Record.{Record}
use Rattle.pool_places.specs.After.{is_after}
use Rattle.pool_core.specs.Reply.{examined}

-- a property of each element is one of each that passes a test
pub all_filter : {A : Type 0} (P : A → Type 0) (p : A → Bool) (xs : List A) → AllByRecursion P xs → AllByRecursion P (filter p xs)
all_filter P p [] all = tt
all_filter {A} P p (x ∷ xs) all = by_test (p x) (all_filter P p xs all.1)
  where
    by_test : (b : Bool) → AllByRecursion P (filter p xs) → AllByRecursion P (cond b (x ∷ filter p xs) (filter p xs))
    by_test true rest = (all.0, rest)
    by_test false rest = rest

all_put : {A : Type 0} (P : A → Type 0) (key : A → ℕ) (ys : List A) (x : A) → P x → AllByRecursion P ys
    → AllByRecursion P (insert_sorted key ys x)
all_put P key [] x here all = (here, tt)
all_put {A} P key (y ∷ ys) x here all = by_test (ltb (key x) (key y)) (all_put P key ys x here all.1)
  where
    by_test : (b : Bool) → AllByRecursion P (insert_sorted key ys x)
        → AllByRecursion P (if b then x ∷ y ∷ ys else y ∷ insert_sorted key ys x)
    by_test true rest = (here, all)
    by_test false rest = (all.0, rest)

all_puts : {A : Type 0} (P : A → Type 0) (key : A → ℕ) (ys xs : List A) → AllByRecursion P ys → AllByRecursion P xs
    → AllByRecursion P (fold (insert_sorted key) ys xs)
all_puts P key ys [] so_far all = so_far
all_puts P key ys (x ∷ xs) so_far all = all_puts P key (insert_sorted key ys x) xs (all_put P key ys x all.0 so_far) all.1

pub all_ascending : {A : Type 0} (P : A → Type 0) (key : A → ℕ) (xs : List A) → AllByRecursion P xs
    → AllByRecursion P (sort_by key xs)
unfolding sort_by
all_ascending P key xs all = all_puts P key [] xs tt all

pub all_idle : (P : Record → Type 0) (rs : List Record) → AllByRecursion P rs → AllByRecursion P (idle_queue rs)
all_idle P rs all = all_ascending P (λ r. r.parked) (filter (λ r. is_idle r.phase) rs) (all_filter P (λ r. is_idle r.phase) rs all)

pub first_has : {A : Type 0} (P : A → Type 0) (xs : List A) (x : A) → AllByRecursion P xs → first_of xs ≡ Some x → P x
first_has P [] x all is = absurd (cc is)
first_has P (y ∷ xs) x all is = let e : y ≡ x = cc is in subst P e all.0

pub last_has : {A : Type 0} (P : A → Type 0) (xs : List A) (x : A) → AllByRecursion P xs → last_of xs ≡ Some x → P x
last_has P [] x all is = absurd (cc is)
last_has {A} P (y ∷ xs) x all is = by_last (last_of xs) refl is (λ z found. last_has P xs z all.1 found)
  where
    by_last : (o : Option A) → last_of xs ≡ o → Some (unwrap_or o y) ≡ Some x → ((z : A) → last_of xs ≡ Some z → P z) → P x
    by_last None found is later = let e : y ≡ x = cc is in subst P e all.0
    by_last (Some z) found is later = let e : z ≡ x = cc is in subst P e (later z found)

-- the queue has as many objects as are idle
length-put : {A : Type 0} (key : A → ℕ) (ys : List A) (x : A) → length (insert_sorted key ys x) ≡ length ys + 1
length-put key [] x = refl
length-put {A} key (y ∷ ys) x = by_test (ltb (key x) (key y)) (length-put key ys x)
  where
    by_test : (b : Bool) → length (insert_sorted key ys x) ≡ length ys + 1
        → length (if b then x ∷ y ∷ ys else y ∷ insert_sorted key ys x) ≡ length (y ∷ ys) + 1
    by_test true later = omega arith
    by_test false later = omega (arith, later)

length-puts : {A : Type 0} (key : A → ℕ) (ys xs : List A) → length (fold (insert_sorted key) ys xs) ≡ length ys + length xs
length-puts key ys [] = omega arith
length-puts key ys (x ∷ xs) = omega (arith, length-puts key (insert_sorted key ys x) xs, length-put key ys x)

pub length-idle_queue : (rs : List Record) → length (idle_queue rs) ≡ count_by (λ r. is_idle r.phase) rs
unfolding sort_by
length-idle_queue rs =
    omega (arith, length-puts (λ r. r.parked) [] (filter (λ r. is_idle r.phase) rs), length-filter (λ r. is_idle r.phase) rs)

-- a property of each record is one of the examined object
pub examined_has : (P : Record → Type 0) (cursor : Option ℕ) (rs : List Record) → AllByRecursion P rs → (r : Record)
    → examined cursor rs ≡ Some r → P r
examined_has P cursor rs all r is = by_case (first_of (filter (is_after cursor) (idle_queue rs))) refl is
  where
    by_case : (o : Option Record) → first_of (filter (is_after cursor) (idle_queue rs)) ≡ o
        → option_or o (first_of (idle_queue rs)) ≡ Some r → P r
    by_case None found is = first_has P (idle_queue rs) r (all_idle P rs all) is
    by_case (Some x) found is =
        first_has P (filter (is_after cursor) (idle_queue rs)) r
        (all_filter P (is_after cursor) (idle_queue rs) (all_idle P rs all)) (found ∙ is)

-- if each record is found under its id, so is the examined one
pub examined_found : (cursor : Option ℕ) (rs : List Record) (i : ℕ) → AllByRecursion (λ r. record_in rs r.id ≡ Some r) rs
    → option_map (λ r. r.id) (examined cursor rs) ≡ Some i → record_in rs i ≡ examined cursor rs
examined_found cursor rs i all is = by_case (examined cursor rs) refl is
  where
    by_case : (o : Option Record) → examined cursor rs ≡ o → option_map (λ r. r.id) o ≡ Some i → record_in rs i ≡ o
    by_case None found is = absurd (cc is)
    by_case (Some r) found is =
        let same : r.id ≡ i = cc is in
        subst (λ (j : ℕ). record_in rs j ≡ Some r) same (examined_has (λ r. record_in rs r.id ≡ Some r) cursor rs all r found)
