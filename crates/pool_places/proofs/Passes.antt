-- The result of one pass over the records.
use Rattle.std.proofs.Common.{◌≡◌, ℕ, ◌<◌, ◌≤◌, Bool, true, false, cond, if◌then◌else◌, nat_lt, List, [], ◌∷◌, Option, Some, None, refl, ap, ◌∙◌, arith, inl, inr}
use Rattle.std.specs.Prelude.{filter, fold}
use Rattle.std.proofs.lemmas.Bool.{cases_lt, lt-ltb, le-ltb}
use Rattle.std.proofs.lemmas.Bool.Decides.{nat_tests}
use Rattle.std.proofs.lemmas.List.Folds.{fold_along}
use Rattle.pool_journal.specs.Queue.{is_idle, insert_sorted, sort_by, idle_queue, first_of, earlier}
use Rattle.pool_journal.specs.declared.record.Record.{Record}
use Rattle.pool_places.specs.After.{is_after}

-- the step of a search for the first record after a position
abbrev pub earlier_after : ℕ → Option Record → Record → Option Record
earlier_after k best r = if is_after (Some k) r then earlier (λ r. r.parked) best r else best

first_after-put : {X : Type 0} (key : X → ℕ) (k : ℕ) (ys : List X) (x : X)
    → first_of (filter (λ y. nat_lt k (key y)) (insert_sorted key ys x)) ≡ (if nat_lt k (key x) then earlier key (first_of (filter (λ y. nat_lt k (key y)) ys)) x else first_of (filter (λ y. nat_lt k (key y)) ys))
first_after-put key k [] x = by_test (nat_lt k (key x))
  where
    by_test : (b : Bool) → first_of (cond b (x ∷ []) []) ≡ cond b (Some x) None
    by_test true = refl
    by_test false = refl
first_after-put {X} key k (y ∷ ys) x = elim (cases_lt (key x) (key y)) [
  | inl below ↦ rw (lt-ltb (key x) (key y) below) (before below (nat_lt k (key x)) refl)
  | inr above ↦ rw (le-ltb (key x) (key y) above) (behind above (nat_lt k (key y)) refl (first_after-put key k ys x))
]
  where
    before : key x < key y → (b : Bool) → nat_lt k (key x) ≡ b → first_of (cond b (x ∷ filter (λ z. nat_lt k (key z)) (y ∷ ys)) (filter (λ z. nat_lt k (key z)) (y ∷ ys))) ≡ cond b (earlier key (first_of (filter (λ z. nat_lt k (key z)) (y ∷ ys))) x) (first_of (filter (λ z. nat_lt k (key z)) (y ∷ ys)))
    before below true is = let later : nat_lt k (key y) ≡ true = grind (arith, nat_tests) in rw (later, lt-ltb (key x) (key y) below) refl
    before below false is = refl

    behind : key y ≤ key x → (b : Bool) → nat_lt k (key y) ≡ b
        → first_of (filter (λ z. nat_lt k (key z)) (insert_sorted key ys x)) ≡ (if nat_lt k (key x) then earlier key (first_of (filter (λ z. nat_lt k (key z)) ys)) x else first_of (filter (λ z. nat_lt k (key z)) ys))
        → first_of (cond b (y ∷ filter (λ z. nat_lt k (key z)) (insert_sorted key ys x)) (filter (λ z. nat_lt k (key z)) (insert_sorted key ys x)))
        ≡ (if nat_lt k (key x) then earlier key (first_of (cond b (y ∷ filter (λ z. nat_lt k (key z)) ys) (filter (λ z. nat_lt k (key z)) ys))) x else first_of (cond b (y ∷ filter (λ z. nat_lt k (key z)) ys) (filter (λ z. nat_lt k (key z)) ys)))
    behind above true is later = let also : nat_lt k (key x) ≡ true = grind (arith, nat_tests) in rw (also, le-ltb (key x) (key y) above) refl
    behind above false is later = later

-- the first of the queue after a position, found in one pass
pub first_after-idle_queue : (k : ℕ) (rs : List Record) → first_of (filter (is_after (Some k)) (idle_queue rs)) ≡ fold (earlier_after k) None (filter (λ r. is_idle r.phase) rs)
unfolding sort_by
first_after-idle_queue k rs =
    fold_along (insert_sorted (λ r. r.parked)) (earlier_after k) (λ (ys : List Record) (b : Option Record). first_of (filter (is_after (Some k)) ys) ≡ b)
    (λ ys b x is. first_after-put (λ r. r.parked) k ys x ∙ ap (λ (o : Option Record). earlier_after k o x) is) [] None (filter (λ r. is_idle r.phase) rs) refl
