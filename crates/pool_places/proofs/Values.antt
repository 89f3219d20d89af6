-- The value that is stored under an id after a change.
use Rattle.std.proofs.Common.{◌≡◌, ◌≢◌, ℕ, ◌<◌, ◌==◌, eqb, Bool, true, false, not, cond, if◌then◌else◌, List, [], ◌∷◌, ◌++◌, Some, None, refl, ap, sym, ◌∙◌, arith}
use Rattle.std.specs.List.{AllByRecursion}
use Rattle.std.specs.Option.{option_map, option_and_then}
use Rattle.std.proofs.lemmas.Bool.Decides.{nat_tests}
use Rattle.pool_journal.specs.Queue.{later}
use Rattle.pool_places.specs.declared.place.Place.{Place}
use Rattle.pool_places.specs.PlacesModel.{place_in, value_in, changed, without}

eqb_of : (i j : ℕ) → eqb i j ≡ true → i ≡ j
eqb_of i j test = grind (arith, nat_tests)

-- a change of i leaves the others
pub place_changed_other : {T : Type 0} (i : ℕ) (f : Place T → Place T) (ps : List (Place T)) (j : ℕ) → ((p : Place T) → (f p).known.id ≡ p.known.id) → j ≢ i → place_in (changed i f ps) j ≡ place_in ps j
place_changed_other i f [] j same other = refl
place_changed_other {T} i f (p ∷ ps) j same other = by_test (i == p.known.id) refl (j == p.known.id) refl (place_changed_other i f ps j same other)
  where
    by_test : (b : Bool) → (i == p.known.id) ≡ b → (t : Bool) → (j == p.known.id) ≡ t → place_in (changed i f ps) j ≡ place_in ps j
        → place_in ((if b then f p else p) ∷ changed i f ps) j ≡ place_in (p ∷ ps) j
    by_test true is true is' later = absurd (other (eqb_of j p.known.id is' ∙ sym (eqb_of i p.known.id is)))
    by_test true is false is' later = rw (same p, is') later
    by_test false is true is' later = rw is' refl
    by_test false is false is' later = rw is' later

pub place_changed_here : {T : Type 0} (i : ℕ) (f : Place T → Place T) (ps : List (Place T)) → ((p : Place T) → (f p).known.id ≡ p.known.id) → place_in (changed i f ps) i ≡ option_map f (place_in ps i)
place_changed_here i f [] same = refl
place_changed_here {T} i f (p ∷ ps) same = by_test (i == p.known.id) refl (place_changed_here i f ps same)
  where
    by_test : (b : Bool) → (i == p.known.id) ≡ b → place_in (changed i f ps) i ≡ option_map f (place_in ps i)
        → place_in ((if b then f p else p) ∷ changed i f ps) i ≡ option_map f (place_in (p ∷ ps) i)
    by_test true is later =
        ap (λ (t : Bool). cond t (Some (f p)) (place_in (changed i f ps) i)) (ap (λ (n : ℕ). i == n) (same p) ∙ is)
        ∙ sym (ap (λ (t : Bool). option_map f (cond t (Some p) (place_in ps i))) is)
    by_test false is later = rw is later

-- a change that keeps the value keeps all values
pub value_changed_kept : {T : Type 0} (i : ℕ) (f : Place T → Place T) (ps : List (Place T)) (j : ℕ) → ((p : Place T) → (f p).known.id ≡ p.known.id) → ((p : Place T) → (f p).value ≡ p.value)
    → value_in (changed i f ps) j ≡ value_in ps j
value_changed_kept i f [] j same kept = refl
value_changed_kept {T} i f (p ∷ ps) j same kept = by_test (i == p.known.id) refl (j == p.known.id) refl (value_changed_kept i f ps j same kept)
  where
    by_test : (b : Bool) → (i == p.known.id) ≡ b → (t : Bool) → (j == p.known.id) ≡ t → value_in (changed i f ps) j ≡ value_in ps j
        → value_in ((if b then f p else p) ∷ changed i f ps) j ≡ value_in (p ∷ ps) j
    by_test true is true is' later = rw (same p, is') (kept p)
    by_test true is false is' later = rw (same p, is') later
    by_test false is true is' later = rw is' refl
    by_test false is false is' later = rw is' later

pub value_changed_other : {T : Type 0} (i : ℕ) (f : Place T → Place T) (ps : List (Place T)) (j : ℕ) → ((p : Place T) → (f p).known.id ≡ p.known.id) → j ≢ i → value_in (changed i f ps) j ≡ value_in ps j
value_changed_other i f ps j same other = ap (option_and_then (λ p. p.value)) (place_changed_other i f ps j same other)

pub value_push : {T : Type 0} (ps : List (Place T)) (p : Place T) (j : ℕ) → p.value ≡ None → value_in (ps ++ p ∷ []) j ≡ value_in ps j
value_push {T} [] p j empty = by_test (j == p.known.id)
  where
    by_test : (b : Bool) → option_and_then (λ p. p.value) (cond b (Some p) None) ≡ None
    by_test true = empty
    by_test false = refl
value_push {T} (q ∷ ps) p j empty = by_test (j == q.known.id) (value_push ps p j empty)
  where
    by_test : (b : Bool) → value_in (ps ++ p ∷ []) j ≡ value_in ps j → option_and_then (λ p. p.value) (cond b (Some q) (place_in (ps ++ p ∷ []) j)) ≡ option_and_then (λ p. p.value) (cond b (Some q) (place_in ps j))
    by_test true later = refl
    by_test false later = later

pub place_without_other : {T : Type 0} (i : ℕ) (ps : List (Place T)) (j : ℕ) → j ≢ i → place_in (without i ps) j ≡ place_in ps j
place_without_other i [] j other = refl
place_without_other {T} i (p ∷ ps) j other = by_test (i == p.known.id) refl (j == p.known.id) refl (place_without_other i ps j other)
  where
    by_test : (b : Bool) → (i == p.known.id) ≡ b → (t : Bool) → (j == p.known.id) ≡ t → place_in (without i ps) j ≡ place_in ps j
        → place_in (cond (not b) (p ∷ without i ps) (without i ps)) j ≡ place_in (p ∷ ps) j
    by_test true is true is' later = absurd (other (eqb_of j p.known.id is' ∙ sym (eqb_of i p.known.id is)))
    by_test true is false is' later = rw is' later
    by_test false is true is' later = rw is' refl
    by_test false is false is' later = rw is' later

pub place_without_here : {T : Type 0} (i : ℕ) (ps : List (Place T)) → place_in (without i ps) i ≡ None
place_without_here i [] = refl
place_without_here {T} i (p ∷ ps) = by_test (i == p.known.id) refl (place_without_here i ps)
  where
    by_test : (b : Bool) → (i == p.known.id) ≡ b → place_in (without i ps) i ≡ None → place_in (cond (not b) (p ∷ without i ps) (without i ps)) i ≡ None
    by_test true is later = later
    by_test false is later = rw is later

-- a removal of an object without a value keeps all values
pub value_without : {T : Type 0} (i : ℕ) (ps : List (Place T)) (j : ℕ) → value_in ps i ≡ None → value_in (without i ps) j ≡ value_in ps j
value_without {T} i ps j empty = by_test (j == i) refl
  where
    by_test : (b : Bool) → (j == i) ≡ b → value_in (without i ps) j ≡ value_in ps j
    by_test true is =
        let same : j ≡ i = eqb_of j i is in
        ap (value_in (without i ps)) same ∙ ap (option_and_then (λ p. p.value)) (place_without_here i ps) ∙ sym empty ∙ ap (value_in ps) (sym same)
    by_test false is = ap (option_and_then (λ p. p.value)) (place_without_other i ps j (λ same. grind (arith, nat_tests)))

-- an object that is added is found under its id
pub value_push_here : {T : Type 0} (ps : List (Place T)) (p : Place T) → AllByRecursion (λ q. q.known.id < p.known.id) ps → value_in (ps ++ p ∷ []) p.known.id ≡ p.value
value_push_here [] p above = (let same : (p.known.id == p.known.id) ≡ true = grind (arith, nat_tests) in rw same refl)
value_push_here (q ∷ ps) p above = (let apart : (p.known.id == q.known.id) ≡ false = grind (arith, nat_tests, above.0) in rw apart (value_push_here ps p above.1))

pub value_push_other : {T : Type 0} (ps : List (Place T)) (p : Place T) (j : ℕ) → j ≢ p.known.id → value_in (ps ++ p ∷ []) j ≡ value_in ps j
value_push_other [] p j other = (let apart : (j == p.known.id) ≡ false = grind (arith, nat_tests, other) in rw apart refl)
value_push_other {T} (q ∷ ps) p j other = by_test (j == q.known.id) (value_push_other ps p j other)
  where
    by_test : (b : Bool) → value_in (ps ++ p ∷ []) j ≡ value_in ps j → option_and_then (λ p. p.value) (cond b (Some q) (place_in (ps ++ p ∷ []) j)) ≡ option_and_then (λ p. p.value) (cond b (Some q) (place_in ps j))
    by_test true later = refl
    by_test false later = later
