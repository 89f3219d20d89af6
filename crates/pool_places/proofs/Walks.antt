-- Walks along the keys of the queue, and their results.
use Rattle.std.proofs.Common.{◌≡◌, ◌≢◌, ℕ, ◌<◌, ◌≤◌, eqb, Bool, true, false, not, ◌||◌, ◌&&◌, nat_lt, cond, if◌then◌else◌, List, [], ◌∷◌, ◌++◌, map, reverse, length, Option, Some, None, unwrap_or, refl, ap, sym, ◌∙◌, inl, inr, arith, subst}
use Rattle.std.specs.Prelude.{find, IfSome}
use Rattle.std.specs.List.{AllByRecursion}
use Rattle.std.proofs.lemmas.Bool.{le-ltb, ltb-true, ltb-false}
use Rattle.std.proofs.lemmas.Bool.Decides.{eqb_tells}
use Rattle.std.proofs.lemmas.List.{map-append, reverse-append, reverse-reverse}
use Rattle.std.proofs.lemmas.List.Folds.{list_any-append}
use Rattle.pool_journal.specs.Queue.{first_of, last_of}
use Rattle.pool_slots.specs.SlotsModel.{is_in, is_key, put_before, without, AreDistinct, IsNextIn, IsPreviousIn}
use Rattle.pool_slots.proofs.Keys.{is_in_first, is_in_later, distinct_push, in_put}
use Rattle.pool_places.specs.RepInvariant.{IsWithin}
use Rattle.pool_places.specs.Stored.{from_key}
use Rattle.pool_places.specs.QueueEntries.{QueueEntry, IsAscendingQueue, is_wanted}

-- ---- from one end to the other
reverse_cons : {A : Type 0} (x : A) (xs : List A) → reverse (x ∷ xs) ≡ reverse xs ++ x ∷ []
reverse_cons x xs = reverse-append (x ∷ []) xs

pub map_reverse : {A B : Type 0} (f : A → B) (xs : List A) → map f (reverse xs) ≡ reverse (map f xs)
map_reverse f [] = refl
map_reverse f (x ∷ xs) =
    ap (map f) (reverse_cons x xs) ∙ map-append f (reverse xs) (x ∷ []) ∙ ap (λ ys. ys ++ f x ∷ []) (map_reverse f xs) ∙ sym (reverse_cons (f x) (map f xs))

or_flips : (a b : Bool) → (a || (b || false)) ≡ (b || a)
or_flips true true = refl
or_flips true false = refl
or_flips false true = refl
or_flips false false = refl

pub in_reverse : (key : ℕ) (keys : List ℕ) → is_in key (reverse keys) ≡ is_in key keys
in_reverse key [] = refl
in_reverse key (x ∷ xs) =
    ap (is_in key) (reverse_cons x xs) ∙ list_any-append (eqb key) (reverse xs) (x ∷ []) ∙ ap (λ b. b || (eqb key x || false)) (in_reverse key xs) ∙ or_flips (is_in key xs) (eqb key x)

pub distinct_reverse : (keys : List ℕ) → AreDistinct keys → AreDistinct (reverse keys)
distinct_reverse [] distinct = tt
distinct_reverse (x ∷ xs) distinct =
    subst AreDistinct (sym (reverse_cons x xs)) (distinct_push x (reverse xs) (in_reverse x xs ∙ distinct.0) (distinct_reverse xs distinct.1))

last_push : (xs : List ℕ) (x : ℕ) → last_of (xs ++ x ∷ []) ≡ Some x
last_push [] x = refl
last_push (y ∷ xs) x = ap (λ o. Some (unwrap_or o y)) (last_push xs x)

last_reverse : (xs : List ℕ) → last_of (reverse xs) ≡ first_of xs
last_reverse [] = refl
last_reverse (x ∷ xs) = ap last_of (reverse_cons x xs) ∙ last_push (reverse xs) x

pub last_is_first : (xs : List ℕ) → last_of xs ≡ first_of (reverse xs)
last_is_first xs = ap last_of (sym (reverse-reverse xs)) ∙ last_reverse (reverse xs)

append_one : {A : Type 0} (xs : List A) (x : A) (ys : List A) → (xs ++ x ∷ []) ++ ys ≡ xs ++ x ∷ ys
append_one [] x ys = refl
append_one (z ∷ xs) x ys = ap (λ zs. z ∷ zs) (append_one xs x ys)

-- the key before is the next one on the way back
pub previous_is_next : (keys : List ℕ) (key : ℕ) (p : Option ℕ) → IsPreviousIn keys key p → IsNextIn (reverse keys) key p
previous_is_next keys key p is front back split =
    let turned : keys ≡ reverse back ++ key ∷ reverse front = sym (reverse-reverse keys) ∙ ap reverse split ∙ reverse-append front (key ∷ back) ∙ ap (λ xs. xs ++ reverse front) (reverse_cons key back) ∙ append_one (reverse back) key (reverse front) in
    is (reverse back) (reverse front) turned ∙ last_reverse back

-- ---- one step
apart_of : (n x : ℕ) (xs : List ℕ) → is_in n xs ≡ true → is_in x xs ≡ false → eqb n x ≡ false
apart_of n x xs there out =
    elim (eqb_tells n x) [
      | inl same ↦ absurd (cc (there, out, ap (λ k. is_in k xs) same.1))
      | inr differs ↦ differs.0
    ]

pass : (x : ℕ) (xs : List ℕ) (o : Option ℕ) → is_in x xs ≡ false → IsWithin xs o → from_key o (x ∷ xs) ≡ from_key o xs
pass x xs None out there = refl
pass x xs (Some n) out there = (let apart = apart_of n x xs there out in rw apart refl)

pub first_within : (keys : List ℕ) → IsWithin keys (first_of keys)
first_within [] = tt
first_within (x ∷ xs) = is_in_first x xs

pub from_first : (keys : List ℕ) → from_key (first_of keys) keys ≡ keys
from_first [] = refl
from_first (x ∷ xs) =
    elim (eqb_tells x x) [ inl same ↦ rw same.0 refl | inr differs ↦ absurd (differs.1 refl) ]

within_later : (x : ℕ) (xs : List ℕ) (o : Option ℕ) → IsWithin xs o → IsWithin (x ∷ xs) o
within_later x xs None there = tt
within_later x xs (Some n) there = is_in_later n x xs there

-- the keys from a key on are the key and the keys from the next one on
pub record IsStep (keys : List ℕ) (key : ℕ) (next : Option ℕ) : Type 0 where
  pub rest : from_key (Some key) keys ≡ key ∷ from_key next keys
  pub within : IsWithin keys next

pub step : (keys : List ℕ) (key : ℕ) (next : Option ℕ) → AreDistinct keys → is_in key keys ≡ true → IsNextIn keys key next → IsStep keys key next
step [] key next distinct found is = absurd (cc found)
step (x ∷ xs) key next distinct found is =
    elim (eqb_tells key x) [
      | inl same ↦
          let first : next ≡ first_of xs = is [] xs (ap (λ k. k ∷ xs) (sym same.1)) in
          let rest : from_key next (x ∷ xs) ≡ xs = ap (λ o. from_key o (x ∷ xs)) first ∙ pass x xs (first_of xs) distinct.0 (first_within xs) ∙ from_first xs in
          record {
            rest = rw (same.0, rest) (ap (λ k. k ∷ xs) (sym same.1));
            within = subst (IsWithin (x ∷ xs)) (sym first) (within_later x xs (first_of xs) (first_within xs));
          }
      | inr differs ↦
          let later = step xs key next distinct.1 (rw differs.0 at found) (λ front back split. is (x ∷ front) back (ap (λ ys. x ∷ ys) split)) in
          record {
            rest = rw (differs.0, pass x xs next distinct.0 later.within) later.rest;
            within = within_later x xs next later.within;
          }
    ]

pub fewer : (keys : List ℕ) (key : ℕ) (next : Option ℕ) → IsStep keys key next → length (from_key next keys) < length (from_key (Some key) keys)
fewer keys key next is = omega (arith, ap length is.rest)

-- ---- the result of a walk
pub found_here : (e : ℕ → QueueEntry) (test : QueueEntry → Bool) (keys : List ℕ) (key : ℕ) → is_in key keys ≡ true → test (e key) ≡ true → find test (map e (from_key (Some key) keys)) ≡ Some (e key)
found_here e test [] key there passes = absurd (cc there)
found_here e test (x ∷ xs) key there passes =
    elim (eqb_tells key x) [
      | inl same ↦ (let here : test (e x) ≡ true = ap (λ k. test (e k)) (sym same.1) ∙ passes in rw (same.0, here) (ap (λ k. Some (e k)) (sym same.1)))
      | inr differs ↦ rw differs.0 (found_here e test xs key (rw differs.0 at there) passes)
    ]

pub found_later : (e : ℕ → QueueEntry) (test : QueueEntry → Bool) (keys : List ℕ) (key : ℕ) (next : Option ℕ) → IsStep keys key next → test (e key) ≡ false → find test (map e (from_key (Some key) keys)) ≡ find test (map e (from_key next keys))
found_later e test keys key next is fails = ap (λ xs. find test (map e xs)) is.rest ∙ ap (λ b. cond b (Some (e key)) (find test (map e (from_key next keys)))) fails

-- ---- the keys before a key
abbrev before_key : ℕ → List ℕ → List ℕ
before_key key [] = []
before_key key (x ∷ xs) = if eqb key x then [] else x ∷ before_key key xs

abbrev after_key : ℕ → List ℕ → List ℕ
after_key key [] = []
after_key key (x ∷ xs) = if eqb key x then xs else after_key key xs

splits : (key : ℕ) (keys : List ℕ) → keys ≡ before_key key keys ++ from_key (Some key) keys
splits key [] = refl
splits key (x ∷ xs) = by_test (eqb key x) (splits key xs)
  where
    by_test : (b : Bool) → xs ≡ before_key key xs ++ from_key (Some key) xs → x ∷ xs ≡ (if b then [] else x ∷ before_key key xs) ++ (if b then x ∷ xs else from_key (Some key) xs)
    by_test true later = refl
    by_test false later = ap (λ ys. x ∷ ys) later

heads : (key : ℕ) (keys : List ℕ) → is_in key keys ≡ true → from_key (Some key) keys ≡ key ∷ after_key key keys
heads key [] there = absurd (cc there)
heads key (x ∷ xs) there =
    elim (eqb_tells key x) [
      | inl same ↦ rw same.0 (ap (λ k. k ∷ xs) (sym same.1))
      | inr differs ↦ rw differs.0 (heads key xs (rw differs.0 at there))
    ]

-- the one before is the last of those before
previous_is_last : (keys : List ℕ) (key : ℕ) (p : Option ℕ) → is_in key keys ≡ true → IsPreviousIn keys key p → p ≡ last_of (before_key key keys)
previous_is_last keys key p there is = is (before_key key keys) (after_key key keys) (splits key keys ∙ ap (λ xs. before_key key keys ++ xs) (heads key keys there))

all_below : (e : ℕ → QueueEntry) (n : ℕ) (front rest : List ℕ) → IsAscendingQueue (map e (front ++ rest)) → IfSome (last_of front) (λ k. (e k).parked ≤ n) → AllByRecursion (λ k. (e k).parked ≤ n) front
all_below e n [] rest up last = tt
all_below e n (x ∷ []) rest up last = (last, tt)
all_below e n (x ∷ y ∷ ys) rest up last = let later = all_below e n (y ∷ ys) rest up.1 last in (omega (arith, up.0.0, later.0), later)

and_false : (a b : Bool) → b ≡ false → (a && b) ≡ false
and_false true b is = is
and_false false b is = refl

none_after : (e : ℕ → QueueEntry) (n : ℕ) (front rest : List ℕ) → AllByRecursion (λ k. (e k).parked ≤ n) front → find (is_wanted (Some n)) (map e (front ++ rest)) ≡ find (is_wanted (Some n)) (map e rest)
none_after e n [] rest all = refl
none_after e n (x ∷ xs) rest all =
    let fails : is_wanted (Some n) (e x) ≡ false = and_false (e x).is_idle (nat_lt n (e x).parked) (le-ltb n (e x).parked all.0) in
    ap (λ b. cond b (Some (e x)) (find (is_wanted (Some n)) (map e (xs ++ rest)))) fails ∙ none_after e n xs rest all.1

-- if the one before was parked at the position or before it, nothing is missed
pub start_here : (e : ℕ → QueueEntry) (n : ℕ) (keys : List ℕ) (key : ℕ) (p : Option ℕ) → IsAscendingQueue (map e keys) → is_in key keys ≡ true → IsPreviousIn keys key p → IfSome p (λ k. (e k).parked ≤ n) → find (is_wanted (Some n)) (map e keys) ≡ find (is_wanted (Some n)) (map e (from_key (Some key) keys))
start_here e n keys key p up there is before =
    let below = all_below e n (before_key key keys) (from_key (Some key) keys) (subst (λ xs. IsAscendingQueue (map e xs)) (splits key keys) up) (subst (λ o. IfSome o (λ k. (e k).parked ≤ n)) (previous_is_last keys key p there is) before) in
    ap (λ xs. find (is_wanted (Some n)) (map e xs)) (splits key keys) ∙ none_after e n (before_key key keys) (from_key (Some key) keys) below

-- ---- a key that leaves
last_stays : (key : ℕ) (keys : List ℕ) → IsWithin (without key keys) (last_of (before_key key keys))
last_stays key [] = tt
last_stays key (x ∷ xs) = by_test (eqb key x) (last_stays key xs)
  where
    last_of_two : (o : Option ℕ) → IsWithin (without key xs) o → IsWithin (x ∷ without key xs) (Some (unwrap_or o x))
    last_of_two None there = is_in_first x (without key xs)
    last_of_two (Some n) there = is_in_later n x (without key xs) there

    by_test : (b : Bool) → IsWithin (without key xs) (last_of (before_key key xs)) → IsWithin (cond (not b) (x ∷ without key xs) (without key xs)) (last_of (if b then [] else x ∷ before_key key xs))
    by_test true later = tt
    by_test false later = last_of_two (last_of (before_key key xs)) later

-- the one before it stays in the queue
pub previous_stays : (keys : List ℕ) (key : ℕ) (p : Option ℕ) → is_in key keys ≡ true → IsPreviousIn keys key p → IsWithin (without key keys) p
previous_stays keys key p there is = subst (IsWithin (without key keys)) (sym (previous_is_last keys key p there is)) (last_stays key keys)

-- so do the others
pub other_stays : (other key : ℕ) (keys : List ℕ) → other ≢ key → is_in other (without key keys) ≡ is_in other keys
other_stays other key [] apart = refl
other_stays other key (x ∷ xs) apart =
    elim (eqb_tells key x) [
      | inl same ↦
          elim (eqb_tells other x) [
            | inl too ↦ absurd (apart (too.1 ∙ sym same.1))
            | inr differs ↦ rw (same.0, differs.0) (other_stays other key xs apart)
          ]
      | inr differs ↦ rw differs.0 (ap (λ b. eqb other x || b) (other_stays other key xs apart))
    ]

pub key_is_gone : (key : ℕ) (keys : List ℕ) → is_in key (without key keys) ≡ false
key_is_gone key [] = refl
key_is_gone key (x ∷ xs) =
    elim (eqb_tells key x) [
      | inl same ↦ rw same.0 (key_is_gone key xs)
      | inr differs ↦ rw (differs.0, differs.0) (key_is_gone key xs)
    ]

-- ---- a key that enters at the end
pub in_pushed : (key : ℕ) (keys : List ℕ) → is_in key (keys ++ key ∷ []) ≡ true
in_pushed key [] = is_in_first key []
in_pushed key (x ∷ xs) = is_in_later key x (xs ++ key ∷ []) (in_pushed key xs)

pub in_push_other : (other key : ℕ) (keys : List ℕ) → other ≢ key → is_in other (keys ++ key ∷ []) ≡ is_in other keys
in_push_other other key [] apart =
    elim (eqb_tells other key) [ inl same ↦ absurd (apart same.1) | inr differs ↦ rw differs.0 refl ]
in_push_other other key (x ∷ xs) apart = ap (λ b. eqb other x || b) (in_push_other other key xs apart)

-- ---- the last one
pub within_reverse : (keys : List ℕ) (o : Option ℕ) → IsWithin (reverse keys) o → IsWithin keys o
within_reverse keys None there = tt
within_reverse keys (Some key) there = sym (in_reverse key keys) ∙ there

pub last_within : (keys : List ℕ) → IsWithin keys (last_of keys)
last_within keys = within_reverse keys (last_of keys) (subst (IsWithin (reverse keys)) (sym (last_is_first keys)) (first_within (reverse keys)))

pub none_first : (keys : List ℕ) → first_of keys ≡ None → keys ≡ []
none_first [] is = refl
none_first (x ∷ xs) is = absurd (cc is)

in_push_left : (other key : ℕ) (keys : List ℕ) → is_in other keys ≡ true → is_in other (keys ++ key ∷ []) ≡ true
in_push_left other key keys there =
    elim (eqb_tells other key) [
      | inl same ↦ ap (λ k. is_in k (keys ++ key ∷ [])) same.1 ∙ in_pushed key keys
      | inr differs ↦ in_push_other other key keys differs.1 ∙ there
    ]

pub within_push : (key : ℕ) (keys : List ℕ) (o : Option ℕ) → IsWithin keys o → IsWithin (keys ++ key ∷ []) o
within_push key keys None there = tt
within_push key keys (Some other) there = in_push_left other key keys there

-- ---- the first key whose object was parked after a position
pub found_in : (test : ℕ → Bool) (keys : List ℕ) → IsWithin keys (find test keys)
found_in test [] = tt
found_in test (x ∷ xs) = by_test (test x) (found_in test xs)
  where
    by_test : (b : Bool) → IsWithin xs (find test xs) → IsWithin (x ∷ xs) (cond b (Some x) (find test xs))
    by_test true later = is_in_first x xs
    by_test false later = within_later x xs (find test xs) later

pub key_here : (test : ℕ → Bool) (keys : List ℕ) (key : ℕ) → is_in key keys ≡ true → test key ≡ true → find test (from_key (Some key) keys) ≡ Some key
key_here test keys key there passes = ap (find test) (heads key keys there) ∙ ap (λ b. cond b (Some key) (find test (after_key key keys))) passes

pub key_later : (test : ℕ → Bool) (keys : List ℕ) (key : ℕ) (next : Option ℕ) → IsStep keys key next → test key ≡ false → find test (from_key (Some key) keys) ≡ find test (from_key next keys)
key_later test keys key next is fails = ap (find test) is.rest ∙ ap (λ b. cond b (Some key) (find test (from_key next keys))) fails

none_parked : (e : ℕ → QueueEntry) (n : ℕ) (front rest : List ℕ) → AllByRecursion (λ k. (e k).parked ≤ n) front → find (λ k. nat_lt n (e k).parked) (front ++ rest) ≡ find (λ k. nat_lt n (e k).parked) rest
none_parked e n [] rest all = refl
none_parked e n (x ∷ xs) rest all =
    ap (λ b. cond b (Some x) (find (λ k. nat_lt n (e k).parked) (xs ++ rest))) (le-ltb n (e x).parked all.0) ∙ none_parked e n xs rest all.1

-- if the one before was parked at the position or before it, none is missed
pub start_parked : (e : ℕ → QueueEntry) (n : ℕ) (keys : List ℕ) (key : ℕ) (p : Option ℕ) → IsAscendingQueue (map e keys) → is_in key keys ≡ true → IsPreviousIn keys key p → IfSome p (λ k. (e k).parked ≤ n) → find (λ k. nat_lt n (e k).parked) keys ≡ find (λ k. nat_lt n (e k).parked) (from_key (Some key) keys)
start_parked e n keys key p up there is before =
    let below = all_below e n (before_key key keys) (from_key (Some key) keys) (subst (λ xs. IsAscendingQueue (map e xs)) (splits key keys) up) (subst (λ o. IfSome o (λ k. (e k).parked ≤ n)) (previous_is_last keys key p there is) before) in
    ap (find (λ k. nat_lt n (e k).parked)) (splits key keys) ∙ none_parked e n (before_key key keys) (from_key (Some key) keys) below

-- ---- a key that enters in the order of the positions
pub in_put_other : (other key : ℕ) (next : Option ℕ) (keys : List ℕ) → other ≢ key → is_in other (put_before next key keys) ≡ is_in other keys
in_put_other other key next keys apart =
    elim (eqb_tells other key) [
      | inl same ↦ absurd (apart same.1)
      | inr differs ↦ in_put other key next keys ∙ ap (λ b. b || is_in other keys) differs.0
    ]

pub in_put_here : (key : ℕ) (next : Option ℕ) (keys : List ℕ) → is_in key (put_before next key keys) ≡ true
in_put_here key next keys =
    elim (eqb_tells key key) [
      | inl same ↦ in_put key key next keys ∙ ap (λ b. b || is_in key keys) same.0
      | inr differs ↦ absurd (differs.1 refl)
    ]

above_put : (e : ℕ → QueueEntry) (n key : ℕ) (next : Option ℕ) (keys : List ℕ) → n < (e key).parked → AllByRecursion (λ q. n < q.parked) (map e keys) → AllByRecursion (λ q. n < q.parked) (map e (put_before next key keys))
above_put e n key next [] here above = (here, tt)
above_put e n key next (x ∷ xs) here above = by_test (is_key next x) (above_put e n key next xs here above.1)
  where
    by_test : (b : Bool) → AllByRecursion (λ q. n < q.parked) (map e (put_before next key xs)) → AllByRecursion (λ q. n < q.parked) (map e (if b then key ∷ x ∷ xs else x ∷ put_before next key xs))
    by_test true later = (here, above)
    by_test false later = (above.0, later)

above_more : (e : ℕ → QueueEntry) (m n : ℕ) (keys : List ℕ) → m < n → AllByRecursion (λ q. n < q.parked) (map e keys) → AllByRecursion (λ q. m < q.parked) (map e keys)
above_more e m n [] less above = tt
above_more e m n (x ∷ xs) less above = (omega (arith, less, above.0), above_more e m n xs less above.1)

not_first : (x : ℕ) (xs : List ℕ) (o : Option ℕ) → is_in x xs ≡ false → IsWithin xs o → is_key o x ≡ false
not_first x xs None out there = refl
not_first x xs (Some n) out there = apart_of n x xs there out

pub ascends_put : (e : ℕ → QueueEntry) (key : ℕ) (keys : List ℕ) → AreDistinct keys → IsAscendingQueue (map e keys) → AllByRecursion (λ q. q.parked ≢ (e key).parked) (map e keys) → IsAscendingQueue (map e (put_before (find (λ k. nat_lt (e key).parked (e k).parked) keys) key keys))
ascends_put e key [] distinct up free = (tt, tt)
ascends_put e key (x ∷ xs) distinct up free = by_test (nat_lt (e key).parked (e x).parked) refl (ascends_put e key xs distinct.1 up.1 free.1)
  where
    later : Option ℕ
    later = find (λ k. nat_lt (e key).parked (e k).parked) xs

    by_test : (b : Bool) → nat_lt (e key).parked (e x).parked ≡ b → IsAscendingQueue (map e (put_before later key xs)) → IsAscendingQueue (map e (put_before (cond b (Some x) later) key (x ∷ xs)))
    by_test true is rest =
        let less = ltb-true (e key).parked (e x).parked is in
        elim (eqb_tells x x) [
          | inl same ↦ rw same.0 ((less, above_more e (e key).parked (e x).parked xs less up.0), up)
          | inr differs ↦ absurd (differs.1 refl)
        ]
    by_test false is rest =
        let most = ltb-false (e key).parked (e x).parked is in
        let other = free.0 in
        let less : (e x).parked < (e key).parked = omega (arith, most, other) in
        rw (not_first x xs later distinct.0 (found_in (λ k. nat_lt (e key).parked (e k).parked) xs)) (above_put e (e x).parked key later xs less up.0, rest)
