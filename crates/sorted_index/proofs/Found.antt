-- The result of a binary search among stored pairs, and what follows for the present ones.
use Rattle.std.proofs.Common.{◌≡◌, ◌≢◌, ℕ, zero, suc, ◌<◌, ◌≤◌, eqb, Bool, true, false, not, ◌||◌, cond, List, [], ◌∷◌, length, get_or, Option, Some, None, Result, Ok, Err, IfSome, IfNone, refl, ap, sym, ◌∙◌, inl, inr, arith, subst}
use Rattle.std.specs.Prelude.{filter, find, is_some}
use Rattle.std.specs.List.{AllByRecursion}
use Rattle.std.specs.Option.{option_map}
use Rattle.std.specs.List.Sorted.{IsSearchInRange, IsBinarySearchResult, IsNonDecreasingBy}
use Rattle.std.specs.Ordering.{nat_cmp, ordering_index}
use Rattle.std.specs.Result.{result_ok}
use Rattle.std.proofs.lemmas.Cmp.{ranked}
use Rattle.std.proofs.lemmas.Bool.{cases_lt}
use Rattle.std.proofs.lemmas.Bool.Decides.{nat_tests}
use Rattle.std.proofs.lemmas.List.Elements.{All-head, All-tail}
use Rattle.sorted_index.specs.declared.pair.Pair.{Pair}
use Rattle.sorted_index.specs.declared.stored.Stored.{Stored}
use Rattle.sorted_index.specs.Pairs.{key_of, has_id, IsAscending}
use Rattle.sorted_index.specs.Marks.{all_in, pairs_in, is_there, IsStoredAt, IsThereAt, IsNowhere}
use Rattle.sorted_index.proofs.There.{all_there}

pub other_is : (i j : ℕ) → i ≢ j → eqb i j ≡ false
other_is i j other = grind (arith, nat_tests)

pub same_is : (i j : ℕ) → i ≡ j → eqb i j ≡ true
same_is i j same = grind (arith, nat_tests)

-- the id at a later position is greater
pub id_above : (n k : ℕ) (d : Stored) (ss : List Stored) → AllByRecursion (λ q. n < q.id) (all_in ss) → k < length ss → n < (get_or ss k d).pair.id
id_above n k d [] all lt = absurd (omega arith)
id_above n zero d (s ∷ ss) all lt = all.0
id_above n (suc k) d (s ∷ ss) all lt = id_above n k d ss all.1 (omega arith)

ids_ascending : (j k : ℕ) (d : Stored) (ss : List Stored) → IsAscending (all_in ss) → j ≤ k → k < length ss → (get_or ss j d).pair.id ≤ (get_or ss k d).pair.id
ids_ascending j k d [] up le lt = absurd (omega arith)
ids_ascending zero zero d (s ∷ ss) up le lt = omega arith
ids_ascending (suc j) zero d (s ∷ ss) up le lt = absurd (omega arith)
ids_ascending zero (suc k) d (s ∷ ss) up le lt = omega (arith, id_above s.pair.id k d ss up.0 (omega arith))
ids_ascending (suc j) (suc k) d (s ∷ ss) up le lt = ids_ascending j k d ss up.1 (omega arith) (omega arith)

-- the comparisons with i are ascending along the list, as a binary search requires
comparisons_ascending : (i : ℕ) (ss : List Stored) → IsAscending (all_in ss) → IsNonDecreasingBy (λ s. ordering_index (nat_cmp s.pair.id i)) ss
comparisons_ascending i ss up = λ j k d le lt. let ids = ids_ascending j k d ss up le lt in grind (arith, nat_tests)

pub found_stored : (i : ℕ) (ss : List Stored) (r : Result ℕ ℕ) → IsSearchInRange r (length ss) → IsBinarySearchResult (λ s. nat_cmp s.pair.id i) ss r → IfSome (result_ok r) (IsStoredAt ss i)
found_stored i ss (Ok k) in_range equal = record { in_range = in_range; has_id = λ d. ranked _ i _ (sym (equal d)) }
found_stored i ss (Err k) in_range parted = tt

apart : (j k a i : ℕ) → (j < k → a < i) → (k ≤ j → i < a) → a ≢ i
apart j k a i before after same = elim (cases_lt j k) [ inl h ↦ omega (arith, before h, same) | inr h ↦ omega (arith, after h, same) ]

pub found_nowhere : (i : ℕ) (ss : List Stored) (r : Result ℕ ℕ) → IsAscending (all_in ss) → IsBinarySearchResult (λ s. nat_cmp s.pair.id i) ss r → IfNone (result_ok r) (IsNowhere ss i)
found_nowhere i ss (Ok k) up equal = tt
found_nowhere i ss (Err k) up parted = λ j d lt same.
    let before : j < k → (get_or ss j d).pair.id < i = λ below. ranked _ i _ (sym ((parted (comparisons_ascending i ss up)).0 j d (omega arith) below)) in
    let after : k ≤ j → i < (get_or ss j d).pair.id = λ above. ranked _ i _ (sym ((parted (comparisons_ascending i ss up)).1 j d above lt)) in
    apart j k (get_or ss j d).pair.id i before after same

key_other : (i : ℕ) (ps : List Pair) → AllByRecursion (λ q. q.id ≢ i) ps → key_of ps i ≡ None
key_other i [] all = refl
key_other i (p ∷ ps) all = rw (other_is i p.id (λ same. all.0 (sym same))) (key_other i ps all.1)

pub key_above : (i : ℕ) (ps : List Pair) → AllByRecursion (λ q. i < q.id) ps → key_of ps i ≡ None
key_above i [] all = refl
key_above i (p ∷ ps) all = rw (other_is i p.id (λ same. omega (arith, all.0))) (key_above i ps all.1)

nowhere_all : (i : ℕ) (ss : List Stored) → IsNowhere ss i → AllByRecursion (λ q. q.id ≢ i) (all_in ss)
nowhere_all i [] none = tt
nowhere_all i (s ∷ ss) none = (All-head (λ (t : Stored). t.pair.id ≢ i) s ss none, nowhere_all i ss (All-tail (λ (t : Stored). t.pair.id ≢ i) s ss none))

pub key_nowhere : (i : ℕ) (ss : List Stored) → IsNowhere ss i → key_of (pairs_in ss) i ≡ None
key_nowhere i ss none = key_other i (pairs_in ss) (all_there (λ q. q.id ≢ i) ss (nowhere_all i ss none))

key_first : (i : ℕ) (s : Stored) (ss : List Stored) (g : Bool) → eqb i s.pair.id ≡ true → key_of (pairs_in ss) i ≡ None
    → key_of (all_in (cond (not g) (s ∷ filter is_there ss) (filter is_there ss))) i ≡ cond g None (Some s.pair.key)
key_first i s ss true same rest = rest
key_first i s ss false same rest = rw same refl

key_later : (i : ℕ) (s : Stored) (ss : List Stored) (o : Option ℕ) (b : Bool) → eqb i s.pair.id ≡ false → key_of (pairs_in ss) i ≡ o
    → key_of (all_in (cond b (s ∷ filter is_there ss) (filter is_there ss))) i ≡ o
key_later i s ss o true other rest = rw other rest
key_later i s ss o false other rest = rest

-- the key of the id at position k, unless it is marked
pub key_at : (i k : ℕ) (d : Stored) (ss : List Stored) → IsAscending (all_in ss) → k < length ss → (get_or ss k d).pair.id ≡ i
    → key_of (pairs_in ss) i ≡ cond (get_or ss k d).is_gone None (Some (get_or ss k d).pair.key)
key_at i k d [] up lt here = absurd (omega arith)
key_at i zero d (s ∷ ss) up lt here =
    let above : AllByRecursion (λ q. i < q.id) (all_in ss) = subst (λ (n : ℕ). AllByRecursion (λ q. n < q.id) (all_in ss)) here up.0 in
    key_first i s ss s.is_gone (same_is i s.pair.id (sym here)) (key_above i (pairs_in ss) (all_there (λ q. i < q.id) ss above))
key_at i (suc k) d (s ∷ ss) up lt here =
    let below = id_above s.pair.id k d ss up.0 (omega arith) in
    key_later i s ss _ (is_there s) (other_is i s.pair.id (λ same. omega (arith, below, here))) (key_at i k d ss up.1 (omega arith) here)

pub key_gone : (i k : ℕ) (d : Stored) (ss : List Stored) → IsAscending (all_in ss) → IsStoredAt ss i k → (get_or ss k d).is_gone ≡ true → key_of (pairs_in ss) i ≡ None
key_gone i k d ss up at gone = key_at i k d ss up at.in_range (at.has_id d) ∙ ap (λ b. cond b None (Some (get_or ss k d).pair.key)) gone

-- s was read at position k
pub key_there : (i k : ℕ) (s : Stored) (ss : List Stored) → IsAscending (all_in ss) → IsThereAt ss i k → s ≡ get_or ss k s → key_of (pairs_in ss) i ≡ Some s.pair.key
key_there i k s ss up at read =
    key_at i k s ss up at.stored.in_range (at.stored.has_id s) ∙ ap (λ b. cond b None (Some (get_or ss k s).pair.key)) (at.is_there s) ∙ ap (λ (t : Stored). Some t.pair.key) (sym read)

-- an id has a pair exactly if it has a key
has_key : (i : ℕ) (ps : List Pair) → has_id i ps ≡ is_some (key_of ps i)
has_key i [] = refl
has_key i (p ∷ ps) = by_test (eqb i p.id) (has_key i ps)
  where
    by_test : (b : Bool) → has_id i ps ≡ is_some (key_of ps i) → (b || has_id i ps) ≡ is_some (option_map (λ q. q.key) (cond b (Some p) (find (λ q. eqb i q.id) ps)))
    by_test true rest = refl
    by_test false rest = rest

pub has_none : (i : ℕ) (ps : List Pair) → key_of ps i ≡ None → has_id i ps ≡ false
has_none i ps none = has_key i ps ∙ ap is_some none

pub has_there : (i k : ℕ) (s : Stored) (ss : List Stored) → IsAscending (all_in ss) → IsThereAt ss i k → has_id i (pairs_in ss) ≡ true
has_there i k s ss up at = has_key i (pairs_in ss) ∙ ap is_some (key_at i k s ss up at.stored.in_range (at.stored.has_id s) ∙ ap (λ b. cond b None (Some (get_or ss k s).pair.key)) (at.is_there s))

pub has_by_position : (i : ℕ) (ss : List Stored) (o : Option ℕ) → IsAscending (all_in ss) → IfSome o (IsThereAt ss i) → IfNone o (key_of (pairs_in ss) i ≡ None) → is_some o ≡ has_id i (pairs_in ss)
has_by_position i [] (Some k) up at none = absurd (omega (arith, at.stored.in_range))
has_by_position i (s ∷ ss) (Some k) up at none = sym (has_there i k s (s ∷ ss) up at)
has_by_position i ss None up at none = sym (has_none i (pairs_in ss) none)
