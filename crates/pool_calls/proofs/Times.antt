-- The times at which the tickets began to wait.
use Rattle.std.proofs.Common.{◌≡◌, ◌≢◌, ℕ, suc, ◌-◌, ◌<◌, ◌≤◌, eqb, Bool, true, false, not, cond, List, [], ◌∷◌, ◌++◌, length, Some, None, refl, sym, ap, ◌∙◌, subst, arith}
use Rattle.std.specs.Prelude.{map, find, unwrap_or, nat_le}
use Rattle.std.specs.List.{AllByRecursion}
use Rattle.std.specs.Option.{option_map}
use Rattle.std.proofs.lemmas.Bool.{both_ways, eq-eqb, ne_eqb}
use Rattle.std.proofs.lemmas.Bool.Decides.{nat_tests}
use Rattle.sorted_index.specs.declared.pair.Pair.{Pair}
use Rattle.sorted_index.specs.Pairs.{first_of, IdsAbove, IdsBelow, IsAscending, without as without_id}
use Rattle.pool_calls.specs.Order.{waiter_of, since_of, AreTimed}
use Rattle.pool_calls.specs.Waiting.{Waiter, is_due, CountsOnceDue, IsByArrival}
use Rattle.sorted_index.proofs.Keys.{all_filter, key_push_other, key_without_other}
use Rattle.sorted_index.proofs.Pushed.{all_push}

-- ---- the order of the times
arrival_above : (o t : ℕ) (ts ps : List Pair) → IdsAbove t ps → AllByRecursion (λ w. t < w.ticket) (map (waiter_of o ts) ps)
arrival_above o t ts [] all = tt
arrival_above o t ts (p ∷ ps) all = (all.0, arrival_above o t ts ps all.1)

-- the time of an earlier ticket says nothing of the later ones
since_later : (t : Pair) (ts : List Pair) (i : ℕ) → t.id < i → since_of (t ∷ ts) i ≡ since_of ts i
since_later t ts i above =
    let other : eqb i t.id ≡ false = ne_eqb i t.id (λ same. grind (arith, above, same)) in
    ap (λ b. unwrap_or (option_map (λ p. p.key) (cond b (Some t) (find (λ p. eqb i p.id) ts))) 0) other

waiters_later : (o : ℕ) (t : Pair) (ts ps : List Pair) → IdsAbove t.id ps → map (waiter_of o (t ∷ ts)) ps ≡ map (waiter_of o ts) ps
waiters_later o t ts [] above = refl
waiters_later o t ts (p ∷ ps) above =
    let W : ℕ → Waiter = λ n. record { ticket = p.id; overtaken = o - p.key; since = n } in
    ap (λ n. W n ∷ map (waiter_of o (t ∷ ts)) ps) (since_later t ts p.id above.0) ∙ ap (λ ws. waiter_of o ts p ∷ ws) (waiters_later o t ts ps above.1)

-- the time of the first ticket
since_first : (t : Pair) (ts : List Pair) (i : ℕ) → t.id ≡ i → since_of (t ∷ ts) i ≡ t.key
since_first t ts i same = ap (λ b. unwrap_or (option_map (λ p. p.key) (cond b (Some t) (find (λ p. eqb i p.id) ts))) 0) (eq-eqb i t.id (sym same))

-- all tickets wait from this time on, or later
since_above : (o l k : ℕ) (ps ts : List Pair) → IsAscending ps → AreTimed l ps ts → AllByRecursion (λ u. k ≤ u.key) ts → AllByRecursion (λ w. k ≤ w.since) (map (waiter_of o ts) ps)
since_above o l k [] [] up timed all = tt
since_above o l k [] (t ∷ ts) up timed all = tt
since_above o l k (p ∷ ps) [] up timed all = absurd timed
since_above o l k (p ∷ ps) (t ∷ ts) up timed all =
    let above : IdsAbove t.id ps = subst (λ (n : ℕ). IdsAbove n ps) (sym timed.0) up.0 in
    let rest = subst (AllByRecursion (λ w. k ≤ w.since)) (sym (waiters_later o t ts ps above)) (since_above o l k ps ts up.1 timed.3 all.1) in
    (subst (λ (n : ℕ). k ≤ n) (sym (since_first t ts p.id timed.0)) all.0, rest)

pub by_arrival : (o l : ℕ) (ps ts : List Pair) → IsAscending ps → AreTimed l ps ts → IsByArrival (map (waiter_of o ts) ps)
by_arrival o l [] ts up timed = tt
by_arrival o l (p ∷ ps) [] up timed = absurd timed
by_arrival o l (p ∷ ps) (t ∷ ts) up timed =
    let above : IdsAbove t.id ps = subst (λ (n : ℕ). IdsAbove n ps) (sym timed.0) up.0 in
    let same = sym (waiters_later o t ts ps above) in
    let first = sym (since_first t ts p.id timed.0) in
    let later = subst (AllByRecursion (λ w. t.key ≤ w.since)) same (since_above o l t.key ps ts up.1 timed.3 timed.2) in
    (arrival_above o p.id (t ∷ ts) ps up.0, subst (λ (n : ℕ). AllByRecursion (λ w. n ≤ w.since) (map (waiter_of o (t ∷ ts)) ps)) first later, subst IsByArrival same (by_arrival o l ps ts up.1 timed.3))

-- the first ticket has waited for so long
pub due_of_none : (o l m at : ℕ) (ps ts : List Pair) → AreTimed l ps ts → first_of ts ≡ None → is_due m at (map (waiter_of o ts) ps) ≡ false
due_of_none o l m at [] ts timed none = refl
due_of_none o l m at (p ∷ ps) [] timed none = absurd timed
due_of_none o l m at (p ∷ ps) (t ∷ ts) timed none = absurd (cc)

pub due_of_first : (o l m at : ℕ) (ps ts : List Pair) (first : Pair) → AreTimed l ps ts → first_of ts ≡ Some first → is_due m at (map (waiter_of o ts) ps) ≡ nat_le m (at - first.key)
due_of_first o l m at ps [] first timed is = absurd (cc)
due_of_first o l m at [] (t ∷ ts) first timed is = absurd timed
due_of_first o l m at (p ∷ ps) (t ∷ ts) first timed is =
    let same : t ≡ first = cc in
    ap (λ n. nat_le m (at - n)) (since_first t ts p.id timed.0) ∙ ap (λ (q : Pair). nat_le m (at - q.key)) same

-- ---- a ticket that comes, and one that leaves
-- a ticket that comes has a time of its own
pub waiters_push : (o : ℕ) (t : Pair) (ts ps : List Pair) → IdsBelow t.id ps → map (waiter_of o (ts ++ t ∷ [])) ps ≡ map (waiter_of o ts) ps
waiters_push o t ts [] below = refl
waiters_push o t ts (p ∷ ps) below =
    let W : ℕ → Waiter = λ n. record { ticket = p.id; overtaken = o - p.key; since = n } in
    let other : p.id ≢ t.id = λ same. omega (arith, below.0, same) in
    ap (λ n. W n ∷ map (waiter_of o (ts ++ t ∷ [])) ps) (ap (λ k. unwrap_or k 0) (key_push_other p.id ts t other)) ∙ ap (λ ws. waiter_of o ts p ∷ ws) (waiters_push o t ts ps below.1)

-- the ids of the times are those of the tickets
pub timed_below : (l n : ℕ) (ps ts : List Pair) → AreTimed l ps ts → IdsBelow n ps → IdsBelow n ts
timed_below l n [] [] timed below = tt
timed_below l n [] (t ∷ ts) timed below = absurd timed
timed_below l n (p ∷ ps) [] timed below = absurd timed
timed_below l n (p ∷ ps) (t ∷ ts) timed below = (omega (arith, timed.0, below.0), timed_below l n ps ts timed.3 below.1)

pub timed_few : (l : ℕ) (ps ts : List Pair) → AreTimed l ps ts → length ts ≡ length ps
timed_few l [] [] timed = refl
timed_few l [] (t ∷ ts) timed = absurd timed
timed_few l (p ∷ ps) [] timed = absurd timed
timed_few l (p ∷ ps) (t ∷ ts) timed = ap suc (timed_few l ps ts timed.3)

-- the time of a ticket that left says nothing of the others
pub waiters_left : (t o : ℕ) (ts ps : List Pair) → map (waiter_of o (without_id t ts)) (without_id t ps) ≡ map (waiter_of o ts) (without_id t ps)
waiters_left t o ts [] = refl
waiters_left t o ts (p ∷ ps) = by_test (eqb t p.id) refl (waiters_left t o ts ps)
  where
    by_test : (b : Bool) → eqb t p.id ≡ b → map (waiter_of o (without_id t ts)) (without_id t ps) ≡ map (waiter_of o ts) (without_id t ps)
        → map (waiter_of o (without_id t ts)) (cond (not b) (p ∷ without_id t ps) (without_id t ps)) ≡ map (waiter_of o ts) (cond (not b) (p ∷ without_id t ps) (without_id t ps))
    by_test true is rest = rest
    by_test false is rest =
        let W : ℕ → Waiter = λ n. record { ticket = p.id; overtaken = o - p.key; since = n } in
        let other : p.id ≢ t = λ same. absurd (both_ways (eqb t p.id) is (eq-eqb t p.id (sym same))) in
        ap (λ n. W n ∷ map (waiter_of o (without_id t ts)) (without_id t ps)) (ap (λ k. unwrap_or k 0) (key_without_other t p.id ts other)) ∙ ap (λ ws. waiter_of o ts p ∷ ws) rest

pub timed_filter : (l : ℕ) (t : ℕ) (ps ts : List Pair) → AreTimed l ps ts → AreTimed l (without_id t ps) (without_id t ts)
timed_filter l t [] [] timed = tt
timed_filter l t [] (u ∷ ts) timed = absurd timed
timed_filter l t (p ∷ ps) [] timed = absurd timed
timed_filter l t (p ∷ ps) (u ∷ ts) timed =
    by_tests (eqb t p.id) (eqb t u.id) (ap (eqb t) timed.0) (all_filter (λ q. u.key ≤ q.key) (λ q. not (eqb t q.id)) ts timed.2) (timed_filter l t ps ts timed.3)
  where
    by_tests : (a b : Bool) → b ≡ a → AllByRecursion (λ q. u.key ≤ q.key) (without_id t ts) → AreTimed l (without_id t ps) (without_id t ts)
        → AreTimed l (cond (not a) (p ∷ without_id t ps) (without_id t ps)) (cond (not b) (u ∷ without_id t ts) (without_id t ts))
    by_tests true true same later rest = rest
    by_tests false false same later rest = (timed.0, timed.1, later, rest)
    by_tests true false same later rest = absurd (cc same)
    by_tests false true same later rest = absurd (cc same)

pub timed_push : (l : ℕ) (ps ts : List Pair) (p t : Pair) → t.id ≡ p.id → l ≤ t.key → AreTimed l ps ts → AreTimed t.key (ps ++ p ∷ []) (ts ++ t ∷ [])
timed_push l [] [] p t same later timed = (same, omega arith, tt, tt)
timed_push l [] (u ∷ ts) p t same later timed = absurd timed
timed_push l (q ∷ ps) [] p t same later timed = absurd timed
timed_push l (q ∷ ps) (u ∷ ts) p t same later timed =
    (timed.0, omega (arith, timed.1, later), all_push (λ x. u.key ≤ x.key) ts t timed.2 (omega (arith, timed.1, later)), timed_push l ps ts p t same later timed.3)

-- ---- the law of the time
is_long : (m n : ℕ) → m ≤ n → nat_le m n ≡ true
is_long m n within = grind (arith, nat_tests)

older_due : (m at s : ℕ) (ws : List Waiter) → AllByRecursion (λ w. s ≤ w.since) ws → AllByRecursion (λ w. m ≤ at - w.since → nat_le m (at - s) ≡ true) ws
older_due m at s [] later = tt
older_due m at s (w ∷ ws) later = ((λ waited. is_long m (at - s) (omega (arith, waited, later.0))), older_due m at s ws later.1)

pub counts_once_due : CountsOnceDue
counts_once_due m at [] up = tt
counts_once_due m at (w ∷ ws) up = ((λ waited. is_long m (at - w.since) waited), older_due m at w.since ws up.1)
