-- The pairs of both queues, in one order, and the waiters that they are seen as.
use Rattle.std.proofs.Common.{◌≡◌, ℕ, ◌+◌, ◌-◌, ◌<◌, ◌≤◌, eqb, Bool, true, false, not, ◌&&◌, ◌||◌, cond, List, [], ◌∷◌, ◌++◌, length, take, Some, None, Result, Ok, Err, OnOk, refl, sym, ap, ◌∙◌, subst, arith, append_assoc, append-nil, length-append}
use Rattle.std.specs.Prelude.{map, min, filter, slice_get, unwrap_or, nat_lt}
use Rattle.std.specs.List.{AllByRecursion}
use Rattle.std.specs.Option.{option_map}
use Rattle.std.proofs.Math.Seq.{take-append_seam, get_or-append_seam}
use Rattle.std.proofs.lemmas.Bool.{ne_eqb}
use Rattle.std.proofs.lemmas.Bool.Decides.{nat_tests}
use Rattle.std.proofs.lemmas.List.{map-append, length-map}
use Rattle.std.proofs.lemmas.List.Elements.{filter-append}
use Rattle.std.proofs.lemmas.List.Filters.{length-filter_both}
use Rattle.std.proofs.lemmas.List.Folds.{list_any-append}
use Rattle.std.proofs.lemmas.Option.{slice_get_read, slice_get_past}
use Rattle.sorted_index.specs.declared.pair.Pair.{Pair}
use Rattle.sorted_index.specs.Pairs.{Row, first_of, has_id, IdsAbove, IdsBelow, IsAscending, without as without_id}
use Rattle.pool_calls.specs.Order.{waiter_of, since_of, AreFair, AreTimed, IsQueue}
use Rattle.pool_calls.specs.Waiting.{Waiter, Queue, is_in, without, newest, most_overtaken, overtaken_once, counts_overtake, can_pass, may_lend}
use Rattle.sorted_index.proofs.Keys.{all_filter, ascending_filter, key_pushed}
use Rattle.sorted_index.proofs.Pushed.{all_push, ascending_push}
use Rattle.pool_calls.proofs.Times.{waiters_left, waiters_push, timed_below, timed_filter, timed_push}

-- ---- parts of a list
pub all_back : (P : Pair → Type 0) (ps qs : List Pair) → AllByRecursion P (ps ++ qs) → AllByRecursion P qs
all_back P [] qs all = all
all_back P (p ∷ ps) qs all = all_back P ps qs all.1

all_mid : (P : Pair → Type 0) (ps : List Pair) (p : Pair) (qs : List Pair) → AllByRecursion P (ps ++ p ∷ qs) → P p
all_mid P ps p qs all = (all_back P ps (p ∷ qs) all).0

mid_above : (ps : List Pair) (p : Pair) (qs : List Pair) → IsAscending (ps ++ p ∷ qs) → IdsAbove p.id qs
mid_above [] p qs up = up.0
mid_above (q ∷ ps) p qs up = mid_above ps p qs up.1

mid_below : (ps : List Pair) (p : Pair) (qs : List Pair) → IsAscending (ps ++ p ∷ qs) → IdsBelow p.id ps
mid_below [] p qs up = tt
mid_below (q ∷ ps) p qs up = (all_mid (λ r. q.id < r.id) ps p qs up.0, mid_below ps p qs up.1)

-- the youngest signalled ticket is below all that sleep
pub youngest_above : (ps qs rest : List Pair) (p : Pair) → ps ≡ rest ++ p ∷ [] → IsAscending (ps ++ qs) → IdsAbove p.id qs
youngest_above ps qs rest p is up = mid_above rest p qs (subst IsAscending (ap (λ xs. xs ++ qs) is ∙ append_assoc rest (p ∷ []) qs) up)

-- the oldest ticket that sleeps is above all that are signalled
pub oldest_below : (ps qs rest : List Pair) (p : Pair) → qs ≡ p ∷ rest → IsAscending (ps ++ qs) → IdsBelow p.id ps
oldest_below ps qs rest p is up = mid_below ps p rest (subst (λ xs. IsAscending (ps ++ xs)) is up)

below_next : (n : ℕ) (ps : List Pair) → IdsBelow n ps → IdsBelow (n + 1) ps
below_next n [] all = tt
below_next n (p ∷ ps) all = (omega (arith, all.0), below_next n ps all.1)

-- a ticket above all others is none of them
pub below_out : (n o : ℕ) (ts ps : List Pair) → IdsBelow n ps → is_in n (map (waiter_of o ts) ps) ≡ false
below_out n o ts [] all = refl
below_out n o ts (p ∷ ps) all =
    let other : eqb n p.id ≡ false = ne_eqb n p.id (λ same. grind (arith, all.0, same)) in
    ap (λ b. b || is_in n (map (waiter_of o ts) ps)) other ∙ below_out n o ts ps all.1

-- ---- fairness
befores : (overtakes most : ℕ) (ps : List Pair) → AreFair overtakes most ps → AllByRecursion (λ p. p.key ≤ overtakes) ps
befores o m [] fair = tt
befores o m (p ∷ ps) fair = (fair.0, befores o m ps fair.3)

fair_push : (o m : ℕ) (ps : List Pair) (p : Pair) → p.key ≡ o → AreFair o m ps → AreFair o m (ps ++ p ∷ [])
fair_push o m [] p now fair = (omega (arith, now), omega (arith, now), tt, tt)
fair_push o m (q ∷ ps) p now fair =
    (fair.0, fair.1, all_push (λ r. q.key ≤ r.key) ps p fair.2 (omega (arith, now, fair.0)), fair_push o m ps p now fair.3)

raise : (o m b : ℕ) (ps : List Pair) → o + 1 ≤ b + m → AllByRecursion (λ q. b ≤ q.key) ps → AreFair o m ps → AreFair (o + 1) m ps
raise o m b [] once later fair = tt
raise o m b (p ∷ ps) once later fair =
    (omega (arith, fair.0), omega (arith, once, later.0), fair.2, raise o m b ps once later.1 fair.3)

and_first : (a b : Bool) → (a && b) ≡ true → a ≡ true
and_first true b both = refl
and_first false b both = both

-- the first ticket was overtaken fewer than `most` times, so all of them may be
pub raised : (o m : ℕ) (ts ps : List Pair) → can_pass o m (map (waiter_of o ts) ps) ≡ true → AreFair o m ps → AreFair (o + 1) m ps
raised o m ts [] may fair = tt
raised o m ts (p ∷ ps) may fair =
    let first : o - p.key < m = let less = and_first (nat_lt (o - p.key) m) _ may in grind (arith, nat_tests) in
    let once : o + 1 ≤ p.key + m = omega (arith, first, fair.0) in
    (omega (arith, fair.0), once, fair.2, raise o m p.key ps once fair.2 fair.3)

pub overtaken_all : (o m : ℕ) (ts ps : List Pair) → AreFair o m ps → map (waiter_of (o + 1) ts) ps ≡ map overtaken_once (map (waiter_of o ts) ps)
overtaken_all o m ts [] fair = refl
overtaken_all o m ts (p ∷ ps) fair =
    let more : (o + 1) - p.key ≡ (o - p.key) + 1 = omega (arith, fair.0) in
    let W : ℕ → Waiter = λ n. record { ticket = p.id; overtaken = n; since = since_of ts p.id } in
    ap (λ n. W n ∷ map (waiter_of (o + 1) ts) ps) more ∙ ap (λ ws. overtaken_once (waiter_of o ts p) ∷ ws) (overtaken_all o m ts ps fair.3)

pub fair_waiters : (o m : ℕ) (ts ps : List Pair) → AreFair o m ps → AllByRecursion (λ w. w.overtaken ≤ m) (map (waiter_of o ts) ps)
fair_waiters o m ts [] fair = tt
fair_waiters o m ts (p ∷ ps) fair = (omega (arith, fair.0, fair.1), fair_waiters o m ts ps fair.3)

-- another bound that none of them exceeds, if it is none that the first exceeds
rebound : (o m n b : ℕ) (ps : List Pair) → o ≤ b + n → AllByRecursion (λ q. b ≤ q.key) ps → AreFair o m ps → AreFair o n ps
rebound o m n b [] within later fair = tt
rebound o m n b (p ∷ ps) within later fair =
    (fair.0, omega (arith, within, later.0), fair.2, rebound o m n b ps within later.1 fair.3)

pub limited : (o m n : ℕ) (ts ps : List Pair) → most_overtaken (map (waiter_of o ts) ps) ≤ n → AreFair o m ps → AreFair o n ps
limited o m n ts [] within fair = tt
limited o m n ts (p ∷ ps) within fair =
    let first : o ≤ p.key + n = omega (arith, within, fair.0) in
    (fair.0, first, fair.2, rebound o m n p.key ps first fair.2 fair.3)

-- ---- waiters
is_in-waiters : (t o : ℕ) (ts ps : List Pair) → is_in t (map (waiter_of o ts) ps) ≡ has_id t ps
is_in-waiters t o ts [] = refl
is_in-waiters t o ts (p ∷ ps) = ap (λ b. eqb t p.id || b) (is_in-waiters t o ts ps)

without-waiters : (t o : ℕ) (ts ps : List Pair) → without t (map (waiter_of o ts) ps) ≡ map (waiter_of o ts) (without_id t ps)
without-waiters t o ts [] = refl
without-waiters t o ts (p ∷ ps) = by_test (eqb t p.id) (without-waiters t o ts ps)
  where
    by_test : (b : Bool) → without t (map (waiter_of o ts) ps) ≡ map (waiter_of o ts) (without_id t ps)
        → cond (not b) (waiter_of o ts p ∷ without t (map (waiter_of o ts) ps)) (without t (map (waiter_of o ts) ps)) ≡ map (waiter_of o ts) (cond (not b) (p ∷ without_id t ps) (without_id t ps))
    by_test true rest = rest
    by_test false rest = ap (λ ws. waiter_of o ts p ∷ ws) rest

-- the signalled waiters are those of the first queue
pub signalled_waiters : (o : ℕ) (ts ps qs : List Pair) → take (length ps) (map (waiter_of o ts) (ps ++ qs)) ≡ map (waiter_of o ts) ps
signalled_waiters o ts ps qs =
    ap (λ ws. take (length ps) ws) (map-append (waiter_of o ts) ps qs) ∙ ap (λ n. take n (map (waiter_of o ts) ps ++ map (waiter_of o ts) qs)) (sym (length-map ps (waiter_of o ts))) ∙ take-append_seam (map (waiter_of o ts) ps) (map (waiter_of o ts) qs)

pub is_signalled_in : (t o : ℕ) (ts ps qs : List Pair) → is_in t (take (length ps) (map (waiter_of o ts) (ps ++ qs))) ≡ has_id t ps
is_signalled_in t o ts ps qs = ap (is_in t) (signalled_waiters o ts ps qs) ∙ is_in-waiters t o ts ps

pub waited : (t o : ℕ) (ts ps qs : List Pair) → is_in t (map (waiter_of o ts) (ps ++ qs)) ≡ (has_id t ps || has_id t qs)
waited t o ts ps qs = is_in-waiters t o ts (ps ++ qs) ∙ list_any-append (λ p. eqb t p.id) ps qs

left_all : (t : ℕ) (ps qs : List Pair) → without_id t (ps ++ qs) ≡ without_id t ps ++ without_id t qs
left_all t ps qs = filter-append (λ p. not (eqb t p.id)) ps qs

pub left : (t o : ℕ) (ts ps qs us rs ss : List Pair) → us ≡ without_id t ts → rs ≡ without_id t ps → ss ≡ without_id t qs → map (waiter_of o us) (rs ++ ss) ≡ without t (map (waiter_of o ts) (ps ++ qs))
left t o ts ps qs us rs ss u r s =
    ap (λ xs. map (waiter_of o xs) (rs ++ ss)) u ∙ ap (λ xs. map (waiter_of o (without_id t ts)) (xs ++ ss)) r ∙ ap (λ xs. map (waiter_of o (without_id t ts)) (without_id t ps ++ xs)) s
    ∙ ap (map (waiter_of o (without_id t ts))) (sym (left_all t ps qs)) ∙ waiters_left t o ts (ps ++ qs) ∙ sym (without-waiters t o ts (ps ++ qs))

pub left_signalled : (t o : ℕ) (ts ps qs rs : List Pair) → rs ≡ without_id t ps → length rs ≡ length (without t (take (length ps) (map (waiter_of o ts) (ps ++ qs))))
left_signalled t o ts ps qs rs r =
    ap (length {A = Pair}) r ∙ sym (length-map (without_id t ps) (waiter_of o ts)) ∙ ap (length {A = Waiter}) (sym (without-waiters t o ts ps) ∙ ap (without t) (sym (signalled_waiters o ts ps qs)))

pub pushed : (o l : ℕ) (ts us ps qs rs : List Pair) (p t : Pair) → AreTimed l (ps ++ qs) ts → IdsBelow p.id (ps ++ qs) → p.key ≡ o → t.id ≡ p.id → us ≡ ts ++ t ∷ [] → rs ≡ qs ++ p ∷ [] → map (waiter_of o us) (ps ++ rs) ≡ map (waiter_of o ts) (ps ++ qs) ++ newest p.id t.key ∷ []
pushed o l ts us ps qs rs p t timed below now same grown is =
    let all : List Pair = ps ++ qs in
    let W : ℕ → ℕ → Waiter = λ n m. record { ticket = p.id; overtaken = n; since = m } in
    let none : o - p.key ≡ 0 = omega (arith, now) in
    let since : since_of (ts ++ t ∷ []) p.id ≡ t.key =
    ap (since_of (ts ++ t ∷ [])) (sym same) ∙ ap (λ k. unwrap_or k 0) (key_pushed ts t (subst (λ (n : ℕ). IdsBelow n ts) (sym same) (timed_below l p.id all ts timed below))) in
    ap (λ xs. map (waiter_of o us) (ps ++ xs)) is ∙ ap (map (waiter_of o us)) (sym (append_assoc ps qs (p ∷ []))) ∙ map-append (waiter_of o us) all (p ∷ [])
    ∙ ap (λ xs. map (waiter_of o xs) all ++ map (waiter_of o xs) (p ∷ [])) grown
    ∙ ap (λ ws. ws ++ waiter_of o (ts ++ t ∷ []) p ∷ []) (waiters_push o t ts all (subst (λ (n : ℕ). IdsBelow n all) (sym same) below))
    ∙ ap (λ n. map (waiter_of o ts) all ++ W n (since_of (ts ++ t ∷ []) p.id) ∷ []) none ∙ ap (λ m. map (waiter_of o ts) all ++ W 0 m ∷ []) since

-- the oldest ticket that sleeps
pub oldest_ticket : (o : ℕ) (ts ps qs rest : List Pair) (p : Pair) → qs ≡ p ∷ rest → Some p.id ≡ option_map (λ w. w.ticket) (slice_get (map (waiter_of o ts) (ps ++ qs)) (length ps))
oldest_ticket o ts ps qs rest p is =
    let ws : List Waiter = map (waiter_of o ts) ps in
    let vs : List Waiter = map (waiter_of o ts) rest in
    let all : map (waiter_of o ts) (ps ++ qs) ≡ ws ++ waiter_of o ts p ∷ vs = ap (λ xs. map (waiter_of o ts) (ps ++ xs)) is ∙ map-append (waiter_of o ts) ps (p ∷ rest) in
    let long : length ps ≡ length ws = sym (length-map ps (waiter_of o ts)) in
    let inside : length ws < length (ws ++ waiter_of o ts p ∷ vs) = omega (arith, length-append ws (waiter_of o ts p ∷ vs)) in
    let read : slice_get (ws ++ waiter_of o ts p ∷ vs) (length ws) ≡ Some (waiter_of o ts p) = slice_get_read (ws ++ waiter_of o ts p ∷ vs) _ (length ws) (waiter_of o ts p) refl inside (sym (get_or-append_seam ws (waiter_of o ts p) vs (waiter_of o ts p))) in
    ap (option_map (λ w. w.ticket)) (sym read ∙ ap (λ n. slice_get (ws ++ waiter_of o ts p ∷ vs) n) (sym long) ∙ ap (λ xs. slice_get xs (length ps)) (sym all))

pub none_asleep : (o : ℕ) (ts ps qs : List Pair) → qs ≡ [] → None ≡ option_map (λ w. w.ticket) (slice_get (map (waiter_of o ts) (ps ++ qs)) (length ps))
none_asleep o ts ps qs is =
    let long : length (map (waiter_of o ts) (ps ++ qs)) ≡ length ps = length-map (ps ++ qs) (waiter_of o ts) ∙ ap (λ xs. length (ps ++ xs)) is ∙ ap (length {A = Pair}) (append-nil ps) in
    ap (option_map (λ w. w.ticket)) (sym (slice_get_past (map (waiter_of o ts) (ps ++ qs)) (length ps) (omega (arith, long))))

-- ---- the invariant
fair_filter : (o m : ℕ) (test : Pair → Bool) (ps : List Pair) → AreFair o m ps → AreFair o m (filter test ps)
fair_filter o m test [] fair = tt
fair_filter o m test (p ∷ ps) fair = by_test (test p) (all_filter (λ q. p.key ≤ q.key) test ps fair.2) (fair_filter o m test ps fair.3)
  where
    by_test : (b : Bool) → AllByRecursion (λ q. p.key ≤ q.key) (filter test ps) → AreFair o m (filter test ps) → AreFair o m (cond b (p ∷ filter test ps) (filter test ps))
    by_test true later rest = (fair.0, fair.1, later, rest)
    by_test false later rest = rest

fewer : (test : Pair → Bool) (ps : List Pair) → length (filter test ps) ≤ length ps
fewer test ps = omega (arith, length-filter_both test (λ p. not (test p)) (λ p. refl) ps)

pub left_queue : (t l d o m : ℕ) (s a ts s2 a2 ts2 : Row) → IsQueue s a ts l d o m → s2.pairs ≡ without_id t s.pairs → a2.pairs ≡ without_id t a.pairs → ts2.pairs ≡ without_id t ts.pairs → s2.capacity ≡ s.capacity → a2.capacity ≡ a.capacity → ts2.capacity ≡ ts.capacity → IsQueue s2 a2 ts2 l d o m
left_queue t l d o m s a ts s2 a2 ts2 old r q u room room2 room3 =
    let test : Pair → Bool = λ p. not (eqb t p.id) in
    let all : List Pair = s.pairs ++ a.pairs in
    let is : filter test all ≡ s2.pairs ++ a2.pairs = left_all t s.pairs a.pairs ∙ ap (λ xs. xs ++ without_id t a.pairs) (sym r) ∙ ap (λ xs. s2.pairs ++ xs) (sym q) in
    record {
      ascending = subst IsAscending is (ascending_filter test all old.ascending);
      drawn_before = subst (IdsBelow d) is (all_filter (λ p. p.id < d) test all old.drawn_before);
      fair = subst (AreFair o m) is (fair_filter o m test all old.fair);
      timed = subst (λ xs. AreTimed l xs ts2.pairs) is (subst (AreTimed l (filter test all)) (sym u) (timed_filter l t all ts.pairs old.timed));
      fit = omega (arith, old.fit, fewer test all, ap (length {A = Pair}) is, room, room2, room3);
    }

pub pushed_queue : (l d o m : ℕ) (s a ts a2 ts2 : Row) (p t : Pair) → IsQueue s a ts l d o m → p.id ≡ d → t.id ≡ d → p.key ≡ o → l ≤ t.key → a2.pairs ≡ a.pairs ++ p ∷ [] → ts2.pairs ≡ ts.pairs ++ t ∷ [] → a2.capacity ≡ a.capacity → ts2.capacity ≡ ts.capacity → length (s.pairs ++ a.pairs) + 1 ≤ min (min s.capacity a.capacity) ts.capacity → IsQueue s a2 ts2 t.key (d + 1) o m
pushed_queue l d o m s a ts a2 ts2 p t old ticket timed before later is is2 capacity capacity2 room =
    let all : List Pair = s.pairs ++ a.pairs in
    let grown : s.pairs ++ a2.pairs ≡ all ++ p ∷ [] = ap (λ xs. s.pairs ++ xs) is ∙ sym (append_assoc s.pairs a.pairs (p ∷ [])) in
    let long : length (s.pairs ++ a2.pairs) ≡ length all + 1 = ap (length {A = Pair}) grown ∙ length-append all (p ∷ []) in
    record {
      ascending = subst IsAscending (sym grown) (ascending_push all p old.ascending (subst (λ (n : ℕ). IdsBelow n all) (sym ticket) old.drawn_before));
      drawn_before = subst (IdsBelow (d + 1)) (sym grown) (all_push (λ q. q.id < d + 1) all p (below_next d all old.drawn_before) (omega (arith, ticket)));
      fair = subst (AreFair o m) (sym grown) (fair_push o m all p before old.fair);
      timed = subst (λ xs. AreTimed t.key xs ts2.pairs) (sym grown) (subst (AreTimed t.key (all ++ p ∷ [])) (sym is2) (timed_push l all ts.pairs p t (timed ∙ sym ticket) later old.timed));
      fit = omega (arith, long, room, capacity, capacity2);
    }

pub raised_queue : (l d o m : ℕ) (s a ts : Row) → IsQueue s a ts l d o m → can_pass o m (map (waiter_of o ts.pairs) (s.pairs ++ a.pairs)) ≡ true → IsQueue s a ts l d (o + 1) m
raised_queue l d o m s a ts old may = record {
  ascending = old.ascending;
  drawn_before = old.drawn_before;
  fair = raised o m ts.pairs (s.pairs ++ a.pairs) may old.fair;
  timed = old.timed;
  fit = old.fit;
}

-- another bound
pub limited_queue : (l d o m n : ℕ) (s a ts : Row) → IsQueue s a ts l d o m → most_overtaken (map (waiter_of o ts.pairs) (s.pairs ++ a.pairs)) ≤ n → IsQueue s a ts l d o n
limited_queue l d o m n s a ts old within = record {
  ascending = old.ascending;
  drawn_before = old.drawn_before;
  fair = limited o m n ts.pairs (s.pairs ++ a.pairs) within old.fair;
  timed = old.timed;
  fit = old.fit;
}

-- the oldest ticket was overtaken most often
pub most_of_none : (o : ℕ) (ts ps : List Pair) → first_of ps ≡ None → most_overtaken (map (waiter_of o ts) ps) ≡ 0
most_of_none o ts [] none = refl
most_of_none o ts (p ∷ ps) none = absurd (cc)

pub most_of_first : (o : ℕ) (ts ps : List Pair) (first : Pair) → first_of ps ≡ Some first → most_overtaken (map (waiter_of o ts) ps) ≡ o - first.key
most_of_first o ts [] first is = absurd (cc)
most_of_first o ts (p ∷ ps) first is = let same : p ≡ first = cc in ap (λ q. o - q.key) same

-- where it counts, a newcomer may look only as it may overtake the first
pub may_pass : (available at : ℕ) (q : Queue) → may_lend available at q ≡ true → counts_overtake available at q ≡ true → can_pass q.overtakes q.most q.waiting ≡ true
may_pass available at q may counts = second (counts_overtake available at q) (can_pass q.overtakes q.most q.waiting) may counts
  where
    second : (a b : Bool) → (not a || b) ≡ true → a ≡ true → b ≡ true
    second true b may counts = may
    second false b may counts = absurd (cc counts)

pub left_fewer : (t : ℕ) (ps qs rs ss : List Pair) → rs ≡ without_id t ps → ss ≡ without_id t qs → length (rs ++ ss) ≤ length (ps ++ qs)
left_fewer t ps qs rs ss r s =
    let test : Pair → Bool = λ p. not (eqb t p.id) in
    omega (arith, length-append rs ss, length-append ps qs, fewer test ps, fewer test qs, ap (length {A = Pair}) r, ap (length {A = Pair}) s)

-- all queues have memory for so many more
pub reserved : {A E : Type 0} (r : Result A E) (count all o : ℕ) (s a ts s2 a2 ts2 : Row) → all ≡ length (map (waiter_of o ts.pairs) (s.pairs ++ a.pairs)) + count → s2.pairs ≡ s.pairs → a2.pairs ≡ a.pairs → all ≤ s2.capacity → all ≤ a2.capacity → OnOk r (all ≤ ts2.capacity) → OnOk r (count ≤ min (min s2.capacity a2.capacity) ts2.capacity - length (s2.pairs ++ a2.pairs))
reserved (Ok x) count all o s a ts s2 a2 ts2 is s_same a_same s_room a_room t_room =
    let long : length (s2.pairs ++ a2.pairs) ≡ length (s.pairs ++ a.pairs) =
    ap (λ ps. length (ps ++ a2.pairs)) s_same ∙ ap (λ qs. length (s.pairs ++ qs)) a_same
    in
    omega (arith, is, long, length-map (s.pairs ++ a.pairs) (waiter_of o ts.pairs), s_room, a_room, t_room)
reserved (Err e) count all o s a ts s2 a2 ts2 is s_same a_same s_room a_room t_room = tt
