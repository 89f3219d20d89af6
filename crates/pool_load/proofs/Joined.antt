-- The promises of joined threads, in the order in which they were started.
use Rattle.std.proofs.Common.{◌≡◌, ℕ, suc, ◌+◌, ◌*◌, ◌<◌, ◌≤◌, List, [], ◌∷◌, ◌++◌, length, length-append, map, Option, Some, None, Result, Ok, Err, slice_get, refl, sym, ap, ◌∙◌, subst, arith}
use Rattle.std.specs.Prelude.{IfOk, fold, slice_index_or, sum}
use Rattle.std.specs.Option.{option_map}
use Rattle.std.proofs.lemmas.List.{length-map, map-append}
use Rattle.std.proofs.lemmas.List.Sums.{fold-append, sum_by-cons}
use Rattle.std.proofs.Math.Nat.{mul-add}
use Rattle.std.proofs.lemmas.Option.{slice_get-map, slice_get_within, slice_get-get_or, get_or_from_slice_get}
use Rattle.pool_settings.specs.declared.settings.Settings.{Settings}
use Rattle.pool_history.specs.CallerStates.{CallerState}
use Rattle.pool_engines.specs.declared.load_fault.LoadFault.{LoadFault}
use Rattle.pool_load.specs.Workers.{IsOutcome, Works, AllWorked, added, total_of}

-- an element of a mapped list comes from an element
pub record From {X Y : Type 0} (f : X → Y) (xs : List X) (i : ℕ) (y : Y) : Type 0 where
  pub x : X
  pub at : slice_get xs i ≡ Some x
  pub is : f x ≡ y

pub mapped_from : {X Y : Type 0} (f : X → Y) (xs : List X) (i : ℕ) (y : Y) → slice_get (map f xs) i ≡ Some y → From f xs i y
mapped_from {X} {Y} f xs i y at = by_element (slice_get xs i) refl (sym (slice_get-map f xs i) ∙ at)
  where
    by_element : (o : Option X) → slice_get xs i ≡ o → option_map f o ≡ Some y → From f xs i y
    by_element None none is = absurd (cc is)
    by_element (Some x) some is = record { x = x; at = some; is = cc is }

module _ {H W : Type 0} (before : H → CallerState) (rounds : H → ℕ) (caller : W → CallerState) (outcome : W → Result ℕ LoadFault) (s : Settings) (n : ℕ) where
  -- the thread at each index kept the promise of its handle
  abbrev pub AllKept : List H → List W → Type 0
  AllKept hs ws = (i : ℕ) (d : W) → i < length hs
      → (h : H) × (h ≡ slice_index_or hs i h) × Works s (rounds h) (outcome (slice_index_or ws i d)) (before h) (caller (slice_index_or ws i d))

  pub joined : (hs : List H) (cs : List CallerState) (ws : List W) → map before hs ≡ cs → map rounds hs ≡ map (λ (c : CallerState). n) cs → length ws ≡ length hs → AllKept hs ws
      → AllWorked s n cs (map caller ws) (map outcome ws)
  joined hs cs ws from each long kept =
      let same : length hs ≡ length cs = sym (length-map hs before) ∙ ap length from in
      record { callers = length-map ws caller ∙ long ∙ same; results = length-map ws outcome ∙ long ∙ same; each = at }
    where
      at : (i : ℕ) (b a : CallerState) (o : Result ℕ LoadFault) → slice_get cs i ≡ Some b → slice_get (map caller ws) i ≡ Some a → slice_get (map outcome ws) i ≡ Some o → Works s n o b a
      at i b a o at_b at_a at_o =
          let began = mapped_from before hs i b (ap (λ l. slice_get l i) from ∙ at_b) in
          let ended = mapped_from caller ws i a at_a in
          let gave = mapped_from outcome ws i o at_o in
          let same : gave.x ≡ ended.x = cc (sym gave.at ∙ ended.at) in
          let k = kept i ended.x (slice_get_within hs i began.x began.at) in
          let handle : k.0 ≡ began.x = k.1 ∙ get_or_from_slice_get hs i began.x k.0 began.at in
          let worker : slice_index_or ws i ended.x ≡ ended.x = get_or_from_slice_get ws i ended.x ended.x ended.at in
          let counts : Some (rounds began.x) ≡ Some n =
          sym (slice_get-map rounds hs i ∙ ap (option_map rounds) began.at) ∙ ap (λ (l : List ℕ). slice_get l i) each
          ∙ slice_get-map (λ (c : CallerState). n) cs i ∙ ap (option_map (λ (c : CallerState). n)) at_b in
          let count : rounds k.0 ≡ n = ap rounds handle ∙ cc counts in
          let w = subst (λ (w : W). Works s (rounds k.0) (outcome w) (before k.0) (caller w)) worker k.2 in
          let r = subst (λ (m : ℕ). Works s m (outcome ended.x) (before k.0) (caller ended.x)) count w in
          let h = subst (λ (c : CallerState). Works s n (outcome ended.x) c (caller ended.x)) (ap before handle ∙ began.is) r in
          let c = subst (λ (c : CallerState). Works s n (outcome ended.x) b c) ended.is h in
          subst (λ (x : Result ℕ LoadFault). Works s n x b a) (ap outcome (sym same) ∙ gave.is) c

-- the sum so far, or the first error, with one more outcome
pub total_more : {W : Type 0} (outcome : W → Result ℕ LoadFault) (ws : List W) (w : W) → total_of (map outcome (ws ++ w ∷ [])) ≡ added (total_of (map outcome ws)) (outcome w)
total_more outcome ws w = ap total_of (map-append outcome ws (w ∷ [])) ∙ fold-append added (Ok 0) (map outcome ws) (outcome w ∷ [])

error_stays : (fault : LoadFault) (os : List (Result ℕ LoadFault)) → fold added (Err fault) os ≡ Err fault
error_stays fault [] = refl
error_stays fault (o ∷ os) = error_stays fault os

-- if no outcome is an error, all are numbers, and the sum is theirs
pub record AllNumbers (n r : ℕ) (os : List (Result ℕ LoadFault)) : Type 0 where
  pub refusals : List ℕ
  pub are : os ≡ map Ok refusals
  pub sums : r ≡ n + sum refusals

pub all_numbers : (n r : ℕ) (os : List (Result ℕ LoadFault)) → fold added (Ok n) os ≡ Ok r → AllNumbers n r os
all_numbers n r [] is = let same : n ≡ r = cc is in record { refusals = []; are = refl; sums = omega (arith, same) }
all_numbers n r (Ok m ∷ os) is =
    let rest = all_numbers (n + m) r os is in
    let more = sum_by-cons (λ (x : ℕ). x) m rest.refusals in
    let sums = rest.sums in
    record { refusals = m ∷ rest.refusals; are = ap (λ l. Ok m ∷ l) rest.are; sums = omega (arith, sums, more) }
all_numbers n r (Err fault ∷ os) is = absurd (cc (sym (error_stays fault os) ∙ is))

-- otherwise the error is one of them
pub error_among : (n : ℕ) (os : List (Result ℕ LoadFault)) (fault : LoadFault) → fold added (Ok n) os ≡ Err fault → (i : ℕ) × (slice_get os i ≡ Some (Err fault))
error_among n [] fault is = absurd (cc is)
error_among n (Ok m ∷ os) fault is = let rest = error_among (n + m) os fault is in (suc rest.0, rest.1)
error_among n (Err first ∷ os) fault is = (0, ap Some (sym (error_stays first os) ∙ is))

-- at most this many borrows of each worker in the list were refused
abbrev pub AllWithin : {W : Type 0} → (W → Result ℕ LoadFault) → ℕ → List W → Type 0
AllWithin {W} outcome most ws = (i : ℕ) (d : W) → i < length ws → IfOk (outcome (slice_index_or ws i d)) (λ n. n ≤ most)

pub no_more : {W : Type 0} (outcome : W → Result ℕ LoadFault) (most : ℕ) (ws : List W) (i : ℕ) (w : W) → AllWithin outcome most ws → i < length ws → w ≡ slice_index_or ws i w → IfOk (outcome w) (λ n. n ≤ most)
no_more outcome most ws i w each lt here = subst (λ x. IfOk (outcome x) (λ n. n ≤ most)) (sym here) (each i w lt)

pub bound_more : {W : Type 0} (ws : List W) (w : W) (most : ℕ) (total more : Result ℕ LoadFault) → IfOk total (λ n. n ≤ most * length ws) → IfOk more (λ n. n ≤ most) → IfOk (added total more) (λ n. n ≤ most * length (ws ++ w ∷ []))
bound_more ws w most (Ok n) (Ok m) so_far here =
    let long = length-append ws (w ∷ []) in
    rw long (rw mul-add (omega (arith, so_far, here)))
bound_more ws w most (Ok n) (Err fault) so_far here = tt
bound_more ws w most (Err fault) more so_far here = tt

pub bound_up : (total : Result ℕ LoadFault) (n m : ℕ) → n ≤ m → IfOk total (λ k. k ≤ n) → IfOk total (λ k. k ≤ m)
bound_up (Ok k) n m up is = omega (arith, up, is)
bound_up (Err fault) n m up is = tt

outcome_up : (s : Settings) (rounds most : ℕ) (o : Result ℕ LoadFault) (before after : CallerState) → rounds ≤ most → IsOutcome s rounds o before after → IfOk o (λ n. n ≤ most)
outcome_up s rounds most (Ok f) before after up is = omega (arith, up, is)
outcome_up s rounds most (Err fault) before after up is = tt

-- each outcome is one of this number of rounds, even if more are allowed
pub outcomes_within : {W : Type 0} (caller : W → CallerState) (outcome : W → Result ℕ LoadFault) (s : Settings) (rounds most : ℕ) (before : List CallerState) (ws : List W) → AllWorked s rounds before (map caller ws) (map outcome ws) → rounds ≤ most
    → AllWithin outcome most ws
outcomes_within caller outcome s rounds most before ws worked up i d lt =
    let w = slice_index_or ws i d in
    let at : slice_get ws i ≡ Some w = slice_get-get_or ws i d lt in
    let long : length before ≡ length ws = sym worked.callers ∙ length-map ws caller in
    let at_b = slice_get-get_or before i (caller w) (omega (arith, long, lt)) in
    let at_a : slice_get (map caller ws) i ≡ Some (caller w) = slice_get-map caller ws i ∙ ap (option_map caller) at in
    let at_o : slice_get (map outcome ws) i ≡ Some (outcome w) = slice_get-map outcome ws i ∙ ap (option_map outcome) at in
    outcome_up s rounds most (outcome w) (slice_index_or before i (caller w)) (caller w) up (worked.each i (slice_index_or before i (caller w)) (caller w) (outcome w) at_b at_a at_o).result
