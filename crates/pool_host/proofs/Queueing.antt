-- The tickets after a call has waited, left, or overtaken the others.
use Rattle.std.proofs.Common.{◌≡◌, ℕ, eqb, ◌&&◌, ◌||◌, not, cond, if◌then◌else◌, Bool, true, false, List, [], ◌∷◌, ◌++◌, Option, Some, None, refl, sym, ap, ◌∙◌, subst}
use Rattle.std.specs.Prelude.{map}
use Rattle.std.proofs.lemmas.Bool.{eqb-true, eq-eqb, both_ways}
use Rattle.std.proofs.lemmas.List.Folds.{list_any-append}
use Rattle.pool_calls.specs.Waiting.{Queue, Waiter, counts_overtake, is_in, without, newest, overtaken_once}
use Rattle.pool_host.specs.Queueing.{HoldsTicket, Queues, is_ticket}

-- ---- which tickets are in a list
in_without : (t s : ℕ) (ws : List Waiter) → is_in t (without s ws) ≡ (not (eqb t s) && is_in t ws)
in_without t s [] = by_test (eqb t s)
  where
    by_test : (b : Bool) → false ≡ (not b && false)
    by_test true = refl
    by_test false = refl
in_without t s (w ∷ ws) = by_tests (eqb t s) (eqb s w.ticket) (λ same. ap (eqb t) (sym (eqb-true s w.ticket same))) (λ same. ap (λ n. eqb n w.ticket) (eqb-true t s same)) (in_without t s ws)
  where
    by_tests : (a b : Bool) → (b ≡ true → eqb t w.ticket ≡ a) → (a ≡ true → eqb t w.ticket ≡ b) → is_in t (without s ws) ≡ (not a && is_in t ws)
        → is_in t (cond (not b) (w ∷ without s ws) (without s ws)) ≡ (not a && (eqb t w.ticket || is_in t ws))
    by_tests true true p q rest = rest
    by_tests false true p q rest = rest ∙ ap (λ x. x || is_in t ws) (sym (p refl))
    by_tests true false p q rest = ap (λ x. x || is_in t (without s ws)) (q refl) ∙ rest
    by_tests false false p q rest = ap (λ x. eqb t w.ticket || x) rest

or_false : (b : Bool) → (b || false) ≡ b
or_false true = refl
or_false false = refl

or_turned : (a b : Bool) → (a || b) ≡ (b || a)
or_turned true true = refl
or_turned true false = refl
or_turned false true = refl
or_turned false false = refl

in_pushed : (t d n : ℕ) (ws : List Waiter) → is_in t (ws ++ newest d n ∷ []) ≡ (eqb t d || is_in t ws)
in_pushed t d n ws =
    list_any-append (λ w. eqb t w.ticket) ws (newest d n ∷ []) ∙ ap (λ b. is_in t ws || b) (or_false (eqb t d)) ∙ or_turned (is_in t ws) (eqb t d)

in_overtaken : (t : ℕ) (ws : List Waiter) → is_in t (map overtaken_once ws) ≡ is_in t ws
in_overtaken t [] = refl
in_overtaken t (w ∷ ws) = ap (λ b. eqb t w.ticket || b) (in_overtaken t ws)

-- ---- one change
own_waits : (q : Queue) (ticket : Option ℕ) → HoldsTicket q ticket → (t : ℕ) → is_in t q.waiting ≡ (is_ticket t ticket || (not (is_ticket t ticket) && is_in t q.waiting))
own_waits q None holds t = refl
own_waits q (Some s) holds t = by_test (eqb t s) (λ same. ap (λ n. is_in n q.waiting) (eqb-true t s same) ∙ holds)
  where
    by_test : (b : Bool) → (b ≡ true → is_in t q.waiting ≡ true) → is_in t q.waiting ≡ (b || (not b && is_in t q.waiting))
    by_test true is = is refl
    by_test false is = refl

none_fresh : (b : Bool) (A : Type 0) → b ≡ false → b ≡ true → A
none_fresh b A at_false at_true = absurd (both_ways b at_false at_true)

pub queues_kept : (ticket : Option ℕ) (old new : Queue) → new.most ≡ old.most → ((t : ℕ) → is_in t new.waiting ≡ is_in t old.waiting) → Queues ticket ticket old new
queues_kept ticket old new most same = record {
  most = most;
  waits = λ holds t. same t ∙ own_waits old ticket holds t;
  fresh = λ holds t before after. none_fresh (is_ticket t ticket) (is_in t old.waiting ≡ false) before after;
}

pub queues_same : (ticket : Option ℕ) (old new : Queue) → new.most ≡ old.most → new.waiting ≡ old.waiting → Queues ticket ticket old new
queues_same ticket old new most same = queues_kept ticket old new most (λ t. ap (is_in t) same)

pub queues_lent : (available at : ℕ) (ticket : Option ℕ) (old new : Queue) → new.most ≡ old.most → new.waiting ≡ (if counts_overtake available at old then map overtaken_once old.waiting else old.waiting) → Queues ticket ticket old new
queues_lent available at ticket old new most is = by_test (counts_overtake available at old) is
  where
    by_test : (b : Bool) → new.waiting ≡ (if b then map overtaken_once old.waiting else old.waiting) → Queues ticket ticket old new
    by_test true is = queues_kept ticket old new most (λ t. ap (is_in t) is ∙ in_overtaken t old.waiting)
    by_test false is = queues_same ticket old new most is

pub queues_left : (s : ℕ) (old new : Queue) → new.most ≡ old.most → new.waiting ≡ without s old.waiting → Queues (Some s) None old new
queues_left s old new most is = record {
  most = most;
  waits = λ holds t. ap (is_in t) is ∙ in_without t s old.waiting;
  fresh = λ holds t before after. none_fresh false (is_in t old.waiting ≡ false) refl after;
}

pub queues_drawn : (d n : ℕ) (old new : Queue) → new.most ≡ old.most → new.waiting ≡ old.waiting ++ newest d n ∷ [] → is_in d old.waiting ≡ false → Queues None (Some d) old new
queues_drawn d n old new most is fresh = record {
  most = most;
  waits = λ holds t. ap (is_in t) is ∙ in_pushed t d n old.waiting;
  fresh = λ holds t before after. ap (λ n. is_in n old.waiting) (eqb-true t d after) ∙ fresh;
}

pub queues_leave : (ticket : Option ℕ) (s : ℕ) (old new : Queue) → ticket ≡ Some s → new.most ≡ old.most → new.waiting ≡ without s old.waiting → Queues ticket None old new
queues_leave ticket s old new is most left = let P : Option ℕ → Type 0 = λ t. Queues t None old new in subst P (sym is) (queues_left s old new most left)

pub queues_draw : (ticket after : Option ℕ) (d n : ℕ) (old new : Queue) → ticket ≡ None → after ≡ Some d → new.most ≡ old.most → new.waiting ≡ old.waiting ++ newest d n ∷ [] → is_in d old.waiting ≡ false → Queues ticket after old new
queues_draw ticket after d n old new none some most drawn fresh =
    let P : Option ℕ → Type 0 = λ t. Queues t after old new in
    let Q : Option ℕ → Type 0 = λ t. Queues None t old new in
    subst P (sym none) (subst Q (sym some) (queues_drawn d n old new most drawn fresh))

-- ---- one change after the other
true_or : (b c : Bool) → b ≡ true → (b || c) ≡ true
true_or b c is = ap (λ x. x || c) is

own_ticket : (s : ℕ) → eqb s s ≡ true
own_ticket s = eq-eqb s s refl

holds_after : (before after : Option ℕ) (old new : Queue) → Queues before after old new → HoldsTicket old before → HoldsTicket new after
holds_after before None old new moves holds = tt
holds_after before (Some s) old new moves holds = moves.waits holds s ∙ true_or (eqb s s) _ (own_ticket s)

joined : (p q r o : Bool) → (p ≡ false → q ≡ true → o ≡ false) → (r || (not q && (q || (not p && o)))) ≡ (r || (not p && o))
joined p q true o fresh = refl
joined true true false o fresh = refl
joined false true false o fresh = sym (fresh refl refl)
joined p false false o fresh = refl

pub queues_on : (p q r : Option ℕ) (a b c : Queue) → Queues p q a b → Queues q r b c → Queues p r a c
queues_on p q r a b c first second = record {
  most = second.most ∙ first.most;
  waits = λ holds t.
      second.waits (holds_after p q a b first holds) t ∙ ap (λ x. is_ticket t r || (not (is_ticket t q) && x)) (first.waits holds t)
      ∙ joined (is_ticket t p) (is_ticket t q) (is_ticket t r) (is_in t a.waiting) (first.fresh holds t);
  fresh = λ holds t before after. by_mid (is_ticket t q) holds t before after refl;
}
  where
    by_mid : (m : Bool) → HoldsTicket a p → (t : ℕ) → is_ticket t p ≡ false → is_ticket t r ≡ true → is_ticket t q ≡ m → is_in t a.waiting ≡ false
    by_mid true holds t before after mid = first.fresh holds t before mid
    by_mid false holds t before after mid =
        let F : Bool → Bool → Type 0 = λ x y. is_in t b.waiting ≡ (x || (not y && is_in t a.waiting)) in
        let here : is_in t b.waiting ≡ is_in t a.waiting = subst (λ y. F false y) before (subst (λ x. F x (is_ticket t p)) mid (first.waits holds t)) in
        sym here ∙ second.fresh (holds_after p q a b first holds) t mid after
