-- How calls overtake those that wait.
use Rattle.std.proofs.Common.{◌≡◌, ◌≤◌, ℕ, max, eqb, ◌&&◌, ◌||◌, not, cond, if◌then◌else◌, Bool, true, false, List, [], ◌∷◌, ◌++◌, Option, Some, None, inl, inr, refl, sym, ap, ◌∙◌, subst, arith}
use Rattle.std.specs.Prelude.{length, nat_le}
use Rattle.std.specs.Option.{is_some}
use Rattle.std.proofs.lemmas.Bool.{both_ways, eq-eqb}
use Rattle.pool_journal.specs.declared.answer.Answer.{Answer}
use Rattle.pool_journal.specs.declared.input.Input.{Input}
use Rattle.pool_journal.specs.declared.input.Input.TheVariants as inputs
use Rattle.pool_calls.specs.Rules as rules
use Rattle.pool_calls.specs.Operations.{is_waiting, step_at}
use Rattle.pool_calls.specs.Turns.{Turn}
use Rattle.pool_calls.specs.Waiting.{Queue, Waiter, can_pass, counts_overtake, is_due, is_in, is_limited, may_lend, newest, without}
use Rattle.pool_calls.specs.declared.kind.Kind.{Kind}
use Rattle.pool_calls.specs.declared.stage.Place.{Place}
use Rattle.pool_calls.specs.declared.stage.Place.TheVariants as places
use Rattle.pool_calls.specs.declared.operation.Operation.{Operation}
use Rattle.pool_host.specs.declared.call.Call.{Call}
use Rattle.pool_host.specs.Hosting.{HostedModel, Forgets, IsAvailable, Takes, available_in, handed, may_come_in, passed}
use Rattle.pool_host.specs.Overtaking.{CountsOvertakes, Course, Draws, Hears, Passes, Rests, finds, is_borrow, is_found, is_newcomer, others}
use Rattle.pool_host.proofs.Running.{forgets_none}

-- ---- what a call does, one thing after the other
module _ (caller at : ℕ) where
  pub counts_same : (d : HostedModel) (c : Call) → CountsOvertakes caller at d d c c
  counts_same d c = record { turns = []; course = (refl, refl) }

  pub counts_rest : (old new : HostedModel) (before after : Call) → Rests at old new before after → CountsOvertakes caller at old new before after
  counts_rest old new before after rests = record { turns = None ∷ []; course = (new, after, rests, (refl, refl)) }

  pub counts_pass : (t : Turn) (old new : HostedModel) (before after : Call) → Passes caller at t old new before after → CountsOvertakes caller at old new before after
  counts_pass t old new before after passes = record { turns = Some t ∷ []; course = (new, after, passes, (refl, refl)) }

  course_on : (ts us : List (Option Turn)) (a b c : HostedModel) (first mid last : Call) → Course caller at ts a b first mid → Course caller at us b c mid last → Course caller at (ts ++ us) a c first last
  course_on [] us a b c first mid last p q =
      let P : HostedModel → Type 0 = λ d. Course caller at us d c mid last in
      let Q : Call → Type 0 = λ x. Course caller at us a c x last in
      subst Q p.1 (subst P p.0 q)
  course_on (None ∷ ts) us a b c first mid last p q = (p.0, p.1, p.2, course_on ts us p.0 b c p.1 mid last p.3 q)
  course_on (Some t ∷ ts) us a b c first mid last p q = (p.0, p.1, p.2, course_on ts us p.0 b c p.1 mid last p.3 q)

  pub counts_on : (a b c : HostedModel) (first mid last : Call) → CountsOvertakes caller at a b first mid → CountsOvertakes caller at b c mid last → CountsOvertakes caller at a c first last
  counts_on a b c first mid last p q = record { turns = p.turns ++ q.turns; course = course_on p.turns q.turns a b c first mid last p.course q.course }

-- ---- the tickets of the others
pub others_same : (t u : Option ℕ) (ws vs : List Waiter) → u ≡ t → vs ≡ ws → others u vs ≡ others t ws
others_same t u ws vs ticket waiting = ap (λ x. others x vs) ticket ∙ ap (others t) waiting

-- a ticket that was drawn is no other's
without_drawn : (d n : ℕ) (ws : List Waiter) → is_in d ws ≡ false → without d (ws ++ newest d n ∷ []) ≡ ws
without_drawn d n [] fresh = ap (λ (b : Bool). cond (not b) (newest d n ∷ []) []) (eq-eqb d d refl)
without_drawn d n (w ∷ ws) fresh = by_test (eqb d w.ticket) fresh (without_drawn d n ws)
  where
    by_test : (b : Bool) → (b || is_in d ws) ≡ false → (is_in d ws ≡ false → without d (ws ++ newest d n ∷ []) ≡ ws)
        → cond (not b) (w ∷ without d (ws ++ newest d n ∷ [])) (without d (ws ++ newest d n ∷ [])) ≡ w ∷ ws
    by_test true is rest = absurd (cc is)
    by_test false is rest = ap (λ vs. w ∷ vs) (rest is)

pub others_drawn : (d n : ℕ) (t u : Option ℕ) (ws vs : List Waiter) → t ≡ None → u ≡ Some d → vs ≡ ws ++ newest d n ∷ [] → is_in d ws ≡ false → others u vs ≡ others t ws
others_drawn d n t u ws vs none some drawn fresh =
    ap (λ x. others x vs) some ∙ ap (without d) drawn ∙ without_drawn d n ws fresh ∙ sym (ap (λ x. others x ws) none)

-- one that has a ticket overtakes nobody
pub others_passed : (ticket : Option ℕ) (served there : Bool) (ws : List Waiter) → others ticket (passed (not (is_some ticket || served) && there) ws) ≡ passed (not (is_some ticket || served) && there) (others ticket ws)
others_passed None served there ws = refl
others_passed (Some t) served there ws = refl

pub no_ticket : (t : Option ℕ) → false ≡ is_some t → t ≡ None
no_ticket None none = refl
no_ticket (Some t) none = absurd (cc none)

-- ---- a call that waits asks for no step
never : (b : Bool) (A : Type 0) → b ≡ false → b ≡ true → A
never b A at_false at_true = absurd (both_ways b at_false at_true)

place_rests : (k : Kind) (place : Place) → rules.is_waiting place ≡ true → is_some (rules.step_at k place) ≡ false
place_rests k places.Waits is = refl
place_rests k _ is = absurd (cc is)

call_rests : (o : Operation) → is_waiting o ≡ true → is_some (step_at o) ≡ false
call_rests o is = place_rests o.kind o.place is

pub asking_waits : (o : Operation) (A : Type 0) → is_some (step_at o) ≡ true → is_waiting o ≡ true → A
asking_waits o A asks waits = never (is_some (step_at o)) A (call_rests o waits) asks

-- ---- a call without a step
-- a ticket that stays was not drawn
pub draws_none : (t u : Option ℕ) (A : Type 0) → u ≡ t → is_some u ≡ true → t ≡ None → A
draws_none t u A same has none = never (is_some u) A (ap is_some (same ∙ none)) has

-- it has drawn a ticket
pub rests_drawn : (at d : ℕ) (old new : HostedModel) (before after : Call) → new.core ≡ old.core → new.drops ≡ old.drops → after.was_served ≡ before.was_served → is_waiting after.operation ≡ true → before.ticket ≡ None → after.ticket ≡ Some d → new.queue.waiting ≡ old.queue.waiting ++ newest d (max at old.queue.latest) ∷ [] → new.queue.latest ≡ max at old.queue.latest → is_in d old.queue.waiting ≡ false → Rests at old new before after
rests_drawn at d old new before after core drops served waits none some drawn latest fresh = record {
  core = forgets_none old.drops old.core new.core core;
  drops = drops;
  served = served;
  others = others_drawn d (max at old.queue.latest) before.ticket after.ticket old.queue.waiting new.queue.waiting none some drawn fresh;
  draws = λ has had_none. record { waits = waits; last = λ t is. last t (sym some ∙ is) };
  latest = omega (arith, latest);
  waits = λ has waited. waits;
}
  where
    last : (t : ℕ) → Some d ≡ Some t → new.queue.waiting ≡ old.queue.waiting ++ newest t (max at old.queue.latest) ∷ []
    last t is = subst (λ (n : ℕ). new.queue.waiting ≡ old.queue.waiting ++ newest n (max at old.queue.latest) ∷ []) (cc is) drawn

-- it has neither drawn a ticket nor left
pub rests_kept : (at : ℕ) (old new : HostedModel) (before after : Call) → Forgets old.drops old.core new.core → new.drops ≡ old.drops → after.was_served ≡ before.was_served → (is_waiting before.operation ≡ true → is_waiting after.operation ≡ true) → after.ticket ≡ before.ticket → new.queue.waiting ≡ old.queue.waiting → new.queue.latest ≡ old.queue.latest → Rests at old new before after
rests_kept at old new before after core drops served waits ticket waiting latest = record {
  core = core;
  drops = drops;
  served = served;
  others = others_same before.ticket after.ticket old.queue.waiting new.queue.waiting ticket waiting;
  draws = λ has none. draws_none before.ticket after.ticket (Draws at old.queue new.queue after) ticket has none;
  latest = omega (arith, latest);
  waits = λ has waited. waits waited;
}

-- it queued before
pub rests_queued : (at : ℕ) (queued : Operation) (old new : HostedModel) (before after : Call) → is_some (step_at before.operation) ≡ true → Rests at old new (record before { operation = queued }) after → Rests at old new before after
rests_queued at queued old new before after asks p = record {
  core = p.core;
  drops = p.drops;
  served = p.served;
  others = p.others;
  draws = p.draws;
  latest = p.latest;
  waits = λ has waited. asking_waits before.operation (is_waiting after.operation ≡ true) asks waited;
}

-- it has heard a report
pub rests_heard : (at token : ℕ) (old new : HostedModel) (before after : Call) → Hears old new before after → Rests at old new (record before { operation = after.operation; token = token }) after
rests_heard at token old new before after p = record {
  core = p.core;
  drops = p.drops;
  served = p.served;
  others = p.others;
  draws = λ has none. draws_none before.ticket after.ticket (Draws at old.queue new.queue after) (p.draws_none has) has none;
  latest = omega (arith, p.latest);
  waits = λ has waited. waited;
}

-- a step that is none of a borrow's asking
pub passes_other : (caller at : ℕ) (input : Input) (answer : Answer) (out : Option ℕ) (old new : HostedModel) (before after : Call) → is_borrow input ≡ false → step_at before.operation ≡ Some input → Takes caller at input (handed input before.token) old.drops old.core new.core answer out → new.drops ≡ old.drops → after.was_served ≡ before.was_served → after.ticket ≡ before.ticket → new.queue.waiting ≡ old.queue.waiting → new.queue.latest ≡ old.queue.latest → CountsOvertakes caller at old new before after
passes_other caller at input answer out old new before after other asked takes drops served ticket waiting latest =
    let none : finds input answer ≡ false = ap (λ b. b && is_found answer) other in
    counts_pass caller at (record { input = input; answer = answer }) old new before after (record {
      asked = asked;
      out = out;
      takes = takes;
      drops = drops;
      served = served ∙ ap (λ b. b || before.was_served) (sym none);
      draws = λ has had_none. draws_none before.ticket after.ticket (Draws at old.queue new.queue after) ticket has had_none;
      latest = omega (arith, latest);
      may = λ found newcomer. never (finds input answer) (may_lend (available_in old.core) at old.queue ≡ true) none found;
      others =
          others_same before.ticket after.ticket old.queue.waiting new.queue.waiting ticket waiting
          ∙ ap (λ b. passed (b && is_newcomer before && counts_overtake (available_in old.core) at old.queue) (others before.ticket old.queue.waiting)) (sym none);
    })

-- ---- what is there for a newcomer
none_of : (ws : List Waiter) → length ws ≡ 0 → ws ≡ []
none_of [] none = refl
none_of (w ∷ ws) none = absurd (cc none)

-- while nobody waits a newcomer may come, and overtakes nobody
counts_alone : (available at : ℕ) (q : Queue) → length q.waiting ≡ 0 → counts_overtake available at q ≡ false
counts_alone available at q none = ap (λ ws. is_due q.millis at ws && nat_le available (length q.waiting)) (none_of q.waiting none)

may_alone : (available at : ℕ) (q : Queue) → length q.waiting ≡ 0 → may_lend available at q ≡ true
may_alone available at q none = ap (λ b. not b || can_pass q.overtakes q.most q.waiting) (counts_alone available at q none)

may_come_alone : (available at : ℕ) (d : HostedModel) → length d.queue.waiting ≡ 0 → may_come_in available at d ≡ true
may_come_alone available at d none = by_test d.holds_back (is_limited d.queue) (counts_overtake available at d.queue) (counts_alone available at d.queue none) (may_alone available at d.queue none)
  where
    by_test : (held limited counts : Bool) → counts ≡ false → may_lend available at d.queue ≡ true → (if held && limited && counts then false else may_lend available at d.queue) ≡ true
    by_test held limited true is may = absurd (cc is)
    by_test true true false is may = may
    by_test true false false is may = may
    by_test false limited false is may = may

may_of : (held may : Bool) → (if held then false else may) ≡ true → may ≡ true
may_of true may is = absurd (cc is)
may_of false may is = is

pub may_there : (available at : ℕ) (d : HostedModel) → IsAvailable d available → may_come_in available at d ≡ true → may_lend (available_in d.core) at d.queue ≡ true
may_there available at d (inl none) may = may_alone (available_in d.core) at d.queue none
may_there available at d (inr is) may = ap (λ n. may_lend n at d.queue) (sym is) ∙ may_of _ (may_lend available at d.queue) may

pub counts_there : (available at : ℕ) (d : HostedModel) → IsAvailable d available → counts_overtake available at d.queue ≡ counts_overtake (available_in d.core) at d.queue
counts_there available at d (inl none) = counts_alone available at d.queue none ∙ sym (counts_alone (available_in d.core) at d.queue none)
counts_there available at d (inr is) = ap (λ n. counts_overtake n at d.queue) is

-- ---- a borrow that asks
pub newcomer_of : (c : Call) → c.ticket ≡ None → c.was_served ≡ false → is_newcomer c ≡ true
newcomer_of c none unserved = ap (λ t. not (is_some t || c.was_served)) none ∙ ap not unserved

pub may_lend_of : (available at : ℕ) (d : HostedModel) → may_come_in available at d ≡ true → may_lend available at d.queue ≡ true
may_lend_of available at d may = may_of _ (may_lend available at d.queue) may

pub may_as : (early may : Bool) → true ≡ (early || may) → not early ≡ true → may ≡ true
may_as true may is newcomer = absurd (cc newcomer)
may_as false may is newcomer = sym is

pub passes_asked : (caller at began available : ℕ) (answer : Answer) (out : Option ℕ) (old mid new : HostedModel) (before step after : Call) → step_at before.operation ≡ Some (inputs.Borrow began) → IsAvailable old available → (is_newcomer before ≡ true → may_come_in available at old ≡ true) → Takes caller at (inputs.Borrow began) (handed (inputs.Borrow began) before.token) old.drops old.core mid.core answer out → mid.drops ≡ old.drops → mid.queue ≡ old.queue → step.ticket ≡ before.ticket → step.was_served ≡ before.was_served → new.core ≡ mid.core → new.drops ≡ mid.drops → after.was_served ≡ (is_found answer || step.was_served) → (is_some after.ticket ≡ true → step.ticket ≡ None → Draws at mid.queue new.queue after) → new.queue.latest ≤ max at mid.queue.latest → others after.ticket new.queue.waiting ≡ passed (is_found answer && is_newcomer step && counts_overtake available at mid.queue) (others step.ticket mid.queue.waiting) → CountsOvertakes caller at old new before after
passes_asked caller at began available answer out old mid new before step after asked there may takes drops queue ticket turn core kept served draws latest passes =
    let input : Input = inputs.Borrow began in
    let C : _ → Type 0 = λ m. Takes caller at input (handed input before.token) old.drops old.core m answer out in
    counts_pass caller at (record { input = input; answer = answer }) old new before after (record {
      asked = asked;
      out = out;
      takes = subst C (sym core) takes;
      drops = kept ∙ drops;
      served = served ∙ ap (λ s. is_found answer || s) turn;
      draws = λ has none. subst (λ (q : Queue). Draws at q new.queue after) queue (draws has (ticket ∙ none));
      latest = subst (λ (q : Queue). new.queue.latest ≤ max at q.latest) queue latest;
      may = λ found newcomer. may_there available at old there (may newcomer);
      others =
          passes
          ∙ ap (λ t. passed (is_found answer && not (is_some t || step.was_served) && counts_overtake available at mid.queue) (others t mid.queue.waiting)) ticket
          ∙ ap (λ s. passed (is_found answer && not (is_some before.ticket || s) && counts_overtake available at mid.queue) (others before.ticket mid.queue.waiting)) turn
          ∙ ap (λ q. passed (is_found answer && is_newcomer before && counts_overtake available at q) (others before.ticket q.waiting)) queue
          ∙ ap (λ b. passed (is_found answer && is_newcomer before && b) (others before.ticket old.queue.waiting)) (counts_there available at old there);
    })

-- what a borrow does before it asks
pub counts_reserved : (caller at : ℕ) (a b c : HostedModel) (first last : Call) → b ≡ record a { queue = b.queue } → b.queue.waiting ≡ a.queue.waiting → b.queue.latest ≡ a.queue.latest → CountsOvertakes caller at b c first last → CountsOvertakes caller at a c first last
counts_reserved caller at a b c first last same waiting latest p =
    let rests = rests_kept at a b first first (forgets_none a.drops a.core b.core (ap (λ d. d.core) same)) (ap (λ d. d.drops) same) refl (λ waits. waits) refl waiting latest in
    counts_on caller at a b c first first last (counts_rest caller at a b first first rests) p

-- the greatest time says nothing of the tickets
pub counts_later : (time caller at : ℕ) (old new : HostedModel) (before after : Call) → CountsOvertakes caller at old new before after → CountsOvertakes caller at old (record new { last = time }) before after
counts_later time caller at old new before after p =
    let rests = rests_kept at new (record new { last = time }) after after (forgets_none new.drops new.core new.core refl) refl refl (λ waits. waits) refl refl refl in
    counts_on caller at old new (record new { last = time }) before after after p (counts_rest caller at new (record new { last = time }) after after rests)
