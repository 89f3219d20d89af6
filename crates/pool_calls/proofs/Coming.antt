-- A call comes on by each event that fits: each step that it asks for is expected.
use Rattle.std.proofs.Common.{◌≡◌, ℕ, ◌+◌, Bool, true, false, cond, List, [], ◌∷◌, ◌++◌, refl, ap, sym, ◌∙◌, subst, arith}
use Rattle.std.specs.Prelude.{count_by, ◌&&◌}
use Rattle.std.proofs.lemmas.List.Sums.{sum_by_push}
use Rattle.pool_journal.specs.declared.input.Input.{Input}
use Rattle.pool_journal.specs.declared.input.Input.TheVariants as inputs
use Rattle.pool_journal.specs.declared.input.Outcome.{Outcome}
use Rattle.pool_journal.specs.declared.answer.Answer.{Answer}
use Rattle.pool_calls.specs.declared.action.Event.{Event}
use Rattle.pool_calls.specs.declared.action.Event.TheVariants as events
use Rattle.pool_calls.specs.declared.kind.Kind.{Kind}
use Rattle.pool_calls.specs.declared.kind.Kind.TheVariants as kinds
use Rattle.pool_calls.specs.declared.hook_plan.HookPlan.{HookPlan}
use Rattle.pool_calls.specs.declared.stage.Stage.{Stage}
use Rattle.pool_calls.specs.declared.stage.Request.TheVariants as requests
use Rattle.pool_calls.specs.declared.stage.Place.{Place}
use Rattle.pool_calls.specs.declared.stage.Place.TheVariants as places
use Rattle.pool_calls.specs.declared.call_counts.CallCounts.{CallCounts}
use Rattle.pool_calls.specs.Steps.{report_of, outcome_of, is_borrow, is_counted, is_freed}
use Rattle.pool_calls.specs.Table.{after_report}
use Rattle.pool_calls.specs.Tasks.{allows, work_of}
use Rattle.pool_calls.specs.Rules as rules
use Rattle.pool_calls.specs.Rules.{IsAt, IsExpected, IsReport, GoesOn, first_stage, next, stage_after, step_at, step_for, has_step}
use Rattle.pool_calls.specs.Counting.{capped, one_more, counts_after, counts_of}
use Rattle.pool_calls.specs.Turns.{Turn, run_stages, AllExpected, add_turn, turns_after}

pub outcome_reported : (k : Kind) (i : ℕ) (o : Outcome) → outcome_of (report_of k i o) ≡ o
outcome_reported (kinds.Borrow began) i o = refl
outcome_reported (kinds.Return j) i o = refl
outcome_reported kinds.Add i o = refl
outcome_reported kinds.Fill i o = refl
outcome_reported _ i o = refl

-- the report of an outcome that the work may have is one
pub is_report : (p : HookPlan) (k : Kind) (new : Bool) (i : ℕ) (o : Outcome) → allows (work_of p k new) o ≡ true → IsReport k (work_of p k new) i (report_of k i o)
is_report p k new i o may =
    let e = outcome_reported k i o in
    (ap (report_of k i) (sym e), subst (λ (x : Outcome). allows (work_of p k new) x ≡ true) (sym e) may)

-- ---- one more turn
module _ (p : HookPlan) (k : Kind) where
  run_on : (from : Stage) (ts : List Turn) (t : Turn) → run_stages (next k) from (ts ++ t ∷ []) ≡ next k (run_stages (next k) from ts) t
  run_on from [] t = refl
  run_on from (u ∷ us) t = run_on (next k from u) us t

  expected_on : (from : Stage) (ts : List Turn) (t : Turn) → AllExpected (IsExpected p k) (next k) from ts → IsExpected p k (run_stages (next k) from ts) t.input → AllExpected (IsExpected p k) (next k) from (ts ++ t ∷ [])
  expected_on from [] t all one = (one, tt)
  expected_on from (u ∷ us) t all one = (all.0, expected_on (next k from u) us t all.1 one)

  -- the turns are expected, and lead to a stage of this place
  abbrev pub Reaches : Place → List Turn → Type 0
  Reaches place ts = AllExpected (IsExpected p k) (next k) (first_stage p k) ts × IsAt p k place (run_stages (next k) (first_stage p k) ts)

  one_on : (input : Input) (a : Answer) (after : Place) (s : Stage) (ts : List Turn) → AllExpected (IsExpected p k) (next k) (first_stage p k) ts → IsExpected p k (run_stages (next k) (first_stage p k) ts) input
      → next k (run_stages (next k) (first_stage p k) ts) (record { input = input; answer = a }) ≡ s → IsAt p k after s → Reaches after (ts ++ record { input = input; answer = a } ∷ [])
  one_on input a after s ts all one is at =
      let t : Turn = record { input = input; answer = a } in
      let P : Stage → Type 0 = IsAt p k after in
      (expected_on (first_stage p k) ts t all one, subst P (sym (run_on (first_stage p k) ts t ∙ is)) at)

  answered : (a : Answer) (before after : Place) (ts : List Turn) → has_step before ≡ true → IsAt p k after (stage_after k before a) → Reaches before ts → Reaches after (add_turn (step_at k before) a ts)
  answered a (places.Asks request) after ts fits goes (all, at) =
      let P : Stage → Type 0 = λ s. IsExpected p k s (step_for k request) in
      one_on (step_for k request) a after _ ts all (subst P (sym at) refl) (ap (λ s. next k s (record { input = step_for k request; answer = a })) at) goes
  answered a (places.Reports o object) after ts fits goes (all, at) =
      let input : Input = report_of k object.id o in
      let P : Stage → Type 0 = λ s. IsExpected p k s input in
      one_on input a after _ ts all (subst P (sym at.0) (is_report p k object.is_new object.id o at.1)) (ap (λ s. next k s (record { input = input; answer = a })) at.0 ∙ ap (λ x. after_report k object x a) (outcome_reported k object.id o)) goes
  answered a (places.Frees o object) after ts fits goes (all, at) =
      let input : Input = inputs.Destroyed object.id in
      let P : Stage → Type 0 = λ s. IsExpected p k s input in
      one_on input a after _ ts all (subst P (sym at) refl) (ap (λ s. next k s (record { input = input; answer = a })) at) goes
  answered a _ after ts fits goes come = absurd (cc)

  pub comes_on : (event : Event) (given_up : Bool) (before after : Place) (ts : List Turn) → true ≡ rules.fits k given_up before event → GoesOn p k event before after → Reaches before ts → Reaches after (turns_after (step_at k before) event ts)
  comes_on (events.Answered a) given_up before after ts fits goes come = answered a before after ts (sym fits) goes come
  comes_on _ given_up before after ts fits goes come = (come.0, goes _ come.1)

-- ---- the counts
capped_on : (n b : ℕ) → capped (capped n + b) ≡ capped (n + b)
capped_on n b = omega arith

count_on : (p : Turn → Bool) (ts : List Turn) (t : Turn) → capped (capped (count_by p ts) + cond (p t) 1 0) ≡ capped (count_by p (ts ++ t ∷ []))
count_on p ts t = capped_on (count_by p ts) (cond (p t) 1 0) ∙ ap capped (sym (sum_by_push (λ u. cond (p u) 1 0) ts t))

module _ (k : Kind) where
  more : (input : Input) (a : Answer) (ts : List Turn) → one_more k a (counts_of k ts) ≡ counts_of k (ts ++ record { input = input; answer = a } ∷ [])
  more input a ts =
      let t : Turn = record { input = input; answer = a } in
      let was : CallCounts = one_more k a (counts_of k ts) in
      let objects : was.objects ≡ (counts_of k (ts ++ t ∷ [])).objects = count_on (λ u. is_counted k u.answer) ts t in
      let freed : was.freed ≡ (counts_of k (ts ++ t ∷ [])).freed = count_on (λ u. is_freed u.answer) ts t in
      let P : ℕ → CallCounts = λ n. record { objects = n; freed = was.freed } in
      let Q : ℕ → CallCounts = λ n. record { objects = (counts_of k (ts ++ t ∷ [])).objects; freed = n } in
      ap P objects ∙ ap Q freed

  more_answered : (a : Answer) (before : Place) (ts : List Turn) → has_step before ≡ true → one_more k a (counts_of k ts) ≡ counts_of k (add_turn (step_at k before) a ts)
  more_answered a (places.Asks request) ts fits = more (step_for k request) a ts
  more_answered a (places.Reports o object) ts fits = more (report_of k object.id o) a ts
  more_answered a (places.Frees o object) ts fits = more (inputs.Destroyed object.id) a ts
  more_answered a _ ts fits = absurd (cc)

  pub counts_on : (event : Event) (given_up : Bool) (before : Place) (ts : List Turn) → true ≡ rules.fits k given_up before event → counts_after k event (counts_of k ts) ≡ counts_of k (turns_after (step_at k before) event ts)
  counts_on (events.Answered a) given_up before ts fits = more_answered a before ts (sym fits)
  counts_on _ given_up before ts fits = refl

-- ---- waits
asking_borrows : (k : Kind) (place : Place) (b : Bool) → (rules.is_asking k place && b) ≡ true → is_borrow k ≡ true
asking_borrows k (places.Asks requests.Ask) b is = both (is_borrow k) b is
  where
    both : (x y : Bool) → (x && y) ≡ true → x ≡ true
    both true y is = refl
    both false y is = absurd (cc is)
asking_borrows k _ b is = absurd (cc is)

pub waiting_borrows : (k : Kind) (event : Event) (before : Place) → rules.comes_to_wait k event before ≡ true → is_borrow k ≡ true
waiting_borrows k (events.Answered a) before is = asking_borrows k before (rules.is_wait a) is
waiting_borrows k events.Queued before is = asking_borrows k before true (and_true (rules.is_asking k before) is)
  where
    and_true : (x : Bool) → x ≡ true → (x && true) ≡ true
    and_true true is = refl
    and_true false is = absurd (cc is)
waiting_borrows k _ before is = absurd (cc is)
