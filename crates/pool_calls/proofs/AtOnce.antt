-- A borrow and a return of whose objects the host is asked nothing come to their ends by two answers.
use Rattle.std.proofs.Common.{◌≡◌, ℕ, ◌+◌, Bool, true, false, cond, List, [], map, Some, refl, ap, sym, ◌∙◌, subst, arith, inl}
use Rattle.pool_journal.specs.declared.input.Input.TheVariants as inputs
use Rattle.pool_journal.specs.declared.input.Outcome.TheVariants as outcomes
use Rattle.pool_journal.specs.declared.answer.Answer.{Answer}
use Rattle.pool_journal.specs.declared.answer.Answer.TheVariants as answers
use Rattle.pool_calls.specs.declared.action.End.{End}
use Rattle.pool_calls.specs.declared.action.Event.TheVariants as events
use Rattle.pool_calls.specs.declared.action.End.TheVariants as ends
use Rattle.pool_calls.specs.declared.kind.Kind.{Kind}
use Rattle.pool_calls.specs.declared.kind.Kind.TheVariants as kinds
use Rattle.pool_calls.specs.declared.operation.Operation.{Operation}
use Rattle.pool_calls.specs.declared.hook_plan.HookPlan.{HookPlan}
use Rattle.pool_calls.specs.declared.stage.Object.{Object}
use Rattle.pool_calls.specs.declared.stage.Place.{Place}
use Rattle.pool_calls.specs.declared.stage.Place.TheVariants as places
use Rattle.pool_calls.specs.declared.stage.Request.TheVariants as requests
use Rattle.pool_calls.specs.declared.stage.Stage.TheVariants as stages
use Rattle.pool_calls.specs.declared.call_counts.CallCounts.{CallCounts}
use Rattle.pool_calls.specs.AtOnce.{Goes, GoesTwice, IsLent, IsParked}
use Rattle.pool_calls.specs.Operations.{HasCome, Proceeds, Reached, step_at}
use Rattle.pool_calls.specs.Progress.{Takes}
use Rattle.pool_calls.specs.Rules as rules
use Rattle.pool_calls.specs.Rules.{work_due, work_left}
use Rattle.pool_calls.specs.Steps.{is_counted, is_freed, report_of}
use Rattle.pool_calls.specs.Counting.{capped, one_more, counts_of}
use Rattle.pool_calls.specs.Tasks.{action_of, in_order}
use Rattle.pool_calls.specs.Turns.{Turn, turns_after}
use Rattle.pool_calls.proofs.Coming.{Reaches, comes_on, counts_on}
use Rattle.pool_calls.proofs.Nearing.{answer_nears}

-- ---- an answer that is not counted
none_more : (n : ℕ) (b : Bool) → b ≡ false → capped (capped n + cond b 1 0) ≡ capped n
none_more n true is = absurd (cc is)
none_more n false is = omega arith

uncounted : (k : Kind) (a : Answer) (turns : List Turn) → is_counted k a ≡ false → is_freed a ≡ false → one_more k a (counts_of k turns) ≡ counts_of k turns
uncounted k a turns counted freed =
    let t = counts_of k turns in
    let more = one_more k a t in
    let objects : more.objects ≡ t.objects = none_more _ (is_counted k a) counted in
    let places : more.freed ≡ t.freed = none_more _ (is_freed a) freed in
    let P : ℕ → CallCounts = λ n. record { objects = n; freed = more.freed } in
    let Q : ℕ → CallCounts = λ n. record { objects = t.objects; freed = n } in
    ap P objects ∙ ap Q places

-- the call after it, with the same counts
reached : (op : Operation) (a : Answer) (after : Place) (turns : List Turn) → Takes op.plan op.kind op.given_up (events.Answered a) op.place after → rules.has_step op.place ≡ true → is_counted op.kind a ≡ false → is_freed a ≡ false → Reached op turns
    → Reaches op.plan op.kind after (turns_after (step_at op) (events.Answered a) turns) × (op.counts ≡ counts_of op.kind (turns_after (step_at op) (events.Answered a) turns))
reached op a after turns takes fits counted freed come = (
  comes_on op.plan op.kind (events.Answered a) op.given_up op.place after turns (sym fits) takes.goes (come.expected, come.at),
  come.counts ∙ sym (uncounted op.kind a turns counted freed) ∙ counts_on op.kind (events.Answered a) op.given_up op.place turns (sym fits),
)

goes : (op after : Operation) (a : Answer) → after.kind ≡ op.kind → after.plan ≡ op.plan → after.given_up ≡ op.given_up → after.counts ≡ op.counts → Takes op.plan op.kind op.given_up (events.Answered a) op.place after.place
    → rules.has_step op.place ≡ true → is_counted op.kind a ≡ false → is_freed a ≡ false → rules.lacks_room after.place ≡ false → Goes a op after
unfolding HasCome Proceeds
goes op after a kind plan given counts takes fits counted freed room = record {
  comes = λ turns come.
      let all = reached op a after.place turns takes fits counted freed come in
      let last = turns_after (step_at op) (events.Answered a) turns in
      let P : HookPlan → Type 0 = λ p. Reaches p op.kind after.place last in
      let Q : Kind → Type 0 = λ k. Reaches after.plan k after.place last in
      let came = subst Q (sym kind) (subst P (sym plan) all.0) in
      record { expected = came.0; at = came.1; counts = counts ∙ all.1 ∙ ap (λ k. counts_of k last) (sym kind) };
  proceeds = record { kind = kind; plan = plan; given_up = given; takes = takes };
  room = room;
}

-- ---- the answers
-- work of which nothing is set
no_work : (i : ℕ) (activate test passivate : Bool) → activate ≡ false → test ≡ false → passivate ≡ false
    → [] ≡ map (action_of i) (in_order (record { make = false; test_new = false; activate = activate; test = test; passivate = passivate }))
no_work i false false false a t p = refl
no_work i true test passivate a t p = absurd (cc a)
no_work i false true passivate a t p = absurd (cc t)
no_work i false false true a t p = absurd (cc p)

module _ (p : HookPlan) (i : ℕ) where
  -- the object that it works on
  abbrev object : Object
  object = record { id = i; is_new = false; left = 0 }

  abbrev good : Place
  good = places.Reports outcomes.Good object

  takes_borrowed : (b : ℕ) → p.activates ≡ false → p.test_on_borrow ≡ false → Takes p (kinds.Borrow b) false (events.Answered (answers.Take i)) (places.Asks requests.Ask) good
  takes_borrowed b activates tests =
      let k : Kind = kinds.Borrow b in
      let none : work_left p k good ≡ work_due p k (stages.Works object) = no_work i p.activates p.test_on_borrow false activates tests refl in
      let near = answer_nears p k (answers.Take i) (places.Asks requests.Ask) good (stages.Works object) tt refl refl refl (refl, refl) none in
      record { goes = (refl, refl); works = none; ends = (λ given. absurd (cc given), tt); pauses = (refl, refl, tt); nears = near.0; steps = near.1 }

  takes_lent : (b : ℕ) → Takes p (kinds.Borrow b) false (events.Answered answers.Lent) good (places.Ended (ends.Lent i))
  takes_lent b =
      let k : Kind = kinds.Borrow b in
      let near = answer_nears p k answers.Lent good (places.Ended (ends.Lent i)) (stages.Ends (ends.Lent i)) tt refl refl refl (inl refl) refl in
      record { goes = inl refl; works = refl; ends = (λ given. absurd (cc given), inl refl); pauses = (refl, refl, tt); nears = near.0; steps = near.1 }

  takes_checked : p.passivates ≡ false → p.test_on_return ≡ false → Takes p (kinds.Return i) false (events.Answered answers.Check) (places.Asks requests.Ask) good
  takes_checked passivates tests =
      let k : Kind = kinds.Return i in
      let none : work_left p k good ≡ work_due p k (stages.Works object) = no_work i false p.test_on_return p.passivates refl tests passivates in
      let near = answer_nears p k answers.Check (places.Asks requests.Ask) good (stages.Works object) tt refl refl refl (refl, refl) none in
      record { goes = (refl, refl); works = none; ends = (λ given. absurd (cc given), tt); pauses = (refl, refl, tt); nears = near.0; steps = near.1 }

  takes_parked : Takes p (kinds.Return i) false (events.Answered answers.Parked) good (places.Ended ends.Parked)
  takes_parked =
      let k : Kind = kinds.Return i in
      let near = answer_nears p k answers.Parked good (places.Ended ends.Parked) (stages.Ends ends.Parked) tt refl refl refl (inl refl) refl in
      record { goes = inl refl; works = refl; ends = (λ given. absurd (cc given), inl refl); pauses = (refl, refl, tt); nears = near.0; steps = near.1 }

-- ---- both of them
-- a call that ends by two answers, between which it reports its object
ended : (first second : Answer) (end : End) (op after : Operation) (i : ℕ) (k : Kind) → op.kind ≡ k → op.place ≡ places.Asks requests.Ask → op.given_up ≡ false → is_counted k first ≡ false → is_counted k second ≡ false → is_freed first ≡ false → is_freed second ≡ false
    → Takes op.plan k false (events.Answered first) (places.Asks requests.Ask) (good op.plan i) → Takes op.plan k false (events.Answered second) (good op.plan i) (places.Ended end)
    → after.kind ≡ op.kind → after.plan ≡ op.plan → after.given_up ≡ op.given_up → after.counts ≡ op.counts → after.place ≡ places.Ended end → GoesTwice first (report_of k i outcomes.Good) second op after
ended first second end op after i k kind asks kept counted counted' freed freed' begins ends kind' plan' given' counts' place' =
    let p = op.plan in
    let between : Operation = record {
      kind = op.kind;
      plan = p;
      given_up = op.given_up;
      counts = op.counts;
      place = good p i;
      few_left = λ given. absurd (cc (given, kept));
      only_borrows_wait = λ waits. absurd (cc waits);
    } in
    let K : Place → Place → Answer → Kind → Type 0 = λ q r a j. Takes p j op.given_up (events.Answered a) q r in
    let G : Place → Place → Answer → Bool → Type 0 = λ q r a g. Takes p k g (events.Answered a) q r in
    let Q : Place → Type 0 = λ q. Takes p k false (events.Answered first) q (good p i) in
    let R : Place → Type 0 = λ r. Takes p k false (events.Answered second) (good p i) r in
    let one = subst (K op.place (good p i) first) (sym kind) (subst (G op.place (good p i) first) (sym kept) (subst Q (sym asks) begins)) in
    let two = subst (K (good p i) after.place second) (sym kind) (subst (G (good p i) after.place second) (sym kept) (subst R (sym place') ends)) in
    record {
      between = between;
      begins = goes op between first refl refl refl refl one (ap rules.has_step asks) (ap (λ j. is_counted j first) kind ∙ counted) freed refl;
      asks = ap (λ j. Some (report_of j i outcomes.Good)) kind;
      ends = goes between after second kind' plan' given' counts' two refl (ap (λ j. is_counted j second) kind ∙ counted') freed' (ap rules.lacks_room place');
    }

pub lent : (op after : Operation) (i b : ℕ) → op.kind ≡ kinds.Borrow b → op.place ≡ places.Asks requests.Ask → op.given_up ≡ false → op.plan.activates ≡ false → op.plan.test_on_borrow ≡ false
    → after.kind ≡ op.kind → after.plan ≡ op.plan → after.given_up ≡ op.given_up → after.counts ≡ op.counts → after.place ≡ places.Ended (ends.Lent i) → IsLent i op after
lent op after i b kind asks kept activates tests =
    ended (answers.Take i) answers.Lent (ends.Lent i) op after i (kinds.Borrow b) kind asks kept refl refl refl refl (takes_borrowed op.plan i b activates tests) (takes_lent op.plan i b)

pub parked : (op after : Operation) (i j : ℕ) → step_at op ≡ Some (inputs.GiveBack i) → op.kind ≡ kinds.Return j → op.place ≡ places.Asks requests.Ask → op.given_up ≡ false → op.plan.passivates ≡ false → op.plan.test_on_return ≡ false
    → after.kind ≡ op.kind → after.plan ≡ op.plan → after.given_up ≡ op.given_up → after.counts ≡ op.counts → after.place ≡ places.Ended ends.Parked → IsParked i op after
parked op after i j due kind asks kept passivates tests =
    let asked : Some (inputs.GiveBack j) ≡ Some (inputs.GiveBack i) = sym (ap (λ k. rules.step_at k (places.Asks requests.Ask)) kind) ∙ sym (ap (rules.step_at op.kind) asks) ∙ due in
    let own : kinds.Return j ≡ kinds.Return i = cc asked in
    ended answers.Check answers.Parked ends.Parked op after i (kinds.Return i) (kind ∙ own) asks kept refl refl refl refl (takes_checked op.plan i passivates tests) (takes_parked op.plan i)
