-- Traces, one after the other.
use Rattle.std.proofs.Common.{◌≡◌, ℕ, suc, ◌+◌, ◌-◌, ◌<◌, if◌then◌else◌, Bool, true, false, List, [], ◌∷◌, ◌++◌, append_assoc, append-nil, refl, sym, ap, ◌∙◌, subst, arith}
use Rattle.std.proofs.lemmas.List.Sums.{sum_by-cons, sum_by-append}
use Rattle.pool_journal.specs.declared.entry.Entry.{Entry}
use Rattle.pool_journal.specs.declared.input.Input.{Input}
use Rattle.pool_journal.specs.declared.input.Input.TheVariants.{Destroyed}
use Rattle.pool_journal.specs.declared.answer.Answer.{Answer}
use Rattle.pool_journal.specs.declared.answer.Answer.TheVariants as answers
use Rattle.pool_settings.specs.declared.settings.Settings.{Settings}
use Rattle.pool_stats.specs.Answers.{count_answers}
use Rattle.pool_core.specs.Legal.{entry_of}
use Rattle.pool_history.specs.CellInvariant.{IsPrefix}
use Rattle.pool_history.specs.CallerStates.{CallerState, Advances}
use Rattle.pool_history.proofs.Fragments.{prefix_trans}
use Rattle.pool_lock.specs.Sections.{AppendsAnswer}
use Rattle.pool_calls.specs.declared.kind.Kind.{Kind}
use Rattle.pool_calls.specs.declared.stage.Stage.{Stage}
use Rattle.pool_calls.specs.Rules.{next, IsExpected}
use Rattle.pool_calls.specs.Table.{go_through}
use Rattle.pool_shared.specs.Plans.{plan_of}
use Rattle.pool_shared.specs.Stages.{takes}
use Rattle.pool_shared.specs.Traces.{turn_of, run_stages, AllExpected, Trace, Ends}

module _ (s : Settings) (k : Kind) where
  due_append : (st : Stage) (xs ys : List Entry) → AllExpected s k st xs → AllExpected s k (run_stages k st xs) ys → AllExpected s k st (xs ++ ys)
  due_append st [] ys p q = q
  due_append st (x ∷ xs) ys p q = (p.0, due_append (next k st (turn_of x)) xs ys p.1 q)

  traced_append : (st : Stage) (xs ys : List Entry) → run_stages k st (xs ++ ys) ≡ run_stages k (run_stages k st xs) ys
  traced_append st [] ys = refl
  traced_append st (x ∷ xs) ys = traced_append (next k st (turn_of x)) xs ys

  made_append : (a b c xs ys : List Entry) → b ≡ a ++ xs → c ≡ b ++ ys → c ≡ a ++ (xs ++ ys)
  made_append a b c xs ys p q = q ∙ ap (λ l. l ++ ys) p ∙ append_assoc a xs ys

  pub trace_none : (st : Stage) (before after : CallerState) → after.appended ≡ before.appended → Trace s k st before after st
  trace_none st before after same = record { es = []; made = same ∙ sym (append-nil before.appended); due = tt; comes = refl }

  pub trace_on : (from mid to : Stage) (a b c : CallerState) → Trace s k from a b mid → Trace s k mid b c to → Trace s k from a c to
  trace_on from mid to a b c p q =
      record {
        es = p.es ++ q.es;
        made = made_append a.appended b.appended c.appended p.es q.es p.made q.made;
        due = due_append from p.es q.es p.due (subst (λ st. AllExpected s k st q.es) (sym p.comes) q.due);
        comes = traced_append from p.es q.es ∙ ap (λ st. run_stages k st q.es) p.comes ∙ q.comes;
      }

  pub trace_one : (from to : Stage) (input : Input) (answer : Answer) (before after : CallerState) → AppendsAnswer input answer before after
      → IsExpected (plan_of s) k from input → next k from (record { input = input; answer = answer }) ≡ to → Trace s k from before after to
  trace_one from to input answer before after made due comes =
      record { es = entry_of before.number made.0 input answer ∷ []; made = made.1.more; due = (due, tt); comes = comes }

  -- one entry, whose answer is known
  pub trace_by : (from to : Stage) (input : Input) (x answer : Answer) (before after : CallerState) → x ≡ answer → AppendsAnswer input x before after
      → IsExpected (plan_of s) k from input → next k from (record { input = input; answer = answer }) ≡ to → Trace s k from before after to
  trace_by from to input x answer before after is made due comes = trace_one from to input answer before after (subst (λ y. AppendsAnswer input y before after) is made) due comes

  -- a trace, and one entry more
  pub trace_more : (from mid to : Stage) (input : Input) (x answer : Answer) (a b c : CallerState) → Trace s k from a b mid → x ≡ answer → AppendsAnswer input x b c
      → IsExpected (plan_of s) k mid input → next k mid (record { input = input; answer = answer }) ≡ to → Trace s k from a c to
  trace_more from mid to input x answer a b c w is made due comes = trace_on from mid to a b c w (trace_by mid to input x answer b c is made due comes)

  -- an entry, and then the destruction of its object
  pub trace_destroyed : (from to : Stage) (i : ℕ) (input : Input) (x answer : Answer) (a b c : CallerState) → x ≡ answer → AppendsAnswer input x a b → AppendsAnswer (Destroyed i) answers.Freed b c
      → IsExpected (plan_of s) k from input → IsExpected (plan_of s) k (next k from (record { input = input; answer = answer })) (Destroyed i)
      → next k (next k from (record { input = input; answer = answer })) (record { input = Destroyed i; answer = answers.Freed }) ≡ to → Trace s k from a c to
  trace_destroyed from to i input x answer a b c is made freed due due_then comes =
      let mid = next k from (record { input = input; answer = answer }) in
      trace_on from mid to a b c (trace_by from mid input x answer a b is made due refl) (trace_one mid to (Destroyed i) answers.Freed b c freed due_then comes)

  -- a call that goes through objects of which some are left
  pub takes_next : (count left : ℕ) (a b : CallerState) → 0 < left → Trace s k (go_through k count) a b (go_through k left) → Trace s k (go_through k count) a b (takes (left - 1))
  takes_next count left a b some w =
      let more : left ≡ suc (left - 1) = omega (arith, some) in
      subst (λ n. Trace s k (go_through k count) a b (go_through k n)) more w

-- ---- counts
-- the count of an entry whose answer is known
pub count_one : (P : Answer → Bool) (input : Input) (x answer : Answer) (before after : CallerState) → x ≡ answer → AppendsAnswer input x before after → count_answers P after.appended ≡ count_answers P before.appended + (if P answer then 1 else 0)
count_one P input x answer before after is made =
    let m : AppendsAnswer input answer before after = subst (λ y. AppendsAnswer input y before after) is made in
    let e = entry_of before.number m.0 input answer in
    let more = ap (count_answers P) m.1.more in
    let parts = sum_by-append (λ (e : Entry). if P e.answer then 1 else 0) before.appended (e ∷ []) in
    let one = sum_by-cons (λ (e : Entry). if P e.answer then 1 else 0) e [] in
    omega (arith, more, parts, one)

-- one more, and one that doesn't count
module _ (P : Answer → Bool) (n : ℕ) (input : Input) (x answer : Answer) (a b c : CallerState) (is : x ≡ answer) (made : AppendsAnswer input x b c) (so_far : count_answers P b.appended ≡ count_answers P a.appended + n) where
  pub count_hit : P answer ≡ true → count_answers P c.appended ≡ count_answers P a.appended + (n + 1)
  count_hit counts =
      let one = count_one P input x answer b c is made in
      let more = ap {B = ℕ} (λ t. if t then 1 else 0) counts in
      omega (arith, one, more, so_far)

  pub count_miss : P answer ≡ false → count_answers P c.appended ≡ count_answers P a.appended + n
  count_miss counts =
      let one = count_one P input x answer b c is made in
      let more = ap {B = ℕ} (λ t. if t then 1 else 0) counts in
      omega (arith, one, more, so_far)

pub ends_of : (input : Input) (answer : Answer) (before after : CallerState) → after.number ≡ before.number → AppendsAnswer input answer before after → Ends input answer after
ends_of input answer before after same made =
    let e = λ (n : ℕ). entry_of n made.0 input answer ∷ [] in
    record {
      at = made.0;
      made = before.appended;
      found = made.1.found;
      last_made = made.1.more ∙ ap (λ n. before.appended ++ e n) (sym same);
      last_seen = made.1.ends ∙ ap (λ n. made.1.found ++ e n) (sym same);
    }

-- the same caller at a later time, whatever it has observed and appended since
pub record ComesFrom (first now : CallerState) : Type 0 where
  pub number : now.number ≡ first.number
  pub later : IsPrefix first.observed now.observed
  pub uncut : now.cut_count ≡ first.cut_count
  pub later_cuts : IsPrefix first.cut_positions now.cut_positions

pub comes_on : (s : Settings) (first now after : CallerState) → ComesFrom first now → Advances s now after → ComesFrom first after
comes_on s first now after come goes =
    record {
      number = goes.number ∙ come.number;
      later = prefix_trans first.observed now.observed after.observed come.later goes.later;
      uncut = goes.uncut ∙ come.uncut;
      later_cuts = prefix_trans first.cut_positions now.cut_positions after.cut_positions come.later_cuts goes.later_cuts;
    }

pub goes_far : (s : Settings) (first now after : CallerState) → ComesFrom first now → Advances s now after → Advances s first after
goes_far s first now after come goes =
    let on = comes_on s first now after come goes in
    record { number = on.number; later = on.later; legal = goes.legal; owner_respecting = goes.owner_respecting; none_misused = goes.none_misused; all = goes.all; fits = goes.fits; uncut = on.uncut; later_cuts = on.later_cuts }
