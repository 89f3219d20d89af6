-- The trace of an eviction run.
use Rattle.std.proofs.Common.{◌≡◌, false, true≢false, if◌then◌else◌, ℕ, ◌+◌, ◌-◌, ◌<◌, ◌≤◌, Option, None, Some, Result, Ok, Err, refl, subst, arith}
use Rattle.std.specs.Prelude.{IfOk}
use Rattle.pool_journal.specs.declared.input.Input.{Input}
use Rattle.pool_journal.specs.declared.input.Input.TheVariants.{Evict, EvictNext, Tested, Destroyed}
use Rattle.pool_journal.specs.declared.input.Outcome.{Outcome}
use Rattle.pool_journal.specs.declared.input.Outcome.TheVariants as outcomes
use Rattle.pool_journal.specs.declared.answer.Answer.{Answer}
use Rattle.pool_journal.specs.declared.answer.Answer.TheVariants as answers
use Rattle.pool_journal.specs.declared.answer.Cause.TheVariants as causes
use Rattle.pool_settings.specs.declared.settings.Settings.{Settings}
use Rattle.pool_core.specs.Completion.{is_completing}
use Rattle.pool_core.specs.Reply.{reply}
use Rattle.pool_history.specs.CallerStates.{CallerState}
use Rattle.pool_lock.specs.Sections.{AppendsAnswer}
use Rattle.pool_calls.specs.declared.action.End.TheVariants as ends
use Rattle.pool_calls.specs.declared.kind.Kind.TheVariants as kinds
use Rattle.pool_calls.specs.declared.stage.Stage.{Stage}
use Rattle.pool_calls.specs.declared.stage.Stage.TheVariants as stages
use Rattle.pool_calls.specs.Rules.{next, IsExpected}
use Rattle.pool_calls.specs.Steps.{is_counted, is_freed}
use Rattle.pool_calls.specs.Table.{works}
use Rattle.pool_shared.specs.Plans.{plan_of}
use Rattle.pool_shared.specs.declared.evicting.EvictRun.{EvictRun}
use Rattle.pool_shared.specs.declared.evicting.Disposition.{Disposition}
use Rattle.pool_shared.specs.declared.evicting.Disposition.TheVariants as fates
use Rattle.pool_shared.specs.declared.faults.PoolFault.{PoolFault}
use Rattle.pool_shared.specs.declared.faults.PoolFault.TheVariants as faults
use Rattle.pool_shared.specs.Counts.{Counts, Frees}
use Rattle.pool_shared.specs.Stages.{asks, takes, complete}
use Rattle.pool_shared.specs.Traces.{Trace, EndsWithOwn}
use Rattle.pool_shared.specs.TraceToResult.{IsRoomFault}
use Rattle.pool_shared.specs.Evicts.{lost, goes_on, Examines, HasExamined, HasCounts, IsFailedTest, IsSpared, IsStopped, EvictEnds, EvictsFrom, EvictSpec}
use Rattle.pool_shared.proofs.Traces.{trace_by, trace_on, takes_next, count_one}
use Rattle.pool_shared.proofs.TracesToResults.{row_at, row_on, row_none, row_stopped, unfinished_at}

-- an examination by one entry
module _ (s : Settings) (from to : ℕ → Stage) (input : Input) (x answer : Answer) (a b : CallerState) (is : x ≡ answer) (made : AppendsAnswer input x a b) where
  by_one : ((left : ℕ) → IsExpected (plan_of s) kinds.Evict (from left) input) → ((left : ℕ) → next kinds.Evict (from left) (record { input = input; answer = answer }) ≡ to left)
      → Examines s from to (if is_counted kinds.Evict answer then 1 else 0) (if is_freed answer then 1 else 0) a b
  by_one due comes =
      record {
        trace = λ left. trace_by s kinds.Evict (from left) (to left) input x answer a b is made (due left) (comes left);
        examined = count_one (is_counted kinds.Evict) input x answer a b is made;
        destroyed = count_one is_freed input x answer a b is made;
      }

-- an examination by one entry and another
follows : (s : Settings) (from mid to : ℕ → Stage) (n m k l : ℕ) (a b c : CallerState) → Examines s from mid n m a b → Examines s mid to k l b c → Examines s from to (n + k) (m + l) a c
follows s from mid to n m k l a b c first rest =
    record {
      trace = λ left. trace_on s kinds.Evict (from left) (mid left) (to left) a b c (first.trace left) (rest.trace left);
      examined = omega (arith, first.examined, rest.examined);
      destroyed = omega (arith, first.destroyed, rest.destroyed);
    }

module _ (s : Settings) where
  -- an object is destroyed
  rejected : (from : ℕ → Stage) (i : ℕ) (input : Input) (x answer : Answer) (a b c : CallerState) → x ≡ answer → AppendsAnswer input x a b → AppendsAnswer (Destroyed i) answers.Freed b c
      → ((left : ℕ) → IsExpected (plan_of s) kinds.Evict (from left) input)
      → ((left : ℕ) → IsExpected (plan_of s) kinds.Evict (next kinds.Evict (from left) (record { input = input; answer = answer })) (Destroyed i))
      → ((left : ℕ) → next kinds.Evict (next kinds.Evict (from left) (record { input = input; answer = answer })) (record { input = Destroyed i; answer = answers.Freed }) ≡ goes_on left)
      → Examines s from goes_on ((if is_counted kinds.Evict answer then 1 else 0) + 0) ((if is_freed answer then 1 else 0) + 1) a c
  rejected from i input x answer a b c is made freed due due_then comes =
      let mid = λ (left : ℕ). next kinds.Evict (from left) (record { input = input; answer = answer }) in
      follows s from mid goes_on (if is_counted kinds.Evict answer then 1 else 0) (if is_freed answer then 1 else 0) 0 1 a b c (by_one s from mid input x answer a b is made due (λ left. refl))
      (by_one s mid goes_on (Destroyed i) answers.Freed answers.Freed b c refl freed due_then comes)

  -- an object fails its test
  pub failed : (i : ℕ) (o : Outcome) (x : Answer) (a b c : CallerState) → IsFailedTest o → x ≡ answers.Destroy → AppendsAnswer (Tested i o) x a b → AppendsAnswer (Destroyed i) answers.Freed b c
      → Examines s (works i false) goes_on 0 1 a c
  failed i outcomes.ActivateFailed x a b c fails is made freed = rejected (works i false) i (Tested i outcomes.ActivateFailed) x answers.Destroy a b c is made freed (λ left. (refl, refl)) (λ left. refl) (λ left. refl)
  failed i outcomes.TestFailed x a b c fails is made freed = rejected (works i false) i (Tested i outcomes.TestFailed) x answers.Destroy a b c is made freed (λ left. (refl, refl)) (λ left. refl) (λ left. refl)
  failed i outcomes.PassivateFailed x a b c fails is made freed = rejected (works i false) i (Tested i outcomes.PassivateFailed) x answers.Destroy a b c is made freed (λ left. (refl, refl)) (λ left. refl) (λ left. refl)
  failed i _ x a b c fails is made freed = absurd fails

  -- an object passed its test, but the pool was closed
  pub shut_out : (i : ℕ) (x : Answer) (a b c : CallerState) → x ≡ answers.Destroy → AppendsAnswer (Tested i outcomes.Good) x a b → AppendsAnswer (Destroyed i) answers.Freed b c → Examines s (works i false) goes_on 0 1 a c
  shut_out i x a b c is made freed = rejected (works i false) i (Tested i outcomes.Good) x answers.Destroy a b c is made freed (λ left. (refl, refl)) (λ left. refl) (λ left. refl)

  -- an object passes its test
  pub passed : (i : ℕ) (x : Answer) (a b : CallerState) → x ≡ answers.Kept → AppendsAnswer (Tested i outcomes.Good) x a b → Examines s (works i false) goes_on 0 0 a b
  passed i x a b is made = by_one s (works i false) goes_on (Tested i outcomes.Good) x answers.Kept a b is made (λ left. (refl, refl)) (λ left. refl)

  -- an object stays idle
  pub kept_idle : (i : ℕ) (x : Answer) (a b : CallerState) → x ≡ answers.KeptIdle i → AppendsAnswer EvictNext x a b → HasExamined s (Some fates.Kept) a b
  kept_idle i x a b is made = by_one s takes goes_on EvictNext x (answers.KeptIdle i) a b is made (λ left. refl) (λ left. refl)

  -- no object is idle
  pub none_idle : (x : Answer) (a b : CallerState) → x ≡ answers.Nothing → AppendsAnswer EvictNext x a b → HasExamined s None a b
  none_idle x a b is made = by_one s takes (λ left. complete) EvictNext x answers.Nothing a b is made (λ left. refl) (λ left. refl)

  -- an object is destroyed without a test
  pub destroyed_idle : (i : ℕ) (x : Answer) (a b c : CallerState) → x ≡ answers.DestroyIdle i → AppendsAnswer EvictNext x a b → AppendsAnswer (Destroyed i) answers.Freed b c → HasExamined s (Some fates.Destroyed) a c
  destroyed_idle i x a b c is made freed = rejected takes i EvictNext x (answers.DestroyIdle i) a b c is made freed (λ left. refl) (λ left. refl) (λ left. refl)

  -- an object is tested
  pub tested_idle : (i : ℕ) (fate : Disposition) (x : Answer) (a b c : CallerState) → x ≡ answers.Test i → AppendsAnswer EvictNext x a b → Examines s (works i false) goes_on 0 (lost fate) b c → HasExamined s (Some fate) a c
  tested_idle i fate x a b c is made test =
      let found = by_one s takes (works i false) EvictNext x (answers.Test i) a b is made (λ left. refl) (λ left. refl) in
      let all = follows s takes (works i false) goes_on 1 0 0 (lost fate) a b c found test in
      record { trace = all.trace; examined = all.examined; destroyed = omega (arith, found.destroyed, test.destroyed) }

spared : (a : Answer) → is_completing a EvictNext ≡ false → IsSpared a
spared (answers.DestroyIdle i) is = absurd (true≢false is)
spared _ is = tt

-- an EvictNext failed
pub stops : (s : Settings) (f : PoolFault) (me : CallerState) → IsRoomFault s EvictNext f me → IsStopped s f me
stops s f me why = (why.0, why.1, spared (reply s me.observed why.0 EvictNext) (unfinished_at s EvictNext f me why.0 why.1))

pub lost_bounded : (fate : Disposition) → lost fate ≤ 1
lost_bounded fates.Kept = omega arith
lost_bounded fates.Destroyed = omega arith

-- a run over objects of which some are left
module _ (s : Settings) (count left : ℕ) (some : 0 < left) (a b : CallerState) (w : Trace s kinds.Evict (goes_on count) a b (goes_on left)) where
  -- a run that examined one object more
  pub one_examined : (fate : Disposition) (o : Option Disposition) (c : CallerState) → o ≡ Some fate → HasExamined s o b c → Trace s kinds.Evict (goes_on count) a c (goes_on (left - 1))
  one_examined fate o c is one =
      let more = subst (λ x. HasExamined s x b c) is one in
      trace_on s kinds.Evict (goes_on count) (takes (left - 1)) (goes_on (left - 1)) a b c (takes_next s kinds.Evict count left a b some w) (more.trace (left - 1))

  -- a run that stopped with an error
  pub stopped : (f : PoolFault) (c : CallerState) → c.appended ≡ b.appended → IsStopped s f c → EvictsFrom s (goes_on count) (Err f) a c
  stopped f c same room = (row_stopped s kinds.Evict (EvictEnds s) (goes_on count) (takes (left - 1)) (Err f) a b c (takes_next s kinds.Evict count left a b some w) same room, tt)

  -- a run that found no more objects
  pub out_of_objects : (run : EvictRun) (o : Option Disposition) (c : CallerState) → HasCounts run a b → o ≡ None → HasExamined s o b c → EndsWithOwn c → EvictsFrom s (goes_on count) (Ok run) a c
  out_of_objects run o c so_far is one own =
      let none = subst (λ x. HasExamined s x b c) is one in (
        row_at s kinds.Evict (EvictEnds s) (goes_on count) complete (Ok run) a c (trace_on s kinds.Evict (goes_on count) (takes (left - 1)) complete a b c (takes_next s kinds.Evict count left a b some w) (none.trace (left - 1))) own,
        (omega (arith, so_far.0, none.examined), omega (arith, so_far.1, none.destroyed)),
      )

-- the counts of a run that examined one object more
pub one_counted : (s : Settings) (run more : EvictRun) (fate : Disposition) (o : Option Disposition) (a b c : CallerState) → o ≡ Some fate → more.examined ≡ run.examined + 1 → more.destroyed ≡ run.destroyed + lost fate → HasCounts run a b
    → HasExamined s o b c → HasCounts more a c
one_counted s run more fate o a b c is examined destroyed so_far one =
    let next = subst (λ x. HasExamined s x b c) is one in
    (omega (arith, examined, so_far.0, next.examined), omega (arith, destroyed, so_far.1, next.destroyed))

-- a run over all of its objects
pub all_examined : (s : Settings) (count left : ℕ) (run : EvictRun) (a b : CallerState) → left ≡ 0 → Trace s kinds.Evict (goes_on count) a b (goes_on left) → HasCounts run a b → EndsWithOwn b → EvictsFrom s (goes_on count) (Ok run) a b
all_examined s count left run a b none w counts ends =
    (row_at s kinds.Evict (EvictEnds s) (goes_on count) complete (Ok run) a b (subst (λ n. Trace s kinds.Evict (goes_on count) a b (goes_on n)) none w) ends, counts)

-- a run that begins
module _ (s : Settings) (x : Answer) (a b : CallerState) (made : AppendsAnswer Evict x a b) where
  pub examines_then : (count : ℕ) (r : Result EvictRun PoolFault) (c : CallerState) → x ≡ answers.Count count → EvictsFrom s (goes_on count) r b c → EvictSpec s r a c
  examines_then count r c is row =
      (row_on s kinds.Evict (EvictEnds s) asks (goes_on count) r a b c (trace_by s kinds.Evict asks (goes_on count) Evict x (answers.Count count) a b is made refl refl) row.0, later count r c is row.1)
    where
      later : (count : ℕ) (r : Result EvictRun PoolFault) (c : CallerState) → x ≡ answers.Count count → IfOk r (λ run. HasCounts run b c) → IfOk r (λ run. HasCounts run a c)
      later count (Ok run) c is counts =
          let none : Counts kinds.Evict 0 a b = count_one (is_counted kinds.Evict) Evict x (answers.Count count) a b is made in
          let none_freed : Frees 0 a b = count_one is_freed Evict x (answers.Count count) a b is made in
          (omega (arith, none, counts.0), omega (arith, none_freed, counts.1))
      later count (Err f) c is counts = tt

  pub finds_closed : x ≡ answers.Refused causes.Closed → EndsWithOwn b → EvictSpec s (Err faults.Closed) a b
  finds_closed is own =
      (row_at s kinds.Evict (EvictEnds s) asks (stages.Ends ends.Closed) (Err faults.Closed) a b (trace_by s kinds.Evict asks (stages.Ends ends.Closed) Evict x (answers.Refused causes.Closed) a b is made refl refl) own, tt)

-- a run that did not begin
pub evict_refused : (s : Settings) (f : PoolFault) (b c : CallerState) → c.appended ≡ b.appended → IsRoomFault s Evict f c → EvictSpec s (Err f) b c
evict_refused s f b c same why = (row_none s kinds.Evict (EvictEnds s) asks (Err f) b c same why, tt)
