-- By the table, each answer brings a call nearer to its end, and to its factory's next call.
use Rattle.std.proofs.Common.{◌≡◌, refl, ℕ, zero, suc, ◌+◌, ◌*◌, ◌^◌, ◌<◌, ◌≤◌, Bool, true, false, cond}
use Rattle.std.proofs.Common.{List, [], ◌∷◌, length, arith}
use Rattle.pool_journal.specs.declared.input.Outcome.{Outcome}
use Rattle.pool_journal.specs.declared.input.Outcome.TheVariants as outcomes
use Rattle.pool_journal.specs.declared.answer.Answer.{Answer}
use Rattle.pool_journal.specs.declared.answer.Answer.TheVariants as answers
use Rattle.pool_journal.specs.declared.answer.Cause.TheVariants as causes
use Rattle.pool_calls.specs.declared.kind.Kind.{Kind}
use Rattle.pool_calls.specs.declared.kind.Kind.TheVariants as kinds
use Rattle.pool_calls.specs.declared.hook_plan.HookPlan.{HookPlan}
use Rattle.pool_calls.specs.declared.work.Task.{Task}
use Rattle.pool_calls.specs.declared.work.Task.TheVariants as tasks
use Rattle.pool_calls.specs.declared.stage.Object.{Object}
use Rattle.pool_calls.specs.declared.stage.Request.TheVariants as requests
use Rattle.pool_calls.specs.declared.stage.Stage.{Stage}
use Rattle.pool_calls.specs.declared.stage.Stage.TheVariants as stages
use Rattle.pool_calls.specs.declared.stage.Place.{Place}
use Rattle.pool_calls.specs.declared.stage.Place.TheVariants as places
use Rattle.pool_calls.specs.Left.{CountFits, asking_left, each_left, through_left, request_left, events_left}
use Rattle.pool_calls.specs.Left.{asking_steps, next_steps, freeing_steps, reporting_steps, request_steps, steps_left}
use Rattle.pool_calls.specs.Rules.{has_step, stage_after}
use Rattle.pool_calls.specs.Steps.{destroys, is_borrow}
use Rattle.pool_calls.specs.Table as table
use Rattle.pool_calls.specs.Tasks.{in_order, work_of}

-- ---- the same at stages
-- a borrow or a fill asks
abbrev pub fills_at : Kind → Stage → Bool
fills_at kinds.Fill (stages.Asks requests.Ask) = true
fills_at k (stages.Asks requests.Ask) = is_borrow k
fills_at k _ = false

abbrev pub borrows_at : Kind → Stage → Bool
borrows_at k (stages.Asks requests.Ask) = is_borrow k
borrows_at k _ = false

abbrev pub left_of : HookPlan → Kind → Stage → ℕ
left_of p k (stages.Asks request) = request_left k request
left_of p k (stages.Works object) = each_left k * object.left + length (in_order (work_of p k object.is_new)) + 3
left_of p k (stages.Removes object o) = each_left k * object.left + 2
left_of p k (stages.Gone i) = 1
left_of p k (stages.Ends e) = 0

-- the steps after work, if there is none
abbrev pub unless_any : List Task → ℕ → ℕ
unless_any [] n = n
unless_any (t ∷ ts) n = 0

abbrev pub steps_of : HookPlan → Kind → Stage → ℕ
steps_of p k (stages.Asks request) = request_steps k request
steps_of p k (stages.Works object) = unless_any (in_order (work_of p k object.is_new)) (reporting_steps k object.left)
steps_of p k (stages.Removes object o) = cond (destroys k) 0 (freeing_steps k object.left)
steps_of p k _ = 0

-- at most so much is left at a stage, unless it asks again
pub record Nearer (p : HookPlan) (k : Kind) (n m : ℕ) (s : Stage) : Type 0 where
  pub left : fills_at k s ≡ false → left_of p k s < n
  pub steps : borrows_at k s ≡ false → steps_of p k s < m

now : {p : HookPlan} {k : Kind} {n m : ℕ} {s : Stage} → left_of p k s < n → steps_of p k s < m → Nearer p k n m s
now few short = record { left = λ asks. few; steps = λ asks. short }

again : {p : HookPlan} {k : Kind} {n m : ℕ} {s : Stage} → fills_at k s ≡ true → borrows_at k s ≡ true → Nearer p k n m s
again fills borrows = record { left = λ asks. absurd (cc (fills, asks)); steps = λ asks. absurd (cc (borrows, asks)) }

lower : {p : HookPlan} {k : Kind} {n m : ℕ} {s : Stage} (few short : ℕ) → Nearer p k few short s → few ≤ n → short ≤ m → Nearer p k n m s
lower few short near a b = record { left = λ asks. omega (arith, near.left asks); steps = λ asks. omega (arith, near.steps asks) }

-- ---- tasks
one_more : (b : Bool) (t : Task) (ts : List Task) (n : ℕ) → length ts ≤ n → length (cond b (t ∷ ts) ts) ≤ n + 1
one_more true t ts n few = omega arith
one_more false t ts n few = omega arith

less : (ts : List Task) (n : ℕ) → unless_any ts n ≤ n
less [] n = omega arith
less (t ∷ ts) n = omega arith

module _ (p : HookPlan) where
  borrow_tasks : (b : ℕ) (new : Bool) → length (in_order (work_of p (kinds.Borrow b) new)) ≤ 4
  borrow_tasks b new =
      one_more new _ _ 3 (one_more _ _ _ 2 (one_more p.activates _ _ 1 (one_more p.test_on_borrow _ _ 0 (omega arith))))

  borrow_steps : (b : ℕ) (new : Bool) → unless_any (in_order (work_of p (kinds.Borrow b) new)) 1 ≤ 1
  borrow_steps b new = less (in_order (work_of p (kinds.Borrow b) new)) 1

  return_steps : (i : ℕ) → unless_any (in_order (work_of p (kinds.Return i) false)) 1 ≤ 1
  return_steps i = less (in_order (work_of p (kinds.Return i) false)) 1

  return_tasks : (i : ℕ) (new : Bool) → length (in_order (work_of p (kinds.Return i) new)) ≤ 2
  return_tasks i new = one_more p.test_on_return _ _ 1 (one_more p.passivates _ _ 0 (omega arith))

  making_tasks : length (in_order (work_of p kinds.Add true)) ≤ 3
  making_tasks = one_more true tasks.Make _ 2 (one_more p.test_on_create _ _ 1 (one_more p.passivates _ _ 0 (omega arith)))

  test_tasks : length (in_order (work_of p kinds.Evict false)) ≤ 3
  test_tasks = one_more p.activates _ _ 2 (one_more true tasks.Test _ 1 (one_more p.passivates _ _ 0 (omega arith)))

  some_test : (n : ℕ) → unless_any (in_order (work_of p kinds.Evict false)) n ≡ 0
  some_test n = some p.activates _ _ _ _ n
    where
      some : (b : Bool) (t u : Task) (ts us : List Task) (n : ℕ) → unless_any (cond b (t ∷ ts) (u ∷ us)) n ≡ 0
      some true t u ts us n = refl
      some false t u ts us n = refl

-- ---- answers
-- the steps in a row for so many objects
abbrev passing_steps : Kind → ℕ → ℕ
passing_steps (kinds.Borrow began) n = n
passing_steps kinds.Evict n = n
passing_steps kinds.Reclaim n = n
passing_steps (kinds.Detach i) n = 2
passing_steps k n = 1

module _ (p : HookPlan) where
  on : (k : Kind) (n : ℕ) → Nearer p k (each_left k * n + through_left k + 1) (passing_steps k n + 1) (table.go_through k n)
  on (kinds.Borrow b) zero = again refl refl
  on _ zero = now (omega arith) (omega arith)
  on (kinds.Borrow b) (suc r) = now (omega arith) (omega arith)
  on _ (suc r) = now (omega arith) (omega arith)

  -- an eviction run, whatever the kind
  on_idle : (k : Kind) (n : ℕ) → Nearer p k (each_left k * n + through_left k + 1) (passing_steps k n + 1) (table.go_through kinds.Evict n)
  on_idle (kinds.Borrow b) zero = now (omega arith) (omega arith)
  on_idle _ zero = now (omega arith) (omega arith)
  on_idle (kinds.Borrow b) (suc r) = now (omega arith) (omega arith)
  on_idle _ (suc r) = now (omega arith) (omega arith)

  begun : (k : Kind) (a : Answer) → CountFits a → Nearer p k (request_left k requests.Begin) (2 ^ 64) (table.after_reclaiming k a)
  begun (kinds.Borrow b) (answers.Count n) fits = lower _ _ (on (kinds.Borrow b) n) (omega arith) (omega arith)
  begun k (answers.Count n) fits = lower _ _ (on k n) (omega arith) (omega arith)
  begun (kinds.Borrow b) _ fits = now (omega arith) (omega arith)
  begun _ _ fits = now (omega arith) (omega arith)

  borrowed : (b : ℕ) (a : Answer) → Nearer p (kinds.Borrow b) 8 2 (table.after_borrowing a)
  borrowed b (answers.Take i) = now (omega (arith, borrow_tasks p b false)) (omega (arith, borrow_steps p b false))
  borrowed b (answers.Make i) = now (omega (arith, borrow_tasks p b true)) (omega (arith, borrow_steps p b true))
  borrowed b answers.Wait = again refl refl
  borrowed b (answers.Refused causes.Closed) = now (omega arith) (omega arith)
  borrowed b _ = now (omega arith) (omega arith)

  returned : (i : ℕ) (a : Answer) → Nearer p (kinds.Return i) 6 2 (table.after_returning i a)
  returned i answers.Check = now (omega (arith, return_tasks p i false)) (omega (arith, return_steps p i))
  returned i (answers.Refused causes.NotLent) = now (omega arith) (omega arith)
  returned i _ = now (omega arith) (omega arith)

  invalidated : (i : ℕ) (a : Answer) → Nearer p (kinds.Invalidate i) 3 2 (table.after_invalidating i a)
  invalidated i (answers.Refused causes.NotLent) = now (omega arith) (omega arith)
  invalidated i _ = now (omega arith) (omega arith)

  detached : (i : ℕ) (a : Answer) → Nearer p (kinds.Detach i) 3 2 (table.after_detaching i a)
  detached i (answers.Refused causes.NotLent) = now (omega arith) (omega arith)
  detached i _ = now (omega arith) (omega arith)

  touched : (i : ℕ) (a : Answer) → Nearer p (kinds.Touch i) 1 1 (table.after_touching a)
  touched i (answers.Refused causes.NotLent) = now (omega arith) (omega arith)
  touched i _ = now (omega arith) (omega arith)

  added : (a : Answer) → Nearer p kinds.Add 7 1 (table.after_adding a)
  added (answers.Make i) = now (omega (arith, making_tasks p)) (omega arith)
  added (answers.Refused causes.Closed) = now (omega arith) (omega arith)
  added _ = now (omega arith) (omega arith)

  filled : (a : Answer) → Nearer p kinds.Fill 7 1 (table.after_filling a)
  filled (answers.Make i) = now (omega (arith, making_tasks p)) (omega arith)
  filled _ = now (omega arith) (omega arith)

  evicted : (a : Answer) → CountFits a → Nearer p kinds.Evict (7 * 2 ^ 64) (2 ^ 64) (table.after_evicting a)
  evicted (answers.Count n) fits = lower _ _ (on kinds.Evict n) (omega arith) (omega arith)
  evicted (answers.Refused causes.Closed) fits = now (omega arith) (omega arith)
  evicted _ fits = now (omega arith) (omega arith)

  reclaimed : (a : Answer) → CountFits a → Nearer p kinds.Reclaim (2 ^ 64) (2 ^ 64) (table.after_reclaiming kinds.Reclaim a)
  reclaimed (answers.Count n) fits = lower _ _ (on kinds.Reclaim n) (omega arith) (omega arith)
  reclaimed _ fits = now (omega arith) (omega arith)

  cleared : (a : Answer) → CountFits a → Nearer p kinds.Clear (3 * 2 ^ 64) 2 (table.after_clearing a)
  cleared (answers.Count n) fits = lower _ _ (on kinds.Clear n) (omega arith) (omega arith)
  cleared _ fits = now (omega arith) (omega arith)

  closed : (a : Answer) → CountFits a → Nearer p kinds.Close (3 * 2 ^ 64) 2 (table.after_clearing a)
  closed a fits = record { left = (cleared a fits).left; steps = (cleared a fits).steps }

  asked : (k : Kind) (a : Answer) → CountFits a → Nearer p k (asking_left k) (asking_steps k) (table.after_asking k a)
  asked (kinds.Borrow b) a fits = borrowed b a
  asked (kinds.Return i) a fits = returned i a
  asked (kinds.Invalidate i) a fits = invalidated i a
  asked (kinds.Detach i) a fits = detached i a
  asked (kinds.Touch i) a fits = touched i a
  asked kinds.Add a fits = added a
  asked kinds.Fill a fits = filled a
  asked kinds.Evict a fits = evicted a fits
  asked kinds.Reclaim a fits = reclaimed a fits
  asked kinds.Clear a fits = cleared a fits
  asked kinds.Close a fits = closed a fits

  -- ---- the next object
  abbrev NextNearer : Kind → ℕ → Stage → Type 0
  NextNearer k left = Nearer p k (request_left k (requests.Next left)) (next_steps k left)

  removed : (left : ℕ) (a : Answer) → NextNearer kinds.Reclaim left (table.after_removing kinds.Reclaim left a)
  removed left (answers.Reclaimed i) = lower _ _ (on kinds.Reclaim left) (omega arith) (omega arith)
  removed left _ = now (omega arith) (omega arith)

  removed_first : (b left : ℕ) (a : Answer) → NextNearer (kinds.Borrow b) left (table.after_removing (kinds.Borrow b) left a)
  removed_first b left (answers.Reclaimed i) = lower _ _ (on (kinds.Borrow b) left) (omega arith) (omega arith)
  removed_first b left answers.Nothing = again refl refl
  removed_first b left _ = now (omega arith) (omega arith)

  examined : (left : ℕ) (a : Answer) → NextNearer kinds.Evict left (table.after_examining left a)
  examined left (answers.KeptIdle i) = lower _ _ (on kinds.Evict left) (omega arith) (omega arith)
  examined left (answers.Test i) = now (omega (arith, test_tasks p)) (omega (arith, some_test p (left + 1)))
  examined left _ = now (omega arith) (omega arith)

  next_on : (k : Kind) (left : ℕ) (a : Answer) → NextNearer k left (table.after_next k left a)
  next_on (kinds.Borrow b) left a = removed_first b left a
  next_on kinds.Reclaim left a = removed left a
  next_on kinds.Evict left a = examined left a
  next_on _ left (answers.DestroyIdle i) = now (omega arith) (omega arith)
  next_on _ left _ = now (omega arith) (omega arith)

  -- ---- the steps for an object
  abbrev FreedNearer : Kind → Object → Stage → Type 0
  FreedNearer k object = Nearer p k (each_left k * object.left + 1) (freeing_steps k object.left)

  abbrev ReportedNearer : Kind → Object → Stage → Type 0
  ReportedNearer k object = Nearer p k (each_left k * object.left + 3) (reporting_steps k object.left)

  borrow_gone : (b n : ℕ) (new : Bool) (o : Outcome)
      → Nearer p (kinds.Borrow b) (1 * n + 1) 1 (cond new (stages.Ends (table.end_by o)) (stages.Asks requests.Ask))
  borrow_gone b n true o = now (omega arith) (omega arith)
  borrow_gone b n false o = again refl refl

  gone : (k : Kind) (object : Object) (o : Outcome) → FreedNearer k object (table.after_object k object o)
  gone (kinds.Borrow b) object o = borrow_gone b object.left object.is_new o
  gone kinds.Fill object outcomes.Good = record { left = λ asks. absurd (cc asks); steps = λ asks. omega arith }
  gone kinds.Fill object _ = now (omega arith) (omega arith)
  gone kinds.Evict object o = lower _ _ (on kinds.Evict object.left) (omega arith) (omega arith)
  gone kinds.Clear object o = lower _ _ (on kinds.Clear object.left) (omega arith) (omega arith)
  gone kinds.Close object o = lower _ _ (on kinds.Close object.left) (omega arith) (omega arith)
  gone _ object o = now (omega arith) (omega arith)

  freed : (k : Kind) (object : Object) (o : Outcome) (a : Answer) → FreedNearer k object (table.after_freeing k object o a)
  freed k object o answers.Freed = gone k object o
  freed (kinds.Borrow b) object o _ = now (omega arith) (omega arith)
  freed _ object o _ = now (omega arith) (omega arith)

  frees_sooner : (k : Kind) (left : ℕ) → freeing_steps k left ≤ reporting_steps k left
  frees_sooner (kinds.Borrow b) left = omega arith
  frees_sooner _ left = omega arith

  good : (k : Kind) (object : Object) (a : Answer) → ReportedNearer k object (table.after_good k object a)
  good (kinds.Borrow b) object answers.Lent = now (omega arith) (omega arith)
  good (kinds.Borrow b) object _ = now (omega arith) (omega arith)
  good kinds.Fill object answers.Parked = record { left = λ asks. absurd (cc asks); steps = λ asks. omega arith }
  good kinds.Fill object _ = now (omega arith) (omega arith)
  good (kinds.Return i) object answers.Parked = now (omega arith) (omega arith)
  good (kinds.Return i) object _ = now (omega arith) (omega arith)
  good kinds.Add object answers.Parked = now (omega arith) (omega arith)
  good kinds.Add object _ = now (omega arith) (omega arith)
  good k object answers.Kept = lower _ _ (on_idle k object.left) (omega arith) (omega arith)
  good _ object _ = now (omega arith) (omega arith)

  lost : (k : Kind) (object : Object) (o : Outcome) (a : Answer) → ReportedNearer k object (table.after_failure object o a)
  lost (kinds.Borrow b) object o answers.Destroy = now (omega arith) (omega arith)
  lost (kinds.Borrow b) object o _ = now (omega arith) (omega arith)
  lost _ object o answers.Destroy = now (omega arith) (omega arith)
  lost _ object o _ = now (omega arith) (omega arith)

  reported : (k : Kind) (object : Object) (o : Outcome) (a : Answer) → ReportedNearer k object (table.after_report k object o a)
  reported k object outcomes.Good a = good k object a
  reported k object outcomes.MakeFailed a = lower _ _ (freed k object outcomes.MakeFailed a) (omega arith) (frees_sooner k object.left)
  reported k object o a = lost k object o a

  -- ---- all answers
  pub answered : (k : Kind) (before : Place) (a : Answer) → CountFits a → has_step before ≡ true
      → Nearer p k (events_left p k before) (steps_left k before) (stage_after k before a)
  answered k (places.Asks requests.Begin) a fits is = begun k a fits
  answered k (places.Asks requests.Ask) a fits is = asked k a fits
  answered k (places.Asks (requests.Next left)) a fits is = next_on k left a
  answered k (places.Reports o object) a fits is = reported k object o a
  answered k (places.Frees o object) a fits is = freed k object o a
  answered k _ a fits is = absurd (cc is)
