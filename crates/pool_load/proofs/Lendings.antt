-- In each round an object is lent or the borrow is refused.
use Rattle.std.proofs.Common.{◌≡◌, ℕ, zero, suc, ◌+◌, ◌*◌, ◌<◌, ◌≤◌, ◌==◌, Bool, true, false, cond, if◌then◌else◌, List, [], ◌∷◌, ◌++◌, length, Some, Result, Ok, Err, slice_get, take, add-one, refl, sym, ap, ◌∙◌, subst, arith}
use Rattle.std.specs.Prelude.{IfOk, sum, slice_index}
use Rattle.std.proofs.lemmas.Bool.Decides.{nat_tests}
use Rattle.std.proofs.lemmas.List.Sums.{sum_by-cons}
use Rattle.std.proofs.Math.Nat.{zero-mul, suc-mul}
use Rattle.pool_journal.specs.Carrying.{is_good}
use Rattle.pool_journal.specs.Entries.{is_lent_answer}
use Rattle.pool_journal.specs.declared.entry.Entry.{Entry}
use Rattle.pool_journal.specs.declared.input.Input.TheVariants as inputs
use Rattle.pool_journal.specs.declared.input.Outcome.{Outcome}
use Rattle.pool_journal.specs.declared.input.Outcome.TheVariants as outcomes
use Rattle.pool_journal.specs.declared.answer.Answer.{Answer}
use Rattle.pool_journal.specs.declared.answer.Answer.TheVariants as answers
use Rattle.pool_journal.specs.declared.answer.Cause.TheVariants as causes
use Rattle.pool_settings.specs.declared.settings.Settings.{Settings}
use Rattle.pool_stats.specs.Answers.{count_answers}
use Rattle.pool_core.specs.Legal.{IsLegal}
use Rattle.pool_history.specs.CellInvariant.{entries_with_number, AllBelow}
use Rattle.pool_calls.specs.declared.action.End.TheVariants as ends
use Rattle.pool_calls.specs.declared.kind.Kind.TheVariants as kinds
use Rattle.pool_calls.specs.declared.stage.Object.{Object}
use Rattle.pool_calls.specs.declared.stage.Request.{Request}
use Rattle.pool_calls.specs.declared.stage.Request.TheVariants as requests
use Rattle.pool_calls.specs.declared.stage.Stage.{Stage}
use Rattle.pool_calls.specs.declared.stage.Stage.TheVariants as stages
use Rattle.pool_calls.specs.Rules.{next, step_for, IsExpected}
use Rattle.pool_calls.specs.Steps.{outcome_of}
use Rattle.pool_calls.specs.Table.{go_through, end_by, after_reclaiming, after_removing, after_borrowing, after_lending, after_object, after_freeing, after_failure, after_report}
use Rattle.pool_shared.specs.Plans.{plan_of}
use Rattle.pool_shared.specs.Stages.{asks}
use Rattle.pool_shared.specs.Traces.{turn_of, run_stages, AllExpected}
use Rattle.pool_engines.specs.declared.load_fault.LoadFault.{LoadFault}
use Rattle.pool_load.specs.declared.loading.LoadReport.{LoadReport}
use Rattle.pool_load.specs.Rounds.{IsRefusal, borrows_from, borrowed_to, Round, lends, refuses, IsWorked}
use Rattle.pool_load.specs.Loads.{IsLoad}
use Rattle.pool_load.proofs.Inputs.{AllTest, tests_inputs}
use Rattle.pool_load.proofs.Replies.{is_ready, lends_ready}

-- 1 for an answer that lends
abbrev lent_by : Entry → ℕ
lent_by e = cond (is_lent_answer e.answer) 1 0

-- the number of entries that lend
abbrev lent_in : List Entry → ℕ
lent_in [] = 0
lent_in (e ∷ es) = lent_by e + lent_in es

lent_counted : (es : List Entry) → count_answers is_lent_answer es ≡ lent_in es
lent_counted [] = refl
lent_counted (e ∷ es) = sum_by-cons lent_by e es ∙ ap (λ n. lent_by e + n) (lent_counted es)

-- an entry that reports no object as ready lends none
abbrev Ordered : Entry → Type 0
Ordered e = is_ready e.input ≡ false → is_lent_answer e.answer ≡ false

abbrev AllOrdered : List Entry → Type 0
AllOrdered [] = Unit {0}
AllOrdered (e ∷ es) = Ordered e × AllOrdered es

ordered_each : (es : List Entry) → ((k : ℕ) (e : Entry) → slice_get es k ≡ Some e → Ordered e) → AllOrdered es
ordered_each [] each = tt
ordered_each (x ∷ xs) each = (each 0 x refl, ordered_each xs (λ k e at. each (k + 1) e (rw add-one at)))

ordered_legal : (s : Settings) (J : List Entry) → IsLegal s J → AllOrdered J
ordered_legal s J legal = ordered_each J (λ k e at other. ap is_lent_answer (legal k e at) ∙ lends_ready s e.at (take k J) e.input other)

ordered_parts : (xs ys : List Entry) → AllOrdered (xs ++ ys) → AllOrdered xs × AllOrdered ys
ordered_parts [] ys all = (tt, all)
ordered_parts (x ∷ xs) ys all = let p = ordered_parts xs ys all.1 in ((all.0, p.0), p.1)

ordered_own : (n : ℕ) (es : List Entry) → AllOrdered es → AllOrdered (entries_with_number n es)
ordered_own n [] all = tt
ordered_own n (e ∷ es) all = by_test (e.caller == n) (ordered_own n es all.1)
  where
    by_test : (b : Bool) → AllOrdered (entries_with_number n es) → AllOrdered (if b then (e ∷ entries_with_number n es) else entries_with_number n es)
    by_test true rest = (all.0, rest)
    by_test false rest = rest

lent_parts : (xs ys : List Entry) → lent_in (xs ++ ys) ≡ lent_in xs + lent_in ys
lent_parts [] ys = omega arith
lent_parts (x ∷ xs) ys = let p = lent_parts xs ys in omega (arith, p)

not_lent : (e : Entry) → Ordered e → is_ready e.input ≡ false → lent_by e ≡ 0
not_lent e ordered other = ap (λ b. cond b 1 0) (ordered other)

-- 1 at the stage of a borrow that has lent an object
abbrev lent_at : Stage → ℕ
lent_at (stages.Ends (ends.Lent i)) = 1
lent_at _ = 0

more_not : (began n : ℕ) → lent_at (go_through (kinds.Borrow began) n) ≡ 0
more_not began zero = refl
more_not began (suc n) = refl

beginning_not : (began : ℕ) (a : Answer) → lent_at (after_reclaiming (kinds.Borrow began) a) ≡ 0
beginning_not began (answers.Count n) = more_not began n
beginning_not began _ = refl

removing_not : (began left : ℕ) (a : Answer) → lent_at (after_removing (kinds.Borrow began) left a) ≡ 0
removing_not began left (answers.Reclaimed i) = more_not began left
removing_not began left answers.Nothing = refl
removing_not began left _ = refl

asking_not : (a : Answer) → lent_at (after_borrowing a) ≡ 0
asking_not (answers.Take i) = refl
asking_not (answers.Make i) = refl
asking_not answers.Wait = refl
asking_not answers.Exhausted = refl
asking_not answers.TimedOut = refl
asking_not (answers.Refused causes.Closed) = refl
asking_not (answers.Refused _) = refl
asking_not _ = refl

good_lends : (i : ℕ) (a : Answer) → lent_at (after_lending i a) ≡ cond (is_lent_answer a) 1 0
good_lends i answers.Lent = refl
good_lends i _ = refl

ended_not : (o : Outcome) → lent_at (stages.Ends (end_by o)) ≡ 0
ended_not outcomes.Good = refl
ended_not _ = refl

object_not : (began : ℕ) (object : Object) (o : Outcome) → lent_at (after_object (kinds.Borrow began) object o) ≡ 0
object_not began object o = by_flag object.is_new
  where
    by_flag : (new : Bool) → lent_at (if new then stages.Ends (end_by o) else asks) ≡ 0
    by_flag true = ended_not o
    by_flag false = refl

freeing_not : (began : ℕ) (object : Object) (o : Outcome) (a : Answer) → lent_at (after_freeing (kinds.Borrow began) object o a) ≡ 0
freeing_not began object o answers.Freed = object_not began object o
freeing_not began object o _ = refl

failing_not : (object : Object) (o : Outcome) (a : Answer) → lent_at (after_failure object o a) ≡ 0
failing_not object o answers.Destroy = refl
failing_not object o _ = refl

unready_not : (began : ℕ) (object : Object) (o : Outcome) (a : Answer) → is_good o ≡ false → lent_at (after_report (kinds.Borrow began) object o a) ≡ 0
unready_not began object outcomes.Good a other = absurd (cc other)
unready_not began object outcomes.MakeFailed a other = freeing_not began object outcomes.MakeFailed a
unready_not began object _ a other = failing_not object _ a

unready : (began : ℕ) (object : Object) (o : Outcome) (e : Entry) → Ordered e → e.input ≡ inputs.Ready object.id o → is_good o ≡ false → lent_by e + 0 ≡ lent_at (after_report (kinds.Borrow began) object o e.answer)
unready began object o e ordered is other = let none = not_lent e ordered (ap is_ready is ∙ other) in let a = unready_not began object o e.answer other in omega (arith, none, a)

readied : (began : ℕ) (object : Object) (o : Outcome) (e : Entry) → Ordered e → e.input ≡ inputs.Ready object.id o → lent_by e + 0 ≡ lent_at (after_report (kinds.Borrow began) object o e.answer)
readied began object outcomes.Good e ordered is = let a = good_lends object.id e.answer in omega (arith, a)
readied began object _ e ordered is = unready began object _ e ordered is refl

-- an entry of a borrow lends exactly if it leads to that stage
borrow_step : (s : Settings) (began : ℕ) (st : Stage) (e : Entry) → Ordered e → IsExpected (plan_of s) (kinds.Borrow began) st e.input → lent_by e + lent_at st ≡ lent_at (next (kinds.Borrow began) st (turn_of e))
borrow_step s began (stages.Asks requests.Begin) e ordered due =
    let a = not_lent e ordered (ap is_ready due) in let b = beginning_not began e.answer in omega (arith, a, b)
borrow_step s began (stages.Asks requests.Ask) e ordered due =
    let a = not_lent e ordered (ap is_ready due) in let b = asking_not e.answer in omega (arith, a, b)
borrow_step s began (stages.Asks (requests.Next left)) e ordered due =
    let a = not_lent e ordered (ap is_ready due) in let b = removing_not began left e.answer in omega (arith, a, b)
borrow_step s began (stages.Works object) e ordered due = readied began object (outcome_of e.input) e ordered due.0
borrow_step s began (stages.Removes object o) e ordered due =
    let a = not_lent e ordered (ap is_ready due) in let b = freeing_not began object o e.answer in omega (arith, a, b)
borrow_step s began _ e ordered due = absurd due

borrow_lends : (s : Settings) (began : ℕ) (st : Stage) (es : List Entry) → AllOrdered es → AllExpected s (kinds.Borrow began) st es → lent_in es + lent_at st ≡ lent_at (run_stages (kinds.Borrow began) st es)
borrow_lends s began st [] all due = omega arith
borrow_lends s began st (e ∷ es) all due =
    let here = borrow_step s began st e all.0 due.0 in let rest = borrow_lends s began (next (kinds.Borrow began) st (turn_of e)) es all.1 due.1 in omega (arith, here, rest)

starts_not : (s : Settings) (began : ℕ) → lent_at (borrows_from s began) ≡ 0
starts_not s began = by_flag s.remove_abandoned_on_borrow
  where
    by_flag : (b : Bool) → lent_at (if b then stages.Asks requests.Begin else asks) ≡ 0
    by_flag true = refl
    by_flag false = refl

refusal_not : (st : Stage) → IsRefusal st → lent_at st ≡ 0
refusal_not (stages.Ends (ends.Lent i)) is = absurd is
refusal_not _ is = refl

-- no entry reports an object as ready
abbrev NoneReady : List Entry → Type 0
NoneReady es = AllTest is_ready false es

none_lent : (es : List Entry) → AllOrdered es → NoneReady es → lent_in es ≡ 0
none_lent [] all none = refl
none_lent (e ∷ es) all none = let here = not_lent e all.0 none.0 in let rest = none_lent es all.1 none.1 in omega (arith, here, rest)

return_asks : (i : ℕ) (request : Request) → is_ready (step_for (kinds.Return i) request) ≡ false
return_asks i requests.Begin = refl
return_asks i requests.Ask = refl
return_asks i (requests.Next left) = refl

return_none : (s : Settings) (i : ℕ) (es : List Entry) → AllExpected s (kinds.Return i) asks es → NoneReady es
return_none s i = tests_inputs s (kinds.Return i) is_ready false (return_asks i) (λ j o. refl) (λ j. refl) asks

close_asks : (request : Request) → is_ready (step_for kinds.Close request) ≡ false
close_asks requests.Begin = refl
close_asks requests.Ask = refl
close_asks (requests.Next left) = refl

close_none : (s : Settings) (es : List Entry) → AllExpected s kinds.Close asks es → NoneReady es
close_none s = tests_inputs s kinds.Close is_ready false close_asks (λ j o. refl) (λ j. refl) asks

round_lends : (s : Settings) (f : ℕ) (es : List Entry) → AllOrdered es → Round s f es → lent_in es + f ≡ 1
round_lends s f es all (lends i bs gs is none bought gave) =
    let parts = ordered_parts bs gs (subst AllOrdered is all) in
    let out = borrow_lends s bought.began (borrows_from s bought.began) bs parts.0 bought.due in
    let begins = starts_not s bought.began in
    let ended = ap lent_at bought.ends in
    let back = none_lent gs parts.1 (return_none s i gs gave.due) in
    let both = ap lent_in is ∙ lent_parts bs gs in
    omega (arith, out, begins, ended, back, both, none)
round_lends s f es all (refuses one refused) =
    let out = borrow_lends s refused.began (borrows_from s refused.began) es all refused.due in
    let begins = starts_not s refused.began in
    let ended = refusal_not (borrowed_to s refused.began es) refused.ends in
    omega (arith, out, begins, ended, one)

worked_lends : (s : Settings) (r f : ℕ) (es : List Entry) → AllOrdered es → IsWorked s r f es → lent_in es + f ≡ r
worked_lends s zero f es all w = let none = ap lent_in w.1 in let is = w.0 in omega (arith, none, is)
worked_lends s (suc r) f es all w =
    let parts = ordered_parts w.0 w.1 (subst AllOrdered w.4 all) in
    let first = round_lends s w.2 w.0 parts.0 w.6 in
    let rest = worked_lends s r w.3 w.1 parts.1 w.7 in
    let both = ap lent_in w.4 ∙ lent_parts w.0 w.1 in
    let sums = w.5 in
    omega (arith, first, rest, both, sums)

-- the sum of a function over the numbers below n
abbrev sum_to : (ℕ → ℕ) → ℕ → ℕ
sum_to f zero = 0
sum_to f (suc n) = sum_to f n + f n

sum_same : (f g : ℕ → ℕ) (n : ℕ) → ((k : ℕ) → k < n → f k ≡ g k) → sum_to f n ≡ sum_to g n
sum_same f g zero same = refl
sum_same f g (suc n) same = let rest = sum_same f g n (λ k lt. same k (omega (arith, lt))) in let here = same n (omega arith) in omega (arith, rest, here)

same_number : (c n : ℕ) → (c == n) ≡ true → c ≡ n
same_number c n same = grind (arith, nat_tests)

other_number : (c n : ℕ) → (c == n) ≡ false → c < suc n → c < n
other_number c n other lt = let le : c < n + 1 = omega (arith, lt) in grind (arith, nat_tests)

-- an entry of a caller counts once, at its number
sum_but_one : (c b : ℕ) (g : ℕ → ℕ) (n : ℕ) → ((n ≤ c) → sum_to (λ k. (if c == k then b else 0) + g k) n ≡ sum_to g n) × ((c < n) → sum_to (λ k. (if c == k then b else 0) + g k) n ≡ b + sum_to g n)
sum_but_one c b g zero = ((λ past. refl), (λ below. absurd (omega (arith, below))))
sum_but_one c b g (suc n) = by_test (c == n) refl (sum_but_one c b g n).0 (sum_but_one c b g n).1
  where
    by_test : (t : Bool) → (c == n) ≡ t → (n ≤ c → sum_to (λ k. (if c == k then b else 0) + g k) n ≡ sum_to g n) → (c < n → sum_to (λ k. (if c == k then b else 0) + g k) n ≡ b + sum_to g n)
        → ((suc n ≤ c) → sum_to (λ k. (if c == k then b else 0) + g k) (suc n) ≡ sum_to g (suc n)) × ((c < suc n) → sum_to (λ k. (if c == k then b else 0) + g k) (suc n) ≡ b + sum_to g (suc n))
    by_test true is past below =
        let same = same_number c n is in
        let here : (if c == n then b else 0) ≡ b = ap (λ (t : Bool). if t then b else 0) is in
        ((λ le. absurd (omega (arith, le, same))), (λ lt. let so_far = past (omega (arith, same)) in omega (arith, so_far, here)))
    by_test false is past below =
        let here : (if c == n then b else 0) ≡ 0 = ap (λ (t : Bool). if t then b else 0) is in
        ((λ le. let so_far = past (omega (arith, le)) in omega (arith, so_far, here)), (λ lt. let so_far = below (other_number c n is lt) in omega (arith, so_far, here)))

own_lends : (n : ℕ) (e : Entry) (es : List Entry) → lent_in (entries_with_number n (e ∷ es)) ≡ (if e.caller == n then lent_by e else 0) + lent_in (entries_with_number n es)
own_lends n e es = by_test (e.caller == n)
  where
    by_test : (b : Bool) → lent_in (if b then (e ∷ entries_with_number n es) else entries_with_number n es) ≡ (if b then lent_by e else 0) + lent_in (entries_with_number n es)
    by_test true = refl
    by_test false = omega arith

zeros : (n : ℕ) → sum_to (λ k. 0) n ≡ 0
zeros zero = refl
zeros (suc n) = let rest = zeros n in omega (arith, rest)

all_lends : (n : ℕ) (es : List Entry) → AllBelow n es → lent_in es ≡ sum_to (λ k. lent_in (entries_with_number k es)) n
all_lends n [] below = sym (zeros n)
all_lends n (e ∷ es) below =
    let rest = all_lends n es below.1 in
    let split = sum_same (λ k. lent_in (entries_with_number k (e ∷ es))) (λ k. (if e.caller == k then lent_by e else 0) + lent_in (entries_with_number k es)) n (λ k lt. own_lends k e es) in
    let one = (sum_but_one e.caller (lent_by e) (λ k. lent_in (entries_with_number k es)) n).1 below.0 in
    omega (arith, rest, split, one)

-- the sum from the first element on
abbrev total : List ℕ → ℕ
total [] = 0
total (x ∷ xs) = x + total xs

sum_total : (xs : List ℕ) → sum xs ≡ total xs
sum_total [] = refl
sum_total (x ∷ xs) = sum_by-cons (λ y. y) x xs ∙ ap (λ n. x + n) (sum_total xs)

sum_shift : (f : ℕ → ℕ) (n : ℕ) → sum_to f (suc n) ≡ f 0 + sum_to (λ k. f (suc k)) n
sum_shift f zero = omega arith
sum_shift f (suc n) = let rest = sum_shift f n in omega (arith, rest)

total_at : (xs : List ℕ) → total xs ≡ sum_to (λ w. slice_index xs w) (length xs)
total_at [] = refl
total_at (x ∷ xs) = let rest = total_at xs in let shift = sum_shift (λ w. slice_index (x ∷ xs) w) (length xs) in omega (arith, rest, shift)

-- the sum of two sums over the numbers below n, if each pair adds up to r
pairs : (f g : ℕ → ℕ) (r n : ℕ) → ((k : ℕ) → k < n → f k + g k ≡ r) → sum_to f n + sum_to g n ≡ n * r
pairs f g r zero each = sym (zero-mul r)
pairs f g r (suc n) each =
    let rest = pairs f g r n (λ k lt. each k (omega (arith, lt))) in
    let here = each n (omega arith) in
    let more : suc n * r ≡ n * r + r = suc-mul n r in
    omega (arith, rest, here, more)

-- in each of the rounds an object was lent or the borrow was refused
pub all_rounds : (s : Settings) (workers rounds refused : ℕ) (r : LoadReport) → IsLoad s workers rounds refused r.stats → r.stats.borrowed + refused ≡ workers * rounds
all_rounds s workers rounds refused r load =
    let J = load.journal in
    let all = ordered_legal s J load.legal in
    let one : workers + 1 ≡ suc workers = omega arith in
    let lent = all_lends (suc workers) J (subst (λ n. AllBelow n J) one load.below) in
    let row = load.closed.row in
    let last : row.0.es ≡ entries_with_number workers J = sym row.0.made ∙ load.closed.appended in
    let none = none_lent (entries_with_number workers J) (ordered_own workers J all) (subst NoneReady last (close_none s row.0.es row.0.due)) in
    let each = pairs (λ w. lent_in (entries_with_number w J)) (λ w. slice_index load.refusals w) rounds workers (λ w lt. worked_lends s rounds (slice_index load.refusals w) (entries_with_number w J) (ordered_own w J all) (load.worked w lt)) in
    let sums : refused ≡ sum_to (λ w. slice_index load.refusals w) workers =
    load.all ∙ sum_total load.refusals ∙ total_at load.refusals ∙ ap (λ n. sum_to (λ w. slice_index load.refusals w) n) load.each in
    let reported : r.stats.borrowed ≡ lent_in J = ap (λ t. t.borrowed) load.reported ∙ lent_counted J in
    omega (arith, lent, none, each, sums, reported)

pub ok_rounds : (s : Settings) (workers rounds : ℕ) (r : Result LoadReport LoadFault) → IfOk r (λ r. IsLoad s workers rounds r.refused r.stats) → IfOk r (λ r. r.stats.borrowed + r.refused ≡ workers * rounds)
ok_rounds s workers rounds (Ok r) load = all_rounds s workers rounds r.refused r load
ok_rounds s workers rounds (Err fault) load = tt
