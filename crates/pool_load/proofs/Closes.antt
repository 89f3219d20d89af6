-- A close after rounds of other callers is whole: it ends when no object is idle, and never fails.
use Rattle.std.proofs.Common.{◌≡◌, ℕ, zero, suc, ◌+◌, ◌<◌, ◌==◌, Bool, true, false, if◌then◌else◌, List, [], ◌∷◌, ◌++◌, length, Result, Ok, Err, append_assoc, append-nil, refl, ap, sym, ◌∙◌, subst, arith}
use Rattle.std.specs.Prelude.{◌||◌}
use Rattle.std.proofs.lemmas.Bool.Decides.{nat_tests}
use Rattle.pool_journal.specs.Base.{empty_base}
use Rattle.pool_journal.specs.Journal.{records, closed, cursor, drawn}
use Rattle.pool_journal.specs.Entries.{is_closing}
use Rattle.pool_journal.specs.Queue.{idle_queue, first_of}
use Rattle.pool_journal.specs.declared.record.Record.{Record}
use Rattle.pool_journal.specs.declared.entry.Entry.{Entry}
use Rattle.pool_journal.specs.declared.input.Input.{Input}
use Rattle.pool_journal.specs.declared.input.Input.TheVariants as inputs
use Rattle.pool_journal.specs.declared.input.Outcome.{Outcome}
use Rattle.pool_journal.specs.declared.answer.Answer.{Answer}
use Rattle.pool_journal.specs.declared.answer.Answer.TheVariants as answers
use Rattle.pool_journal.proofs.Pushed.{closed_from-push}
use Rattle.pool_journal.proofs.Starting.{closed_from-none, empty_is_sound}
use Rattle.pool_settings.specs.declared.settings.Settings.{Settings}
use Rattle.pool_core.specs.Legal.{IsLegal}
use Rattle.pool_core.specs.Reply.{reply, reply_from_records, clear_next_reply}
use Rattle.pool_core.proofs.Legality.{legal_front, legal_from_pop}
use Rattle.pool_core.proofs.Whole.{IsDue}
use Rattle.pool_history.specs.CallerStates.{CallerState, newcomer_at}
use Rattle.pool_history.specs.CellInvariant.{entries_with_number, AllBelow, IsPrefix}
use Rattle.pool_shared.specs.declared.faults.PoolFault.{PoolFault}
use Rattle.pool_shared.specs.declared.faults.PoolFault.TheVariants as pool_faults
use Rattle.pool_calls.specs.declared.action.End.TheVariants as ends
use Rattle.pool_calls.specs.declared.kind.Kind.{Kind}
use Rattle.pool_calls.specs.declared.kind.Kind.TheVariants as kinds
use Rattle.pool_calls.specs.declared.stage.Object.{Object}
use Rattle.pool_calls.specs.declared.stage.Request.{Request}
use Rattle.pool_calls.specs.declared.stage.Request.TheVariants as requests
use Rattle.pool_calls.specs.declared.stage.Stage.{Stage}
use Rattle.pool_calls.specs.declared.stage.Stage.TheVariants as stages
use Rattle.pool_calls.specs.Rules.{next, step_for, IsExpected}
use Rattle.pool_calls.specs.Table.{after_clearing, after_taking, after_freeing, after_returning, go_through}
use Rattle.pool_shared.specs.Plans.{plan_of}
use Rattle.pool_shared.specs.Stages.{asks, complete}
use Rattle.pool_shared.specs.Traces.{turn_of, run_stages, AllExpected}
use Rattle.pool_shared.specs.Clears.{MaySweep, CloseEnds}
use Rattle.pool_engines.specs.declared.load_fault.LoadFault.{LoadFault}
use Rattle.pool_engines.specs.declared.load_fault.LoadFault.TheVariants as stops
use Rattle.pool_load.specs.Rounds.{borrows_from, Round, lends, refuses, IsWorked, RoundStopped, borrowing, returning, StopsInRounds}
use Rattle.pool_load.specs.Loads.{OnlyWorks}
use Rattle.pool_load.proofs.Inputs.{AllTest, tests_inputs}
use Rattle.pool_load.proofs.Rows.{is_asking, giving_not, not_again}
use Rattle.pool_load.proofs.IdleObjects.{idle_in, is_steady, is_of_round, queue_is, idle_stays, round_stays, idle_leaves}

-- ---- the entries of rounds

abbrev pub AllOfRounds : List Entry → Type 0
AllOfRounds es = AllTest is_of_round true es

rounds_joined : (xs ys : List Entry) → AllOfRounds xs → AllOfRounds ys → AllOfRounds (xs ++ ys)
rounds_joined [] ys first rest = rest
rounds_joined (x ∷ xs) ys first rest = (first.0, rounds_joined xs ys first.1 rest)

borrow_asks : (began : ℕ) (request : Request) → is_of_round (step_for (kinds.Borrow began) request) ≡ true
borrow_asks began requests.Begin = refl
borrow_asks began requests.Ask = refl
borrow_asks began (requests.Next left) = refl

borrow_inputs : (s : Settings) (began : ℕ) (st : Stage) (es : List Entry) → AllExpected s (kinds.Borrow began) st es → AllOfRounds es
borrow_inputs s began = tests_inputs s (kinds.Borrow began) is_of_round true (borrow_asks began) (λ i o. refl) (λ i. refl)

-- those of a return after its first
later_input : (s : Settings) (i : ℕ) (st : Stage) (input : Input) → is_asking st ≡ false → IsExpected (plan_of s) (kinds.Return i) st input → is_of_round input ≡ true
later_input s i (stages.Asks request) input not due = absurd (cc not)
later_input s i (stages.Works object) input not due = ap is_of_round due.0
later_input s i (stages.Removes object o) input not due = ap is_of_round due
later_input s i _ input not due = absurd due

later_inputs : (s : Settings) (i : ℕ) (st : Stage) (es : List Entry) → is_asking st ≡ false → AllExpected s (kinds.Return i) st es → AllOfRounds es
later_inputs s i st [] not due = tt
later_inputs s i st (e ∷ es) not due = (later_input s i st e.input not due.0, later_inputs s i (next (kinds.Return i) st (turn_of e)) es (not_again i st (turn_of e) not) due.1)

return_inputs : (s : Settings) (i : ℕ) (es : List Entry) → AllExpected s (kinds.Return i) asks es → AllOfRounds es
return_inputs s i [] due = tt
return_inputs s i (e ∷ es) due = (ap is_of_round due.0, later_inputs s i (after_returning i e.answer) es (giving_not i e.answer) due.1)

round_inputs : (s : Settings) (f : ℕ) (es : List Entry) → Round s f es → AllOfRounds es
round_inputs s f es (lends i bs gs is none bought gave) =
    subst AllOfRounds (sym is) (rounds_joined bs gs (borrow_inputs s bought.began (borrows_from s bought.began) bs bought.due) (return_inputs s i gs gave.due))
round_inputs s f es (refuses one refused) = borrow_inputs s refused.began (borrows_from s refused.began) es refused.due

worked_inputs : (s : Settings) (r f : ℕ) (es : List Entry) → IsWorked s r f es → AllOfRounds es
worked_inputs s zero f es w = subst AllOfRounds (sym w.1) tt
worked_inputs s (suc r) f es w = subst AllOfRounds (sym w.4) (rounds_joined w.0 w.1 (round_inputs s w.2 w.0 w.6) (worked_inputs s r w.3 w.1 w.7))

part_inputs : (s : Settings) (f : PoolFault) (es : List Entry) (me : CallerState) → RoundStopped s f es me → AllOfRounds es
part_inputs s f es me (borrowing b) = borrow_inputs s b.began (borrows_from s b.began) es b.due
part_inputs s f es me (returning i r) = borrow_inputs s r.borrowed.began (borrows_from s r.borrowed.began) es r.borrowed.due

stopped_inputs : (s : Settings) (rounds n : ℕ) (f : PoolFault) (me : CallerState) → StopsInRounds s rounds f (newcomer_at n) me → AllOfRounds me.appended
stopped_inputs s rounds n f me x =
    subst AllOfRounds (sym x.made) (rounds_joined x.whole x.part (worked_inputs s x.done x.refused x.whole x.worked) (part_inputs s f x.part me x.stopped))

pub works_inputs : (s : Settings) (rounds : ℕ) (o : Result ℕ LoadFault) (n : ℕ) (J : List Entry) → OnlyWorks s rounds o n J → AllOfRounds (entries_with_number n J)
works_inputs s rounds (Ok refused) n J w = worked_inputs s rounds refused (entries_with_number n J) w
works_inputs s rounds (Err stops.NoThread) n J w = subst AllOfRounds (sym w) tt
works_inputs s rounds (Err stops.JournalFull) n J w = subst AllOfRounds w.1 (stopped_inputs s rounds n pool_faults.JournalFull w.0 w.3)
works_inputs s rounds (Err stops.OutOfMemory) n J w = subst AllOfRounds w.1 (stopped_inputs s rounds n pool_faults.OutOfMemory w.0 w.3)
works_inputs s rounds (Err _) n J w = absurd w.3

-- the entries of all callers but one are those of rounds
abbrev OthersOfRounds : ℕ → List Entry → Type 0
OthersOfRounds n [] = Unit {0}
OthersOfRounds n (e ∷ es) = ((e.caller == n) ≡ false → is_of_round e.input ≡ true) × OthersOfRounds n es

front_others : (n : ℕ) (xs ys : List Entry) → OthersOfRounds n (xs ++ ys) → OthersOfRounds n xs
front_others n [] ys all = tt
front_others n (x ∷ xs) ys all = (all.0, front_others n xs ys all.1)

first_of_round : (e : Entry) (es : List Entry) → AllOfRounds (entries_with_number e.caller (e ∷ es)) → is_of_round e.input ≡ true
first_of_round e es all = by_test (e.caller == e.caller) (grind (arith, nat_tests)) all
  where
    by_test : (t : Bool) → t ≡ true → AllOfRounds (if t then e ∷ entries_with_number e.caller es else entries_with_number e.caller es) → is_of_round e.input ≡ true
    by_test true is all = all.0
    by_test false is all = absurd (cc is)

later_of_rounds : (n : ℕ) (e : Entry) (es : List Entry) → AllOfRounds (entries_with_number n (e ∷ es)) → AllOfRounds (entries_with_number n es)
later_of_rounds n e es all = by_test (e.caller == n) all
  where
    by_test : (t : Bool) → AllOfRounds (if t then e ∷ entries_with_number n es else entries_with_number n es) → AllOfRounds (entries_with_number n es)
    by_test true all = all.1
    by_test false all = all

others_of_rounds : (n : ℕ) (H : List Entry) → AllBelow (n + 1) H → ((w : ℕ) → w < n → AllOfRounds (entries_with_number w H)) → OthersOfRounds n H
others_of_rounds n [] below each = tt
others_of_rounds n (e ∷ es) below each = (
  λ other. let lt = below.0 in first_of_round e es (each e.caller (grind (arith, nat_tests))),
  others_of_rounds n es below.1 (λ w lt. later_of_rounds w e es (each w lt)),
)

-- ---- a close among them

-- before it the pool is open; then it is closed, and as many objects are idle as are left to be destroyed
abbrev Sweeping : Stage → List Entry → Type 0
Sweeping (stages.Asks requests.Begin) J = ⊥
Sweeping (stages.Asks requests.Ask) J = closed J ≡ false
Sweeping (stages.Asks (requests.Next left)) J = (closed J ≡ true) × (idle_in J ≡ suc left)
Sweeping (stages.Works object) J = ⊥
Sweeping (stages.Removes object o) J = (closed J ≡ true) × (idle_in J ≡ object.left)
Sweeping _ J = Unit {0}

stays_closed : (J : List Entry) (e : Entry) → closed J ≡ true → closed (J ++ e ∷ []) ≡ true
stays_closed J e shut = closed_from-push empty_base J e ∙ ap (λ (b : Bool). b || is_closing e.answer e.input) shut

not_closing : (a : Answer) (input : Input) → is_of_round input ≡ true → is_closing a input ≡ false
not_closing (answers.Count n) inputs.Close one = absurd (cc one)
not_closing (answers.Count n) _ one = refl
not_closing _ input one = refl

stays_open : (J : List Entry) (e : Entry) → closed J ≡ false → is_of_round e.input ≡ true → closed (J ++ e ∷ []) ≡ false
stays_open J e open_ one = closed_from-push empty_base J e ∙ ap (λ (b : Bool). b || is_closing e.answer e.input) open_ ∙ not_closing e.answer e.input one

-- an entry of another caller
others_step : (s : Settings) (st : Stage) (J : List Entry) (e : Entry) → IsDue s J e → is_of_round e.input ≡ true → Sweeping st J → Sweeping st (J ++ e ∷ [])
others_step s (stages.Asks requests.Begin) J e due one so_far = absurd so_far
others_step s (stages.Asks requests.Ask) J e due one so_far = stays_open J e so_far one
others_step s (stages.Asks (requests.Next left)) J e due one so_far = (stays_closed J e so_far.0, round_stays s J e due so_far.0 one ∙ so_far.1)
others_step s (stages.Works object) J e due one so_far = absurd so_far
others_step s (stages.Removes object o) J e due one so_far = (stays_closed J e so_far.0, round_stays s J e due so_far.0 one ∙ so_far.1)
others_step s _ J e due one so_far = tt

-- as many are left as are idle
goes_on : (k : Kind) (n : ℕ) (J : List Entry) → MaySweep k → closed J ≡ true → idle_in J ≡ n → Sweeping (go_through k n) J
goes_on kinds.Clear zero J may shut idle = tt
goes_on kinds.Clear (suc left) J may shut idle = (shut, idle)
goes_on kinds.Close zero J may shut idle = tt
goes_on kinds.Close (suc left) J may shut idle = (shut, idle)
goes_on _ n J may shut idle = absurd may

-- the Close
closes : (s : Settings) (J : List Entry) (e : Entry) → IsDue s J e → e.input ≡ inputs.Close → closed J ≡ false → Sweeping (after_clearing e.answer) (J ++ e ∷ [])
closes s J e due asked open_ =
    let n = length (idle_queue (records J)) in
    let is : e.answer ≡ answers.Count n =
    due.is ∙ ap (reply s J e.at) asked ∙ ap (λ (b : Bool). reply_from_records s (records J) (drawn J) b (cursor J) e.at inputs.Close) open_ in
    let same = idle_stays s J e due (ap is_steady is) in
    let shut : closed (J ++ e ∷ []) ≡ true =
    closed_from-push empty_base J e ∙ ap (λ (b : Bool). b || is_closing e.answer e.input) open_ ∙ ap (λ a. is_closing a e.input) is ∙ ap (is_closing (answers.Count n)) asked in
    subst (λ (a : Answer). Sweeping (after_clearing a) (J ++ e ∷ [])) (sym is) (goes_on kinds.Clear n (J ++ e ∷ []) tt shut (same ∙ sym (queue_is J)))

-- a ClearNext
takes_away : (s : Settings) (left : ℕ) (J : List Entry) (e : Entry) → IsDue s J e → e.input ≡ inputs.ClearNext → closed J ≡ true → idle_in J ≡ suc left → Sweeping (after_taking left e.answer) (J ++ e ∷ [])
takes_away s left J e due asked shut idle = by_first (idle_queue (records J)) refl
  where
    answered : e.answer ≡ clear_next_reply (first_of (idle_queue (records J)))
    answered = due.is ∙ ap (reply s J e.at) asked

    by_first : (q : List Record) → idle_queue (records J) ≡ q → Sweeping (after_taking left e.answer) (J ++ e ∷ [])
    by_first [] none =
        let empty : length (idle_queue (records J)) ≡ 0 = ap length none in
        absurd (omega (arith, empty, queue_is J, idle))
    by_first (r ∷ rs) first =
        let is : e.answer ≡ answers.DestroyIdle r.id = answered ∙ ap (λ q. clear_next_reply (first_of q)) first in
        let fewer = idle_leaves s J e r.id due is in
        subst (λ (a : Answer). Sweeping (after_taking left a) (J ++ e ∷ [])) (sym is) (stays_closed J e shut, omega (arith, fewer, idle))

-- a Destroyed
frees : (object : Object) (o : Outcome) (a : Answer) (J : List Entry) → closed J ≡ true → idle_in J ≡ object.left → Sweeping (after_freeing kinds.Close object o a) J
frees object o answers.Freed J shut idle = goes_on kinds.Close object.left J tt shut idle
frees object o _ J shut idle = tt

own_step : (s : Settings) (st : Stage) (J : List Entry) (e : Entry) → IsDue s J e → IsExpected (plan_of s) kinds.Close st e.input → Sweeping st J → Sweeping (next kinds.Close st (turn_of e)) (J ++ e ∷ [])
own_step s (stages.Asks requests.Begin) J e due asked so_far = absurd so_far
own_step s (stages.Asks requests.Ask) J e due asked so_far = closes s J e due asked so_far
own_step s (stages.Asks (requests.Next left)) J e due asked so_far = takes_away s left J e due asked so_far.0 so_far.1
own_step s (stages.Works object) J e due asked so_far = absurd so_far
own_step s (stages.Removes object o) J e due asked so_far =
    frees object o e.answer (J ++ e ∷ []) (stays_closed J e so_far.0) (round_stays s J e due so_far.0 (ap is_of_round asked) ∙ so_far.1)
own_step s _ J e due asked so_far = absurd asked

-- the entries of a close among those of rounds
along : (s : Settings) (n : ℕ) (K J : List Entry) (st : Stage) → IsLegal s (K ++ J) → OthersOfRounds n J → AllExpected s kinds.Close st (entries_with_number n J)
    → Sweeping st K → Sweeping (run_stages kinds.Close st (entries_with_number n J)) (K ++ J)
along s n K [] st legal others asked so_far = subst (Sweeping st) (sym (append-nil K)) so_far
along s n K (e ∷ J) st legal others asked so_far =
    let legal_on : IsLegal s ((K ++ e ∷ []) ++ J) = subst (IsLegal s) (sym (append_assoc K (e ∷ []) J)) legal in
    let here = legal_from_pop s empty_base K e (legal_front s empty_base (K ++ e ∷ []) J legal_on) in
    by_test (record { sound = empty_is_sound; legal = here.0; is = here.1 }) (e.caller == n) refl asked (λ st asked so_far. along s n (K ++ e ∷ []) J st legal_on others.1 asked so_far)
  where
    by_test : IsDue s K e → (t : Bool) → (e.caller == n) ≡ t → AllExpected s kinds.Close st (if t then e ∷ entries_with_number n J else entries_with_number n J)
        → ((st : Stage) → AllExpected s kinds.Close st (entries_with_number n J) → Sweeping st (K ++ e ∷ []) → Sweeping (run_stages kinds.Close st (entries_with_number n J)) ((K ++ e ∷ []) ++ J))
        → Sweeping (run_stages kinds.Close st (if t then e ∷ entries_with_number n J else entries_with_number n J)) (K ++ e ∷ J)
    by_test due true is asked again =
        subst (Sweeping (run_stages kinds.Close (next kinds.Close st (turn_of e)) (entries_with_number n J))) (append_assoc K (e ∷ []) J) (again (next kinds.Close st (turn_of e)) asked.1 (own_step s st K e due asked.0 so_far))
    by_test due false is asked again =
        subst (Sweeping (run_stages kinds.Close st (entries_with_number n J))) (append_assoc K (e ∷ []) J) (again st asked (others_step s st K e due (others.0 is) so_far))

-- a close that took this many objects, at a stage at which it is complete
pub record ClosesWhole (result : Result ℕ PoolFault) (to : Stage) : Type 0 where
  pub taken : ℕ
  pub is : result ≡ Ok taken
  pub over : to ≡ complete

ends_whole : (s : Settings) (to : Stage) (result : Result ℕ PoolFault) (me : CallerState) → Sweeping to me.observed → CloseEnds s to result me → ClosesWhole result to
ends_whole s (stages.Ends ends.Complete) (Ok n) me so_far own = record { taken = n; is = refl; over = refl }
ends_whole s (stages.Asks (requests.Next left)) (Ok n) me so_far own =
    let none : length (idle_queue (records me.observed)) ≡ 0 = ap length own.1 in
    absurd (omega (arith, none, queue_is me.observed, so_far.1))
ends_whole s (stages.Asks requests.Ask) (Err f) me so_far own = absurd (cc (sym so_far ∙ own.1))
ends_whole s (stages.Ends ends.Complete) (Err f) me so_far own = absurd own
ends_whole s _ (Ok n) me so_far own = absurd own
ends_whole s _ (Err f) me so_far own = absurd own

-- a close by the caller n, in a history in which all other entries are those of rounds, is whole
pub close_whole : (s : Settings) (n : ℕ) (H : List Entry) (result : Result ℕ PoolFault) (me : CallerState) → AllBelow (n + 1) H
    → ((w : ℕ) → w < n → AllOfRounds (entries_with_number w H)) → IsPrefix me.observed H → IsLegal s me.observed
    → (es : List Entry) → es ≡ entries_with_number n me.observed → AllExpected s kinds.Close asks es → CloseEnds s (run_stages kinds.Close asks es) result me
    → ClosesWhole result (run_stages kinds.Close asks es)
close_whole s n H result me below worked seen legal es own asked over =
    let others = front_others n me.observed seen.0 (subst (OthersOfRounds n) seen.1 (others_of_rounds n H below worked)) in
    let swept = along s n [] me.observed asks legal others (subst (AllExpected s kinds.Close asks) own asked) (closed_from-none empty_base) in
    ends_whole s (run_stages kinds.Close asks es) result me (subst (λ es. Sweeping (run_stages kinds.Close asks es) me.observed) (sym own) swept) over
