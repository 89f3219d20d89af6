-- The trace of additions, and of a fill.
use Rattle.std.proofs.Common.{◌≡◌, ℕ, ◌+◌, ◌^◌, ◌<◌, ◌≤◌, ◌==◌, Bool, true, false, List, [], ◌∷◌, length, Some, Result, Ok, Err, length-append, refl, sym, ap, subst, arith}
use Rattle.std.specs.Prelude.{not, OnOk}
use Rattle.std.proofs.lemmas.List.Filters.{length-filter_both}
use Rattle.std.proofs.lemmas.List.Sums.{count_by-le-length}
use Rattle.pool_journal.specs.declared.entry.Entry.{Entry}
use Rattle.pool_journal.specs.declared.input.Input.{Input}
use Rattle.pool_journal.specs.declared.input.Input.TheVariants.{Add, Fill, Added, Destroyed}
use Rattle.pool_journal.specs.declared.input.Outcome.{Outcome}
use Rattle.pool_journal.specs.declared.input.Outcome.TheVariants as outcomes
use Rattle.pool_journal.specs.declared.record.Phase.TheVariants as phases
use Rattle.pool_journal.specs.declared.answer.Answer.{Answer}
use Rattle.pool_journal.specs.declared.answer.Answer.TheVariants as answers
use Rattle.pool_journal.specs.Entries.{move_of_entry, is_parked_answer}
use Rattle.pool_settings.specs.declared.settings.Settings.{Settings}
use Rattle.pool_core.specs.Legal.{entry_of}
use Rattle.pool_history.specs.CellInvariant.{entries_with_number}
use Rattle.pool_history.specs.CallerStates.{CallerState, Advances}
use Rattle.pool_lock.specs.Sections.{OwnsObject, AppendsAnswer}
use Rattle.pool_calls.specs.declared.action.End.TheVariants as ends
use Rattle.pool_calls.specs.declared.kind.Kind.TheVariants as kinds
use Rattle.pool_calls.specs.declared.stage.Stage.TheVariants as stages
use Rattle.pool_calls.specs.Table.{works, end_by}
use Rattle.pool_shared.specs.declared.faults.Addition.{Addition}
use Rattle.pool_shared.specs.declared.faults.Addition.TheVariants as additions
use Rattle.pool_shared.specs.declared.faults.AddFault.{AddFault}
use Rattle.pool_shared.specs.declared.faults.AddFault.TheVariants as faults
use Rattle.pool_shared.specs.declared.faults.PoolFault.{PoolFault}
use Rattle.pool_shared.specs.declared.faults.PoolFault.TheVariants as pool_faults
use Rattle.pool_shared.specs.Stages.{asks, complete}
use Rattle.pool_shared.specs.Traces.{Trace, EndsWithOwn}
use Rattle.pool_shared.specs.TraceToResult.{IsRoomFault}
use Rattle.pool_shared.specs.Faults.{add_fault}
use Rattle.pool_shared.specs.Adds.{ending, FinalState, AddEnds, AddSpec, IsAddFaultFrom, IsFailure, IsStocked}
use Rattle.pool_shared.specs.Fills as fills
use Rattle.pool_shared.specs.Fills.{Parks, FillEnds, Fills, FillSpec, FillStep, Stocks, idle, filling, parked_by, parked_in}
use Rattle.pool_shared.proofs.Traces.{trace_by, trace_on, trace_destroyed, count_one, count_miss}
use Rattle.pool_shared.proofs.TracesToResults.{row_at, row_none, row_on}

stocked_leaves : {E : Type 0} (s : Settings) (input : Input) (r : Result Addition (AddFault E)) (me : CallerState) → IsStocked r → EndsWithOwn me → FinalState s input r me
stocked_leaves s input (Ok a) me is ends = ends
stocked_leaves s input (Err faults.Closed) me is ends = absurd is
stocked_leaves s input (Err (faults.MakeFailed f)) me is ends = ends
stocked_leaves s input (Err faults.CreateTestFailed) me is ends = ends
stocked_leaves s input (Err (faults.PassivateFailed f)) me is ends = ends
stocked_leaves s input (Err faults.JournalFull) me is ends = absurd is
stocked_leaves s input (Err faults.OutOfMemory) me is ends = absurd is

-- an addition that found a place
pub added : {E : Type 0} (s : Settings) (i : ℕ) (x : Answer) (r : Result Addition (AddFault E)) (a b c : CallerState) → x ≡ answers.Make i → AppendsAnswer Add x a b
    → IsStocked r → Stocks s i (ending r) (filling r) (parked_in r) b c → EndsWithOwn c → AddSpec s r a c
added s i x r a b c is made stocked w own =
    row_at s kinds.Add (AddEnds s) asks (ending r) r a c (trace_on s kinds.Add asks (works i true 0) (ending r) a b c (trace_by s kinds.Add asks (works i true 0) Add x (answers.Make i) a b is made refl refl) w.in_addition)
    (refl, stocked_leaves s Add r c stocked own)

-- an addition whose first critical section failed
pub add_refused : {E : Type 0} (s : Settings) (f : PoolFault) (before after : CallerState) → after.appended ≡ before.appended → IsRoomFault s Add f after → AddSpec {E = E} s (Err (add_fault f)) before after
add_refused {E} s pool_faults.JournalFull before after same why = row_none s kinds.Add (AddEnds {E = E} s) asks (Err faults.JournalFull) before after same (refl, why)
add_refused {E} s pool_faults.OutOfMemory before after same why = row_none s kinds.Add (AddEnds {E = E} s) asks (Err faults.OutOfMemory) before after same (refl, why)
add_refused s pool_faults.Closed before after same why = absurd why.1

-- it has no error of the factory
pub not_from_factory : {E : Type 0} (make passivate : E → Type 0) (f : PoolFault) → IsAddFaultFrom make passivate (add_fault f)
not_from_factory make passivate pool_faults.Closed = tt
not_from_factory make passivate pool_faults.JournalFull = tt
not_from_factory make passivate pool_faults.OutOfMemory = tt

-- ---- an object that was made, in an addition or in a fill
parks_none : (i : ℕ) (o : Outcome) (x : Answer) (a b c : CallerState) → x ≡ answers.Destroy → AppendsAnswer (Added i o) x a b → AppendsAnswer (Destroyed i) answers.Freed b c → Parks 0 a c
parks_none i o x a b c is made freed = count_miss is_parked_answer 0 (Destroyed i) answers.Freed answers.Freed a b c refl freed (count_one is_parked_answer (Added i o) x answers.Destroy a b is made) refl

-- one that can't become idle is destroyed
pub turned_out : (s : Settings) (i : ℕ) (o : Outcome) (x : Answer) (a b c : CallerState) → IsFailure s o → x ≡ answers.Destroy → AppendsAnswer (Added i o) x a b → AppendsAnswer (Destroyed i) answers.Freed b c
    → Stocks s i (stages.Ends (end_by o)) (stages.Ends (end_by o)) 0 a c
turned_out s i outcomes.CreateTestFailed x a b c failure is made freed =
    record {
      in_addition = trace_destroyed s kinds.Add (works i true 0) (stages.Ends ends.CreateTestFailed) i (Added i outcomes.CreateTestFailed) x answers.Destroy a b c is made freed (refl, failure) refl refl;
      in_fill = trace_destroyed s kinds.Fill (works i true 0) (stages.Ends ends.CreateTestFailed) i (Added i outcomes.CreateTestFailed) x answers.Destroy a b c is made freed (refl, failure) refl refl;
      parked = parks_none i outcomes.CreateTestFailed x a b c is made freed;
    }
turned_out s i outcomes.PassivateFailed x a b c failure is made freed =
    record {
      in_addition = trace_destroyed s kinds.Add (works i true 0) (stages.Ends ends.PassivateFailed) i (Added i outcomes.PassivateFailed) x answers.Destroy a b c is made freed (refl, refl) refl refl;
      in_fill = trace_destroyed s kinds.Fill (works i true 0) (stages.Ends ends.PassivateFailed) i (Added i outcomes.PassivateFailed) x answers.Destroy a b c is made freed (refl, refl) refl refl;
      parked = parks_none i outcomes.PassivateFailed x a b c is made freed;
    }
turned_out s i _ x a b c failure is made freed = absurd failure

-- the pool was closed before it could become idle
pub shut_out : (s : Settings) (i : ℕ) (x : Answer) (a b c : CallerState) → x ≡ answers.Destroy → AppendsAnswer (Added i outcomes.Good) x a b → AppendsAnswer (Destroyed i) answers.Freed b c → Stocks s i (stages.Ends ends.Destroyed) asks 0 a c
shut_out s i x a b c is made freed =
    record {
      in_addition = trace_destroyed s kinds.Add (works i true 0) (stages.Ends ends.Destroyed) i (Added i outcomes.Good) x answers.Destroy a b c is made freed (refl, refl) refl refl;
      in_fill = trace_destroyed s kinds.Fill (works i true 0) asks i (Added i outcomes.Good) x answers.Destroy a b c is made freed (refl, refl) refl refl;
      parked = parks_none i outcomes.Good x a b c is made freed;
    }

-- the caller then owns it, and has to destroy it
pub has_shut_out : (i : ℕ) (a : Answer) (before after : CallerState) → a ≡ answers.Destroy → AppendsAnswer (Added i outcomes.Good) a before after → (new : Bool) × OwnsObject after i phases.Destroying new
has_shut_out i a before after is made =
    let m : AppendsAnswer (Added i outcomes.Good) answers.Destroy before after = subst (λ b. AppendsAnswer (Added i outcomes.Good) b before after) is made in
    (false, record { appended = before.appended; e = entry_of before.number m.0 (Added i outcomes.Good) answers.Destroy; last = m.1.more; moved = refl; is_new = refl })

-- the caller owns the object that it has to make
pub owns_new : (input : Input) (i : ℕ) (x : Answer) (before after : CallerState) → x ≡ answers.Make i → AppendsAnswer input x before after → ((n at : ℕ) → move_of_entry (entry_of n at input (answers.Make i)) ≡ Some (i, phases.Adding))
    → (new : Bool) × OwnsObject after i phases.Adding new
owns_new input i x before after is made moved =
    let m : AppendsAnswer input (answers.Make i) before after = subst (λ b. AppendsAnswer input b before after) is made in
    (true, record { appended = before.appended; e = entry_of before.number m.0 input (answers.Make i); last = m.1.more; moved = moved before.number m.0; is_new = refl })

-- ---- a turn of a fill
module _ (s : Settings) where
  turn_made : {E : Type 0} (r : Result Addition (AddFault E)) (before after : CallerState) → IsStocked r → Trace s kinds.Fill asks before after (filling r) → Parks (parked_in r) before after → EndsWithOwn after → FillStep s r before after
  turn_made (Ok additions.Idle) before after is w parks own = (w, parks, own)
  turn_made (Ok additions.Destroyed) before after is w parks own = (w, parks, own)
  turn_made (Ok additions.NoPlace) before after is w parks own = absurd is
  turn_made (Err faults.Closed) before after is w parks own = absurd is
  turn_made (Err (faults.MakeFailed f)) before after is w parks own = row_at s kinds.Fill (FillEnds s) asks (stages.Ends ends.MakeFailed) (Err (faults.MakeFailed f)) before after w (refl, own)
  turn_made {E} (Err faults.CreateTestFailed) before after is w parks own = row_at s kinds.Fill (FillEnds {E = E} s) asks (stages.Ends ends.CreateTestFailed) (Err faults.CreateTestFailed) before after w (refl, own)
  turn_made (Err (faults.PassivateFailed f)) before after is w parks own = row_at s kinds.Fill (FillEnds s) asks (stages.Ends ends.PassivateFailed) (Err (faults.PassivateFailed f)) before after w (refl, own)
  turn_made (Err faults.JournalFull) before after is w parks own = absurd is
  turn_made (Err faults.OutOfMemory) before after is w parks own = absurd is

  -- a turn that found a place
  pub turned : {E : Type 0} (i : ℕ) (x : Answer) (r : Result Addition (AddFault E)) (before mid after : CallerState) → x ≡ answers.Make i → AppendsAnswer Fill x before mid
      → IsStocked r → Stocks s i (ending r) (filling r) (parked_in r) mid after → EndsWithOwn after → FillStep s r before after
  turned i x r before mid after is made stocked w own =
      let none : Parks 0 before mid = count_one is_parked_answer Fill x (answers.Make i) before mid is made in
      let parks : Parks (parked_in r) mid after = w.parked in
      turn_made r before after stocked
      (trace_on s kinds.Fill asks (works i true 0) (filling r) before mid after (trace_by s kinds.Fill asks (works i true 0) Fill x (answers.Make i) before mid is made refl refl) w.in_fill)
      (omega (arith, none, parks)) own

  -- a turn that found no place, or none missing
  pub enough : (E : Type 0) (x : Answer) (before after : CallerState) → x ≡ answers.Enough → AppendsAnswer Fill x before after → EndsWithOwn after → FillStep {E = E} s (Ok additions.NoPlace) before after
  enough E x before after is made own = (trace_by s kinds.Fill asks complete Fill x answers.Enough before after is made refl refl, count_one is_parked_answer Fill x answers.Enough before after is made, own)

  pub no_place : (E : Type 0) (x : Answer) (before after : CallerState) → x ≡ answers.NoPlace → AppendsAnswer Fill x before after → EndsWithOwn after → FillStep {E = E} s (Ok additions.NoPlace) before after
  no_place E x before after is made own = (trace_by s kinds.Fill asks complete Fill x answers.NoPlace before after is made refl refl, count_one is_parked_answer Fill x answers.NoPlace before after is made, own)

  -- a turn whose critical section failed
  pub refused_turn : {E : Type 0} (f : PoolFault) (before after : CallerState) → after.appended ≡ before.appended → IsRoomFault s Fill f after → FillStep {E = E} s (Err (add_fault f)) before after
  refused_turn {E} pool_faults.JournalFull before after same why = row_none s kinds.Fill (FillEnds {E = E} s) asks (Err faults.JournalFull) before after same (refl, why)
  refused_turn {E} pool_faults.OutOfMemory before after same why = row_none s kinds.Fill (FillEnds {E = E} s) asks (Err faults.OutOfMemory) before after same (refl, why)
  refused_turn pool_faults.Closed before after same why = absurd why.1

-- the number that a fill parked is at most the number of the entries that the caller appended
pub bounded_parked : (n : ℕ) (first now : CallerState) → Parks n first now → n ≤ length now.appended
bounded_parked n first now parks = omega (arith, parks, count_by-le-length (λ (x : Entry). is_parked_answer x.answer) now.appended)

own_within : (n : ℕ) (J : List Entry) → length (entries_with_number n J) ≤ length J
own_within n J = omega (arith, length-filter_both (λ (e : Entry). e.caller == n) (λ e. not (e.caller == n)) (λ e. refl) J)

-- the entries that a caller has appended, and one more, are fewer than 2^64
pub bounded_made : (s : Settings) (input : Input) (a : Answer) (before after : CallerState) → AppendsAnswer input a before after → Advances s before after → length after.observed < 2 ^ 64 → length before.appended + 1 < 2 ^ 64
bounded_made s input a before after made goes bounded =
    let e = entry_of before.number made.0 input a in
    let mine : length after.appended ≤ length after.observed = subst (λ l. length l ≤ length after.observed) (sym goes.all) (own_within after.number after.observed) in
    omega (arith, mine, bounded, ap length made.1.more, length-append before.appended (e ∷ []))

pub either_way : {A E : Type 0} (r : Result A E) (n : ℕ) → n + 1 < 2 ^ 64 → OnOk r (n + 1 < 2 ^ 64)
either_way (Ok a) n bounded = bounded
either_way (Err f) n bounded = tt

-- the invariant of a fill that returns this number, if no more is missing
abbrev pub IsFilling : Settings → ℕ → CallerState → CallerState → Type 0
IsFilling s n first now = Trace s kinds.Fill asks first now asks × Parks n first now

-- a fill after one more turn
module _ (s : Settings) (n : ℕ) (first now after : CallerState) (so_far : IsFilling s n first now) (a : Addition) (turn : Trace s kinds.Fill asks now after (fills.turned a)) (parks : Parks (idle a) now after) where
  turned_to : (b : Addition) → a ≡ b → Trace s kinds.Fill asks first after (fills.turned b)
  turned_to b is = trace_on s kinds.Fill asks asks (fills.turned b) first now after so_far.0 (subst (λ x. Trace s kinds.Fill asks now after (fills.turned x)) is turn)

  parks_to : (b : Addition) (more : ℕ) → a ≡ b → more ≡ n + idle b → Parks more first after
  parks_to b more is one =
      let before = so_far.1 in
      let later : Parks (idle b) now after = subst (λ x. Parks (idle x) now after) is parks in
      omega (arith, before, later, one)

  pub one_parked : (more : ℕ) → a ≡ additions.Idle → more ≡ n + 1 → IsFilling s more first after
  one_parked more is one = (turned_to additions.Idle is, parks_to additions.Idle more is one)

  pub one_lost : a ≡ additions.Destroyed → IsFilling s n first after
  one_lost is = (turned_to additions.Destroyed is, parks_to additions.Destroyed n is (omega arith))

  pub all_counted : a ≡ additions.NoPlace → Parks n first after
  all_counted is = parks_to additions.NoPlace n is (omega arith)

  pub all_filled : {E : Type 0} → a ≡ additions.NoPlace → EndsWithOwn after → FillSpec {E = E} s (Ok n) first after
  all_filled {E} is own = (row_at s kinds.Fill (FillEnds {E = E} s) asks complete (Ok n) first after (turned_to additions.NoPlace is) (refl, own), all_counted is)

pub filled_part : {E : Type 0} (s : Settings) (n : ℕ) (first now after : CallerState) → IsFilling s n first now → (f : AddFault E) → Fills s (Err f) now after → FillSpec s (Err f) first after
filled_part s n first now after so_far f turn = (row_on s kinds.Fill (FillEnds s) asks asks (Err f) first now after so_far.0 turn, tt)
