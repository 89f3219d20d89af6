-- How many objects are present after legal entries that continue a base, and how many of them are to be destroyed.
use Rattle.std.proofs.Common.{◌≡◌, ◌≢◌, ℕ, suc, ◌+◌, ◌<◌, ◌≤◌, Bool, true, false, cond, if◌then◌else◌, List, []}
use Rattle.std.proofs.Common.{◌∷◌, ◌++◌, length, map, Option, Some, None, refl, ap, sym, ◌∙◌, subst, arith, inl, inr}
use Rattle.std.specs.Prelude.{◌||◌, ◌-◌, not, count_by, filter, take, IsSome, ℤ, pos, negsuc}
use Rattle.std.specs.List.{range_with_len}
use Rattle.std.proofs.lemmas.Bool.{ltb-true}
use Rattle.std.proofs.lemmas.List.Sums.{length-filter, count_by-le-length}
use Rattle.pool_journal.specs.Entries.{made_to, is_present, is_make_answer}
use Rattle.pool_journal.specs.Totals.{is_freed, is_reclaimed, is_evicting}
use Rattle.pool_journal.specs.Base.{phase_from, drawn_from, present_from, record_from, records_from, closed_from, base_after}
use Rattle.pool_journal.specs.Sound.{IsWellFormed}
use Rattle.pool_journal.specs.declared.base.Base.{Base}
use Rattle.pool_journal.specs.declared.entry.Entry.{Entry}
use Rattle.pool_journal.specs.declared.record.Record.{Record}
use Rattle.pool_journal.specs.declared.record.Phase.{Phase}
use Rattle.pool_journal.specs.declared.record.Phase.TheVariants as phases
use Rattle.pool_journal.specs.declared.input.Input.{Input}
use Rattle.pool_journal.specs.declared.input.Input.TheVariants.{Borrow, Add, Fill}
use Rattle.pool_journal.specs.declared.answer.Answer.{Answer}
use Rattle.pool_journal.specs.declared.answer.Answer.TheVariants as answers
use Rattle.pool_journal.specs.declared.answer.Cause.TheVariants as causes
use Rattle.pool_journal.proofs.Found.{each_present_from}
use Rattle.pool_journal.proofs.Pushed.{drawn_from-push}
use Rattle.pool_journal.proofs.Segments.{records_from-none}
use Rattle.pool_journal.proofs.Starting.{drawn_from-none}
use Rattle.pool_settings.specs.declared.settings.Settings.{Settings}
use Rattle.pool_core.specs.Laws.{IsBelow, IsWithin, IsWithinOr, AtMostMaxTotalFrom, AtMostMaxTotalOrBase, MadeBelowMaxTotal, ObjectsConservedFrom}
use Rattle.pool_stats.specs.Counts.{counts_from}
use Rattle.pool_core.specs.Legal.{IsLegalFrom, IsLegalBySome}
use Rattle.pool_core.specs.Openable.{is_destroying, CanContinue, IsResumable, AccountsForEvicted}
use Rattle.pool_core.specs.Reply.{is_below, borrow_reply, add_reply, exhausted_reply, has_reached, borrow_candidate, has_min_idle, reply_from}
use Rattle.pool_core.specs.Steps.{IsEnabled}
use Rattle.pool_core.proofs.Counted.{one_if, count_cons, counted}
use Rattle.pool_core.proofs.Fronts.{IsDueFrom, IsDueBySome, DueKeepsFrom, SomeKeepsFrom, due_by_some, due_at_from, each_legal_from, each_legal_by_some}
use Rattle.pool_core.proofs.Lives.{Acts, Still, Makes, Brings, still, makes, brings, acts, finds_due, gives_up, phase_stays}
use Rattle.pool_core.proofs.Lives.{phase_moved, phase_of_others}
use Rattle.pool_core.proofs.Ranges.{count_push, count_range, count_last, same_count, one_changed}
use Rattle.pool_core.proofs.Tables.{length-records_from}

-- ---- a count over the created objects, after one more expected entry

-- whether an object's phase passes a test
abbrev pub passes : (Phase → Bool) → Base → List Entry → ℕ → Bool
passes test b J i = test (phase_from b i J)

-- how many of the created objects pass it
abbrev pub passing : (Phase → Bool) → Base → List Entry → ℕ
passing test b J = count_range (passes test b J) 0 (drawn_from b J)

pub still_passing : (test : Phase → Bool) (b : Base) (J : List Entry) (e : Entry) → Still e → passing test b (J ++ e ∷ []) ≡ passing test b J
still_passing test b J e s =
    let no_more : drawn_from b (J ++ e ∷ []) ≡ drawn_from b J = omega (arith, drawn_from-push b J e, ap one_if s.no_make) in
    ap (count_range (passes test b (J ++ e ∷ [])) 0) no_more
    ∙ same_count (passes test b (J ++ e ∷ [])) (passes test b J) 0 (drawn_from b J) (λ j above under. ap test (phase_stays b J e s.none j))

pub makes_passing : (test : Phase → Bool) (b : Base) (J : List Entry) (e : Entry) (m : Makes b J e)
    → passing test b (J ++ e ∷ []) ≡ passing test b J + one_if (test m.p)
makes_passing test b J e m =
    let K = J ++ e ∷ [] in
    let one_more : drawn_from b K ≡ suc (drawn_from b J) = omega (arith, drawn_from-push b J e, ap one_if m.makes) in
    let here = ap (λ (p : Phase). one_if (test p)) (phase_moved b J e (drawn_from b J) m.p m.to) in
    let others : (j : ℕ) → 0 ≤ j → j < 0 + drawn_from b J → passes test b K j ≡ passes test b J j =
    λ j above under. ap test (phase_of_others b J e (drawn_from b J) m.p m.to j (λ equal. omega (arith, under, equal))) in
    let same = same_count (passes test b K) (passes test b J) 0 (drawn_from b J) others in
    let longer = ap (count_range (passes test b K) 0) one_more ∙ count_last (passes test b K) (drawn_from b J) in
    omega (arith, longer, here, same)

pub brings_passing : (test : Phase → Bool) (b : Base) (J : List Entry) (e : Entry) (m : Brings b J e)
    → passing test b (J ++ e ∷ []) + one_if (test (phase_from b m.i J)) ≡ passing test b J + one_if (test m.p)
brings_passing test b J e m =
    let K = J ++ e ∷ [] in
    let no_more : drawn_from b K ≡ drawn_from b J = omega (arith, drawn_from-push b J e, ap one_if m.no_make) in
    let here = ap (λ (p : Phase). one_if (test p)) (phase_moved b J e m.i m.p m.to) in
    let others : (j : ℕ) → j ≢ m.i → passes test b K j ≡ passes test b J j =
    λ j other. ap test (phase_of_others b J e m.i m.p m.to j other) in
    let one = one_changed (passes test b J) (passes test b K) m.i 0 (drawn_from b J) (omega arith) (omega (arith, m.below)) others in
    omega (arith, ap (count_range (passes test b K) 0) no_more, here, one)

-- ---- the present objects

pub count_present_from : (b : Base) (J : List Entry) → length (present_from b J) ≡ passing is_present b J
unfolding present_from
count_present_from b J = length-filter (λ i. is_present (phase_from b i J)) (range_with_len 0 (drawn_from b J))

begun_is_there : (test : Bool) → one_if test + one_if (not test) ≡ 1
begun_is_there true = refl
begun_is_there false = refl

-- one more is present if the entry makes an object, and one fewer if it frees a place
pub present_on_from : (b : Base) (J : List Entry) (e : Entry) → IsDueBySome b J e
    → length (present_from b (J ++ e ∷ [])) + one_if (gives_up e.answer) ≡ length (present_from b J) + one_if (is_make_answer e.answer)
present_on_from b J e due = omega (arith, count_present_from b J, count_present_from b (J ++ e ∷ []), by_act (acts b J e due))
  where
    by_act : Acts b J e → passing is_present b (J ++ e ∷ []) + one_if (gives_up e.answer) ≡ passing is_present b J + one_if (is_make_answer e.answer)
    by_act (still s) = omega (arith, still_passing is_present b J e s, ap one_if s.no_make, ap one_if s.stays)
    by_act (makes m) = omega (arith, makes_passing is_present b J e m, ap one_if m.comes, ap one_if m.makes, ap one_if m.stays)
    by_act (brings m) =
        omega (arith, brings_passing is_present b J e m, ap one_if m.was_there, ap one_if m.leaves, begun_is_there (is_present m.p), ap one_if m.no_make)

-- an answer to which no object is made
full_makes_none : (block is_late : Bool)
    → is_make_answer (if block then (if is_late then answers.TimedOut else answers.Wait) else answers.Exhausted) ≡ false
full_makes_none true true = refl
full_makes_none true false = refl
full_makes_none false is_late = refl

-- if an object is made, there was room
borrow_makes : (shut : Bool) (o : Option ℕ) (room : Bool) (next : ℕ) (full : Answer) → is_make_answer full ≡ false
    → is_make_answer (if shut then answers.Refused causes.Closed else borrow_reply o room next full) ≡ true → room ≡ true
borrow_makes true o room next full none is = absurd (cc is)
borrow_makes false (Some j) room next full none is = absurd (cc is)
borrow_makes false None true next full none is = refl
borrow_makes false None false next full none is = absurd (cc (none, is))

add_makes : (a : Answer) (b room : Bool) (next : ℕ) → is_make_answer a ≡ false
    → is_make_answer (if b then a else add_reply room next) ≡ true → room ≡ true
add_makes a true room next none is = absurd (cc (none, is))
add_makes a false true next none is = refl
add_makes a false false next none is = absurd (cc is)

-- an object is made only if fewer are present than the limit
makes_below_from : (S : Settings) (b : Base) (J : List Entry) (at : ℕ) (input : Input) (i : ℕ) → IsSome (made_to input i)
    → is_make_answer (reply_from S b J at input) ≡ true → is_below S.max_total (length (records_from b J)) ≡ true
makes_below_from S b J at (Borrow began) i is made =
    let none = full_makes_none S.block_when_exhausted (has_reached S.max_wait_millis (at - began)) in
    borrow_makes (closed_from b J) (borrow_candidate S.lifo (records_from b J)) _ (drawn_from b J) (exhausted_reply S (at - began)) none made
makes_below_from S b J at Add i is made = add_makes (answers.Refused causes.Closed) (closed_from b J) _ (drawn_from b J) refl made
makes_below_from S b J at Fill i is made = add_makes answers.Enough (closed_from b J || has_min_idle S (records_from b J)) _ (drawn_from b J) refl made
makes_below_from S b J at _ i is made = absurd (cc is)

-- the same for an expected entry
due_makes_below_from : (S : Settings) (b : Base) (J : List Entry) (e : Entry) → IsDueFrom S b J e → is_make_answer e.answer ≡ true
    → is_below S.max_total (length (present_from b J)) ≡ true
due_makes_below_from S b J e due made =
    ap (is_below S.max_total) (sym (length-records_from b J)) ∙ by_answer e.answer refl made (finds_due S b J e due)
  where
    by_answer : (a : Answer) → e.answer ≡ a → is_make_answer a ≡ true → IsEnabled e.input a (records_from b J) (drawn_from b J)
        → is_below S.max_total (length (records_from b J)) ≡ true
    by_answer (answers.Make i) is made finds = makes_below_from S b J e.at e.input i finds.1 (ap is_make_answer (sym due.is ∙ is))
    by_answer _ is made finds = absurd (cc made)

-- a number that is at most one within the limit is within it too, and so is one more if there is a place
no_more_within : (limit : ℤ) (n m : ℕ) → m ≤ n → IsWithin limit n → IsWithin limit m
no_more_within (pos limit) n m le is = omega (arith, le, is)
no_more_within (negsuc _) n m le is = tt

one_more_within : (limit : ℤ) (n m : ℕ) → m ≤ n + 1 → is_below limit n ≡ true → IsWithin limit m
one_more_within (pos limit) n m le is = let below : n < limit = ltb-true n limit is in omega (arith, le, below)
one_more_within (negsuc _) n m le is = tt

no_more_within_or : (limit : ℤ) (most n m : ℕ) → m ≤ n → IsWithinOr limit most n → IsWithinOr limit most m
no_more_within_or limit most n m le (inl is) = inl (no_more_within limit n m le is)
no_more_within_or limit most n m le (inr is) = inr (omega (arith, le, is))

stays_within_from : (S : Settings) (b : Base) → DueKeepsFrom S b (AtMostMaxTotalOrBase S b)
stays_within_from S b J e due so_far = by_answer (is_make_answer e.answer) refl
  where
    on : length (present_from b (J ++ e ∷ [])) + one_if (gives_up e.answer) ≡ length (present_from b J) + one_if (is_make_answer e.answer)
    on = present_on_from b J e (due_by_some S b J e due)

    by_answer : (t : Bool) → is_make_answer e.answer ≡ t → AtMostMaxTotalOrBase S b (J ++ e ∷ [])
    by_answer true is =
        let le : length (present_from b (J ++ e ∷ [])) ≤ length (present_from b J) + 1 = omega (arith, on, ap one_if is) in
        inl (one_more_within S.max_total (length (present_from b J)) (length (present_from b (J ++ e ∷ []))) le (due_makes_below_from S b J e due is))
    by_answer false is =
        let le : length (present_from b (J ++ e ∷ [])) ≤ length (present_from b J) = omega (arith, on, ap one_if is) in
        no_more_within_or S.max_total (length b.records) (length (present_from b J)) (length (present_from b (J ++ e ∷ []))) le so_far

-- before any entry the present objects are those that the base lists
pub present_none : (b : Base) → IsWellFormed b → length (present_from b []) ≡ length b.records
present_none b sound = sym (length-records_from b []) ∙ ap length (records_from-none b sound)

pub at_most_max_total_or_base : (S : Settings) (b : Base) (J : List Entry) → IsResumable b → IsLegalFrom S b J → AtMostMaxTotalOrBase S b J
at_most_max_total_or_base S b J resumes =
    each_legal_from S b (AtMostMaxTotalOrBase S b) resumes.sound (inr (omega (arith, present_none b resumes.sound))) (stays_within_from S b) J

-- a number within the limit or at most that of a base, which is within the limit
pub within_of : (limit : ℤ) (most n : ℕ) → IsWithin limit most → IsWithinOr limit most n → IsWithin limit n
within_of limit most n base (inl is) = is
within_of limit most n base (inr le) = no_more_within limit most n le base

pub at_most_max_total_from : (S : Settings) (b : Base) (J : List Entry) → CanContinue S b → IsLegalFrom S b J → AtMostMaxTotalFrom S b J
at_most_max_total_from S b J runs legal =
    within_of S.max_total (length b.records) (length (present_from b J)) runs.within (at_most_max_total_or_base S b J runs.resumable legal)

is_below_limit : (limit : ℤ) (n : ℕ) → is_below limit n ≡ true → IsBelow limit n
is_below_limit (pos limit) n is = ltb-true n limit is
is_below_limit (negsuc _) n is = tt

pub made_below_from : (S : Settings) (b : Base) (J : List Entry) → IsWellFormed b → IsLegalFrom S b J → MadeBelowMaxTotal S b J
made_below_from S b J sound legal k e at_k made =
    is_below_limit S.max_total (length (present_from b (take k J))) (due_makes_below_from S b (take k J) e (due_at_from S b J k e sound legal at_k) made)

-- ---- the totals

freed_or_reclaimed : (a : Answer) → one_if (is_freed a) + one_if (is_reclaimed a) ≡ one_if (gives_up a)
freed_or_reclaimed answers.Freed = refl
freed_or_reclaimed (answers.Reclaimed i) = refl
freed_or_reclaimed _ = refl

abbrev pub freed_in : List Entry → ℕ
freed_in J = count_by (λ e. is_freed e.answer) J

abbrev pub reclaimed_in : List Entry → ℕ
reclaimed_in J = count_by (λ e. is_reclaimed e.answer) J

abbrev pub evicted_in : List Entry → ℕ
evicted_in J = count_by (λ e. is_evicting e.answer e.input) J

-- each created object is present, or its place was freed
abbrev pub DrawnOrGone : Base → List Entry → Type 0
DrawnOrGone b J = (b.destroyed + freed_in J) + (b.reclaimed + reclaimed_in J) + length (present_from b J) ≡ drawn_from b J

stays_drawn_or_gone : (b : Base) → SomeKeepsFrom b (DrawnOrGone b)
stays_drawn_or_gone b J e due so_far =
    let freed = count_push (λ (x : Entry). is_freed x.answer) J e in
    let reclaimed = count_push (λ (x : Entry). is_reclaimed x.answer) J e in
    omega (arith, so_far, drawn_from-push b J e, present_on_from b J e due, freed_or_reclaimed e.answer, freed, reclaimed)

none_drawn_or_gone : (b : Base) → IsWellFormed b → b.destroyed + b.reclaimed + length b.records ≡ b.drawn → DrawnOrGone b []
none_drawn_or_gone b sound adds_up =
    let freed : freed_in [] ≡ 0 = refl in
    let reclaimed : reclaimed_in [] ≡ 0 = refl in
    omega (arith, adds_up, present_none b sound, drawn_from-none b, freed, reclaimed)

pub drawn_or_gone : (b : Base) (J : List Entry) → IsResumable b → IsLegalBySome b J → DrawnOrGone b J
drawn_or_gone b J runs = each_legal_by_some b (DrawnOrGone b) runs.sound (none_drawn_or_gone b runs.sound runs.adds_up) (stays_drawn_or_gone b) J

pub nothing_lost_from : (b : Base) (J : List Entry) → IsResumable b → IsLegalBySome b J → ObjectsConservedFrom b J
nothing_lost_from b J runs legal =
    omega (arith, drawn_or_gone b J runs legal, length-records_from b J, counted (records_from b J) (each_present_from b J))

-- the objects idle, lent and reserved are within the limit, or at most those of the base
pub places_within_from : (S : Settings) (b : Base) (J : List Entry) → IsResumable b → IsLegalFrom S b J
    → IsWithinOr S.max_total (length b.records) ((counts_from b J).idle + (counts_from b J).lent + (counts_from b J).reserved)
places_within_from S b J runs legal =
    subst (IsWithinOr S.max_total (length b.records)) (sym (length-records_from b J) ∙ sym (counted (records_from b J) (each_present_from b J))) (at_most_max_total_or_base S b J runs legal)

-- ---- the objects that are to be destroyed

-- a count of the present objects is the count of all created ones
count_mapped : {A : Type 0} (test : Record → Bool) (f : A → Record) (q : A → Bool) → ((a : A) → q a ≡ false → test (f a) ≡ false) → (xs : List A)
    → count_by test (map f (filter q xs)) ≡ count_by (λ a. test (f a)) xs
count_mapped test f q only [] = refl
count_mapped {A} test f q only (x ∷ xs) = by_test (q x) refl (count_mapped test f q only xs)
  where
    by_test : (t : Bool) → q x ≡ t → count_by test (map f (filter q xs)) ≡ count_by (λ a. test (f a)) xs
        → count_by test (map f (cond t (x ∷ filter q xs) (filter q xs))) ≡ count_by (λ a. test (f a)) (x ∷ xs)
    by_test true is later = omega (arith, count_cons test (f x) (map f (filter q xs)), count_cons (λ (a : A). test (f a)) x xs, later)
    by_test false is later = omega (arith, count_cons (λ (a : A). test (f a)) x xs, later, ap one_if (only x is))

destroying_is_there : (p : Phase) → is_present p ≡ false → is_destroying p ≡ false
destroying_is_there phases.Absent is = refl
destroying_is_there phases.Gone is = refl
destroying_is_there _ is = absurd (cc is)

pub count_destroying : (b : Base) (J : List Entry) → count_by (λ r. is_destroying r.phase) (records_from b J) ≡ passing is_destroying b J
unfolding records_from present_from
count_destroying b J =
    count_mapped (λ r. is_destroying r.phase) (record_from b J) (λ i. is_present (phase_from b i J))
    (λ i is. destroying_is_there (phase_from b i J) is) (range_with_len 0 (drawn_from b J))

-- each evicted object is to be destroyed or was
abbrev EvictedEnds : Base → List Entry → Type 0
EvictedEnds b J = b.evicted + evicted_in J ≤ (b.destroyed + freed_in J) + passing is_destroying b J

stays_evicted : (b : Base) → SomeKeepsFrom b (EvictedEnds b)
stays_evicted b J e due so_far = by_act (acts b J e due)
  where
    freed : freed_in (J ++ e ∷ []) ≡ freed_in J + one_if (is_freed e.answer)
    freed = count_push (λ (x : Entry). is_freed x.answer) J e

    evicted : evicted_in (J ++ e ∷ []) ≡ evicted_in J + one_if (is_evicting e.answer e.input)
    evicted = count_push (λ (x : Entry). is_evicting x.answer x.input) J e

    by_act : Acts b J e → EvictedEnds b (J ++ e ∷ [])
    by_act (still s) = omega (arith, so_far, freed, evicted, ap one_if s.evicts_none, still_passing is_destroying b J e s)
    by_act (makes m) = omega (arith, so_far, freed, evicted, ap one_if m.evicts_none, makes_passing is_destroying b J e m)
    by_act (brings m) = omega (arith, so_far, freed, evicted, m.evicts, m.ends, brings_passing is_destroying b J e m)

none_evicted : (b : Base) → IsWellFormed b → AccountsForEvicted b → EvictedEnds b []
none_evicted b sound ends =
    let freed : freed_in [] ≡ 0 = refl in
    let evicted : evicted_in [] ≡ 0 = refl in
    let listed = ap (count_by (λ (r : Record). is_destroying r.phase)) (records_from-none b sound) in
    omega (arith, ends, freed, evicted, count_destroying b [], listed)

pub ends_evicted : (b : Base) (J : List Entry) → IsWellFormed b → AccountsForEvicted b → IsLegalBySome b J → AccountsForEvicted (base_after b J)
ends_evicted b J sound ends legal =
    let along = each_legal_by_some b (EvictedEnds b) sound (none_evicted b sound ends) (stays_evicted b) J legal in
    omega (arith, along, count_destroying b J)

pub count_destroying_le : (rs : List Record) → count_by (λ r. is_destroying r.phase) rs ≤ length rs
count_destroying_le rs = count_by-le-length (λ (r : Record). is_destroying r.phase) rs
