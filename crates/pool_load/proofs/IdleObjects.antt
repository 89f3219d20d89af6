-- How many objects are idle in a closed pool after one more entry.
use Rattle.std.proofs.Common.{◌≡◌, ◌≢◌, ℕ, ◌+◌, ◌<◌, ◌==◌, Bool, true, false, cond, List, [], ◌∷◌, ◌++◌, length, map, Option, Some, None, refl, ap, sym, ◌∙◌, subst, arith}
use Rattle.std.specs.Prelude.{count_by, filter, IsSomeAnd}
use Rattle.std.specs.List.{range_with_len}
use Rattle.std.proofs.lemmas.Bool.Decides.{nat_tests}
use Rattle.pool_journal.specs.Base.{empty_base, phase_from, drawn_from, present_from, record_from, records_from, cursor_from}
use Rattle.pool_journal.specs.Journal.{phase, drawn, records, closed}
use Rattle.pool_journal.specs.Entries.{id_of, named_to, move_of, move_of_entry, is_present, is_make_answer}
use Rattle.pool_journal.specs.Queue.{is_idle, idle_queue, record_in}
use Rattle.pool_journal.specs.declared.record.Record.{Record}
use Rattle.pool_journal.specs.declared.record.Phase.{Phase}
use Rattle.pool_journal.specs.declared.record.Phase.TheVariants as phases
use Rattle.pool_journal.specs.declared.entry.Entry.{Entry}
use Rattle.pool_journal.specs.declared.input.Outcome.{Outcome}
use Rattle.pool_journal.specs.declared.input.Outcome.TheVariants as outcomes
use Rattle.pool_journal.specs.declared.input.Input.{Input}
use Rattle.pool_journal.specs.declared.input.Input.TheVariants.{Borrow, Ready, GiveBack, Park, Reclaim, ReclaimNext, Destroyed}
use Rattle.pool_journal.specs.declared.answer.Answer.{Answer}
use Rattle.pool_journal.specs.declared.answer.Answer.TheVariants as answers
use Rattle.pool_journal.proofs.Found.{found_from}
use Rattle.pool_journal.proofs.Pushed.{drawn_from-push}
use Rattle.pool_settings.specs.declared.settings.Settings.{Settings}
use Rattle.pool_core.specs.Reply.{readying_reply, ready_reply, lent_reply, returning_reply, park_reply, destroyed_reply, reclaim_next_reply, abandoned_objects, phase_of, new_of, reply_from_records}
use Rattle.pool_journal.specs.Queue.{first_of}
use Rattle.pool_core.specs.Steps.{MovesInputObject, IsEnabled, comes_from}
use Rattle.pool_core.proofs.Counted.{one_if, count_cons}
use Rattle.pool_core.proofs.Counting.{passing, passes}
use Rattle.pool_core.proofs.Lives.{finds_due, phase_stays, phase_moved, phase_of_others}
use Rattle.pool_core.proofs.Queues.{length-idle_queue}
use Rattle.pool_core.proofs.Ranges.{count_range, same_count, one_changed}
use Rattle.pool_core.proofs.Whole.{IsDue}

-- the number of idle objects
abbrev pub idle_in : List Entry → ℕ
idle_in J = passing is_idle empty_base J

-- ---- the idle queue has that length

-- a count of the present objects is the count of all created ones
count_present : (test : Record → Bool) (f : ℕ → Record) (q : ℕ → Bool) → ((i : ℕ) → q i ≡ false → test (f i) ≡ false) → (xs : List ℕ)
    → count_by test (map f (filter q xs)) ≡ count_by (λ i. test (f i)) xs
count_present test f q only [] = refl
count_present test f q only (x ∷ xs) = by_test (q x) refl (count_present test f q only xs)
  where
    by_test : (t : Bool) → q x ≡ t → count_by test (map f (filter q xs)) ≡ count_by (λ i. test (f i)) xs
        → count_by test (map f (cond t (x ∷ filter q xs) (filter q xs))) ≡ count_by (λ i. test (f i)) (x ∷ xs)
    by_test true is later = omega (arith, count_cons test (f x) (map f (filter q xs)), count_cons (λ (i : ℕ). test (f i)) x xs, later)
    by_test false is later = omega (arith, count_cons (λ (i : ℕ). test (f i)) x xs, later, ap one_if (only x is))

idle_is_there : (p : Phase) → is_present p ≡ false → is_idle p ≡ false
idle_is_there phases.Absent is = refl
idle_is_there phases.Gone is = refl
idle_is_there _ is = absurd (cc is)

count_idle : (J : List Entry) → count_by (λ r. is_idle r.phase) (records J) ≡ idle_in J
unfolding records_from present_from
count_idle J =
    count_present (λ r. is_idle r.phase) (record_from empty_base J) (λ i. is_present (phase_from empty_base i J))
    (λ i is. idle_is_there (phase_from empty_base i J) is) (range_with_len 0 (drawn_from empty_base J))

pub queue_is : (J : List Entry) → length (idle_queue (records J)) ≡ idle_in J
queue_is J = length-idle_queue (records J) ∙ count_idle J

-- ---- entries after which as many are idle

-- an answer that brings no object into the idle state or out of it
abbrev pub is_steady : Answer → Bool
is_steady (answers.Take i) = false
is_steady (answers.Make i) = false
is_steady (answers.Test i) = false
is_steady (answers.DestroyIdle i) = false
is_steady answers.Parked = false
is_steady answers.Kept = false
is_steady _ = true

-- an input of a borrow or of a return
abbrev pub is_of_round : Input → Bool
is_of_round (Borrow began) = true
is_of_round (Ready i o) = true
is_of_round (GiveBack i) = true
is_of_round (Park i o) = true
is_of_round (Reclaim on) = true
is_of_round ReclaimNext = true
is_of_round (Destroyed i) = true
is_of_round _ = false

readying_steady : (new : Bool) (o : Outcome) → is_steady (readying_reply new o) ≡ true
readying_steady true outcomes.Good = refl
readying_steady true outcomes.MakeFailed = refl
readying_steady true outcomes.PassivateFailed = refl
readying_steady true _ = refl
readying_steady false outcomes.Good = refl
readying_steady false outcomes.MakeFailed = refl
readying_steady false outcomes.CreateTestFailed = refl
readying_steady false outcomes.PassivateFailed = refl
readying_steady false _ = refl

ready_steady : (p : Phase) (new : Bool) (o : Outcome) → is_steady (ready_reply p new o) ≡ true
ready_steady phases.Readying new o = readying_steady new o
ready_steady _ new o = refl

lent_steady : (abandoned : Bool) (p : Phase) → is_steady (lent_reply abandoned p answers.Check) ≡ true
lent_steady abandoned phases.Lent = refl
lent_steady true phases.Absent = refl
lent_steady false phases.Absent = refl
lent_steady true phases.Gone = refl
lent_steady false phases.Gone = refl
lent_steady abandoned _ = refl

returning_steady : (o : Outcome) → is_steady (returning_reply o false) ≡ true
returning_steady outcomes.Good = refl
returning_steady outcomes.TestFailed = refl
returning_steady outcomes.PassivateFailed = refl
returning_steady _ = refl

park_steady : (p : Phase) (o : Outcome) → is_steady (park_reply p o false) ≡ true
park_steady phases.Returning o = returning_steady o
park_steady _ o = refl

destroyed_steady : (p : Phase) → is_steady (destroyed_reply p) ≡ true
destroyed_steady phases.Destroying = refl
destroyed_steady _ = refl

reclaiming_steady : (b : Bool) (o : Option Record) → is_steady (reclaim_next_reply b o) ≡ true
reclaiming_steady true (Some r) = refl
reclaiming_steady true None = refl
reclaiming_steady false o = refl

-- in a closed pool a borrow or a return brings no object into the idle state or out of it
table_steady : (s : Settings) (rs : List Record) (next : ℕ) (cursor : Option ℕ) (at : ℕ) (input : Input) → is_of_round input ≡ true
    → is_steady (reply_from_records s rs next true cursor at input) ≡ true
table_steady s rs next cursor at (Borrow began) one = refl
table_steady s rs next cursor at (Ready i o) one = ready_steady (phase_of (record_in rs i)) (new_of (record_in rs i)) o
table_steady s rs next cursor at (GiveBack i) one = lent_steady s.abandoned (phase_of (record_in rs i))
table_steady s rs next cursor at (Park i o) one = park_steady (phase_of (record_in rs i)) o
table_steady s rs next cursor at (Reclaim on) one = refl
table_steady s rs next cursor at ReclaimNext one = reclaiming_steady s.abandoned (first_of (abandoned_objects s at rs))
table_steady s rs next cursor at (Destroyed i) one = destroyed_steady (phase_of (record_in rs i))
table_steady s rs next cursor at _ one = absurd (cc one)

due_steady : (s : Settings) (J : List Entry) (e : Entry) → IsDue s J e → closed J ≡ true → is_of_round e.input ≡ true → is_steady e.answer ≡ true
due_steady s J e due shut one =
    ap is_steady (due.is ∙ ap (λ (b : Bool). reply_from_records s (records J) (drawn J) b (cursor_from empty_base J) e.at e.input) shut)
    ∙ table_steady s (records J) (drawn J) (cursor_from empty_base J) e.at e.input one

-- whether an object is idle is asked of the record that is found
idle_found : (J : List Entry) (i : ℕ) (b : Bool) → IsSomeAnd (record_in (records J) i) (λ r. is_idle r.phase ≡ b) → is_idle (phase i J) ≡ b
idle_found J i b is = by_record (record_in (records J) i) refl is
  where
    by_record : (o : Option Record) → record_in (records J) i ≡ o → IsSomeAnd o (λ r. is_idle r.phase ≡ b) → is_idle (phase i J) ≡ b
    by_record None none is = absurd is
    by_record (Some r) some is = subst (λ (k : Record). is_idle k.phase ≡ b) (found_from empty_base J i r some).is is

some_weaker : {X : Type 0} (o : Option X) (P Q : X → Type 0) → ((x : X) → P x → Q x) → IsSomeAnd o P → IsSomeAnd o Q
some_weaker None P Q step is = absurd is
some_weaker (Some x) P Q step is = step x is

not_from_idle : (a : Answer) → comes_from a phases.Idle ≡ false
not_from_idle answers.Lent = refl
not_from_idle answers.Check = refl
not_from_idle answers.Parked = refl
not_from_idle answers.Kept = refl
not_from_idle answers.Destroy = refl
not_from_idle answers.Freed = refl
not_from_idle answers.Noted = refl
not_from_idle _ = refl

from_not_idle : (a : Answer) (p : Phase) → comes_from a p ≡ true → is_idle p ≡ false
from_not_idle a phases.Idle is = absurd (cc (sym (not_from_idle a) ∙ is))
from_not_idle a _ is = refl

-- an entry that moves an object that isn't idle to another such phase
moved_steady : (J : List Entry) (e : Entry) (i : ℕ) (p : Phase) → move_of_entry e ≡ Some (i, p) → is_idle p ≡ false → is_idle (phase i J) ≡ false
    → (j : ℕ) → is_idle (phase j (J ++ e ∷ [])) ≡ is_idle (phase j J)
moved_steady J e i p to after before j = by_test (j == i) refl
  where
    by_test : (t : Bool) → (j == i) ≡ t → is_idle (phase j (J ++ e ∷ [])) ≡ is_idle (phase j J)
    by_test true is =
        let same : j ≡ i = grind (arith, nat_tests) in
        ap (λ (k : ℕ). is_idle (phase k (J ++ e ∷ []))) same ∙ ap is_idle (phase_moved empty_base J e i p to) ∙ after ∙ sym before ∙ ap (λ (k : ℕ). is_idle (phase k J)) (sym same)
    by_test false is =
        let other : j ≢ i = grind (arith, nat_tests) in
        ap is_idle (phase_of_others empty_base J e i p to j other)

-- the same for the object that the input names
named_steady : (J : List Entry) (e : Entry) (a : Answer) (p : Phase) → is_idle p ≡ false → MovesInputObject e.input a (records J) → move_of_entry e ≡ named_to (id_of e.input) p
    → (j : ℕ) → is_idle (phase j (J ++ e ∷ [])) ≡ is_idle (phase j J)
named_steady J e a p after named moves j = by_id (id_of e.input) named moves
  where
    by_id : (o : Option ℕ) → IsSomeAnd o (λ i. IsSomeAnd (record_in (records J) i) (λ r. comes_from a r.phase ≡ true)) → move_of_entry e ≡ named_to o p
        → is_idle (phase j (J ++ e ∷ [])) ≡ is_idle (phase j J)
    by_id None named moves = absurd named
    by_id (Some i) named moves =
        moved_steady J e i p moves after
        (idle_found J i false (some_weaker (record_in (records J) i) (λ r. comes_from a r.phase ≡ true) (λ r. is_idle r.phase ≡ false) (λ r is. from_not_idle a r.phase is) named)) j

still_steady : (J : List Entry) (e : Entry) → move_of_entry e ≡ None → (j : ℕ) → is_idle (phase j (J ++ e ∷ [])) ≡ is_idle (phase j J)
still_steady J e none j = ap is_idle (phase_stays empty_base J e none j)

steady_phases : (s : Settings) (J : List Entry) (e : Entry) → IsDue s J e → is_steady e.answer ≡ true → (j : ℕ) → is_idle (phase j (J ++ e ∷ [])) ≡ is_idle (phase j J)
steady_phases s J e due steady = by_answer e.answer refl steady (finds_due s empty_base J e due)
  where
    by_answer : (a : Answer) → e.answer ≡ a → is_steady a ≡ true → IsEnabled e.input a (records J) (drawn J) → (j : ℕ) → is_idle (phase j (J ++ e ∷ [])) ≡ is_idle (phase j J)
    by_answer (answers.Take i) is one finds = absurd (cc one)
    by_answer (answers.Make i) is one finds = absurd (cc one)
    by_answer (answers.Test i) is one finds = absurd (cc one)
    by_answer (answers.DestroyIdle i) is one finds = absurd (cc one)
    by_answer answers.Parked is one finds = absurd (cc one)
    by_answer answers.Kept is one finds = absurd (cc one)
    by_answer answers.Lent is one finds = named_steady J e answers.Lent phases.Lent refl finds (ap (λ a. move_of a e.input) is)
    by_answer answers.Check is one finds = named_steady J e answers.Check phases.Returning refl finds (ap (λ a. move_of a e.input) is)
    by_answer answers.Destroy is one finds = named_steady J e answers.Destroy phases.Destroying refl finds (ap (λ a. move_of a e.input) is)
    by_answer answers.Freed is one finds = named_steady J e answers.Freed phases.Gone refl finds (ap (λ a. move_of a e.input) is)
    by_answer (answers.Reclaimed i) is one finds =
        moved_steady J e i phases.Gone (ap (λ a. move_of a e.input) is) refl
        (idle_found J i false (some_weaker (record_in (records J) i) (λ r. r.phase ≡ phases.Lent) (λ r. is_idle r.phase ≡ false) (λ r is. ap is_idle is) finds))
    by_answer _ is one finds = still_steady J e (ap (λ a. move_of a e.input) is)

steady_makes_none : (a : Answer) → is_steady a ≡ true → is_make_answer a ≡ false
steady_makes_none (answers.Make i) one = absurd (cc one)
steady_makes_none _ one = refl

none_drawn : (J : List Entry) (e : Entry) → is_make_answer e.answer ≡ false → drawn (J ++ e ∷ []) ≡ drawn J
none_drawn J e none = omega (arith, drawn_from-push empty_base J e, ap one_if none)

-- after such an entry as many objects are idle
pub idle_stays : (s : Settings) (J : List Entry) (e : Entry) → IsDue s J e → is_steady e.answer ≡ true → idle_in (J ++ e ∷ []) ≡ idle_in J
idle_stays s J e due steady =
    ap (count_range (passes is_idle empty_base (J ++ e ∷ [])) 0) (none_drawn J e (steady_makes_none e.answer steady))
    ∙ same_count (passes is_idle empty_base (J ++ e ∷ [])) (passes is_idle empty_base J) 0 (drawn J) (λ j above under. steady_phases s J e due steady j)

pub round_stays : (s : Settings) (J : List Entry) (e : Entry) → IsDue s J e → closed J ≡ true → is_of_round e.input ≡ true → idle_in (J ++ e ∷ []) ≡ idle_in J
round_stays s J e due shut one = idle_stays s J e due (due_steady s J e due shut one)

-- ---- an idle object is destroyed

-- one object fewer is idle
pub idle_leaves : (s : Settings) (J : List Entry) (e : Entry) (i : ℕ) → IsDue s J e → e.answer ≡ answers.DestroyIdle i → idle_in (J ++ e ∷ []) + 1 ≡ idle_in J
idle_leaves s J e i due is =
    let K = J ++ e ∷ [] in
    let to : move_of_entry e ≡ Some (i, phases.Destroying) = ap (λ a. move_of a e.input) is in
    let finds = subst (λ (a : Answer). IsEnabled e.input a (records J) (drawn J)) is (finds_due s empty_base J e due) in
    let was = idle_found J i true (some_weaker (record_in (records J) i) (λ r. r.phase ≡ phases.Idle) (λ r. is_idle r.phase ≡ true) (λ r is. ap is_idle is) finds.0) in
    let here = ap (λ (p : Phase). one_if (is_idle p)) (phase_moved empty_base J e i phases.Destroying to) in
    let one = one_changed (passes is_idle empty_base J) (passes is_idle empty_base K) i 0 (drawn J) (omega arith) (below_of finds.0) (λ j other. ap is_idle (phase_of_others empty_base J e i phases.Destroying to j other)) in
    let same = ap (count_range (passes is_idle empty_base K) 0) (none_drawn J e (ap is_make_answer is)) in
    omega (arith, same, here, one, ap one_if was)
  where
    below_of : IsSomeAnd (record_in (records J) i) (λ r. r.phase ≡ phases.Idle) → i < 0 + drawn J
    below_of found = by_record (record_in (records J) i) refl found
      where
        by_record : (o : Option Record) → record_in (records J) i ≡ o → IsSomeAnd o (λ r. r.phase ≡ phases.Idle) → i < 0 + drawn J
        by_record None none is = absurd is
        by_record (Some r) some is = let at = (found_from empty_base J i r some).below in omega (arith, at)
