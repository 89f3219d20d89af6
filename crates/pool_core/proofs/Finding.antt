-- An expected answer finds the object that it concerns in a phase that allows it.
use Rattle.std.proofs.Common.{◌≡◌, ℕ, Bool, true, false, if◌then◌else◌, List, [], ◌∷◌, length, Option, Some, None, refl, sym, ◌∙◌}
use Rattle.std.proofs.Common.{subst}
use Rattle.std.specs.Prelude.{IsSome, IsSomeAnd, ⊤, ◌&&◌, ◌-◌, nat_le, filter, ℤ, pos, negsuc}
use Rattle.std.specs.List.{AllByRecursion}
use Rattle.std.specs.Option.{option_map, option_or}
use Rattle.pool_journal.specs.Carrying.{carries}
use Rattle.pool_journal.specs.Entries.{id_of, made_to}
use Rattle.pool_journal.specs.Queue.{record_in, is_idle, idle_queue, first_of, last_of}
use Rattle.pool_journal.specs.declared.record.Record.{Record}
use Rattle.pool_journal.specs.declared.record.Phase.{Phase}
use Rattle.pool_journal.specs.declared.record.Phase.TheVariants as phases
use Rattle.pool_journal.specs.declared.input.Input.{Input}
use Rattle.pool_journal.specs.declared.input.Input.TheVariants.{Borrow, Ready, GiveBack, Park, Invalidate, Use, Add, Fill, Added}
use Rattle.pool_journal.specs.declared.input.Input.TheVariants.{Evict, EvictNext, Tested, Reclaim, ReclaimNext, Clear, ClearNext}
use Rattle.pool_journal.specs.declared.input.Input.TheVariants.{Destroyed, Close}
use Rattle.pool_journal.specs.declared.input.Outcome.{Outcome}
use Rattle.pool_journal.specs.declared.input.Outcome.TheVariants as outcomes
use Rattle.pool_journal.specs.declared.answer.Answer.{Answer}
use Rattle.pool_journal.specs.declared.answer.Answer.TheVariants as answers
use Rattle.pool_journal.proofs.Chosen.{all-filter}
use Rattle.pool_places.specs.After.{is_after}
use Rattle.pool_places.specs.Changes.{IsInPhase}
use Rattle.pool_places.specs.Overdue.{is_lent, is_overdue}
use Rattle.pool_settings.specs.declared.settings.Settings.{Settings}
use Rattle.pool_core.specs.Reply.{is_below, has_reached, borrow_candidate, examined, is_evictable, abandoned_objects, forgotten_for, exhausted_reply}
use Rattle.pool_core.specs.Reply.{borrow_reply, ready_reply, lent_reply, park_reply, added_reply, tested_reply, destroyed_reply}
use Rattle.pool_core.specs.Reply.{add_reply, evict_next_reply, reclaim_next_reply, clear_next_reply, phase_of, new_of, reply_from_records}
use Rattle.pool_core.specs.Steps.{comes_from, MovesInputObject, IsEnabled}
use Rattle.pool_core.proofs.Queues.{all_filter, all_ascending, first_has, last_has}

-- what an answer requires of the phase of the object that the input names
abbrev Allowed : Input → Answer → Phase → Type 0
Allowed input (answers.Take i) p = ⊥
Allowed input (answers.Test i) p = ⊥
Allowed input (answers.DestroyIdle i) p = ⊥
Allowed input (answers.Reclaimed i) p = ⊥
Allowed input (answers.Make i) p = ⊥
Allowed input answers.Parked p = (comes_from answers.Parked p ≡ true) × (carries input ≡ true)
Allowed input answers.Kept p = (comes_from answers.Kept p ≡ true) × (carries input ≡ true)
Allowed input answers.Lent p = comes_from answers.Lent p ≡ true
Allowed input answers.Check p = comes_from answers.Check p ≡ true
Allowed input answers.Destroy p = comes_from answers.Destroy p ≡ true
Allowed input answers.Freed p = comes_from answers.Freed p ≡ true
Allowed input answers.Noted p = comes_from answers.Noted p ≡ true
Allowed input _ p = ⊤

ready_allowed : (i : ℕ) (p : Phase) (new : Bool) (o : Outcome) → Allowed (Ready i o) (ready_reply p new o) p
ready_allowed i phases.Readying new outcomes.PassivateFailed = tt
ready_allowed i phases.Readying false outcomes.MakeFailed = tt
ready_allowed i phases.Readying false outcomes.CreateTestFailed = tt
ready_allowed i phases.Readying true outcomes.MakeFailed = refl
ready_allowed i phases.Readying true outcomes.CreateTestFailed = refl
ready_allowed i phases.Readying new outcomes.Good = refl
ready_allowed i phases.Readying new outcomes.ActivateFailed = refl
ready_allowed i phases.Readying new outcomes.TestFailed = refl
ready_allowed i _ new o = tt

lent_allowed : (input : Input) (b : Bool) (p : Phase) (a : Answer) → Allowed input a phases.Lent
    → Allowed input (lent_reply b p a) p
lent_allowed input b phases.Lent a is = is
lent_allowed input true phases.Absent a is = tt
lent_allowed input false phases.Absent a is = tt
lent_allowed input true phases.Gone a is = tt
lent_allowed input false phases.Gone a is = tt
lent_allowed input b _ a is = tt

park_allowed : (i : ℕ) (p : Phase) (o : Outcome) (room : Bool) → Allowed (Park i o) (park_reply p o room) p
park_allowed i phases.Returning outcomes.Good true = (refl, refl)
park_allowed i phases.Returning outcomes.Good false = refl
park_allowed i phases.Returning outcomes.TestFailed room = refl
park_allowed i phases.Returning outcomes.PassivateFailed room = refl
park_allowed i phases.Returning _ room = tt
park_allowed i _ o room = tt

added_allowed : (i : ℕ) (p : Phase) (o : Outcome) (is_open : Bool) → Allowed (Added i o) (added_reply p o is_open) p
added_allowed i phases.Adding outcomes.Good true = (refl, refl)
added_allowed i phases.Adding outcomes.Good false = refl
added_allowed i phases.Adding outcomes.ActivateFailed is_open = tt
added_allowed i phases.Adding outcomes.TestFailed is_open = tt
added_allowed i phases.Adding _ is_open = refl
added_allowed i _ o is_open = tt

tested_allowed : (i : ℕ) (p : Phase) (o : Outcome) (is_open : Bool) → Allowed (Tested i o) (tested_reply p o is_open) p
tested_allowed i phases.Testing outcomes.Good true = (refl, refl)
tested_allowed i phases.Testing outcomes.Good false = refl
tested_allowed i phases.Testing outcomes.MakeFailed is_open = tt
tested_allowed i phases.Testing outcomes.CreateTestFailed is_open = tt
tested_allowed i phases.Testing _ is_open = refl
tested_allowed i _ o is_open = tt

destroyed_allowed : (i : ℕ) (p : Phase) → Allowed (Destroyed i) (destroyed_reply p) p
destroyed_allowed i phases.Destroying = refl
destroyed_allowed i _ = tt

-- no answer moves an object from Absent, so an object in a phase that it moves is present
absent_stays : (a : Answer) → comes_from a phases.Absent ≡ false
absent_stays answers.Lent = refl
absent_stays answers.Check = refl
absent_stays answers.Parked = refl
absent_stays answers.Kept = refl
absent_stays answers.Destroy = refl
absent_stays answers.Freed = refl
absent_stays answers.Noted = refl
absent_stays _ = refl

comes : (o : Option Record) (a : Answer) → comes_from a (phase_of o) ≡ true → IsSomeAnd o (λ r. comes_from a r.phase ≡ true)
comes None a is = absurd (cc (is, absent_stays a))
comes (Some r) a is = is

-- an answer that is allowed finds the object that the input names
named_finds : (input : Input) (i : ℕ) (a : Answer) (rs : List Record) (next : ℕ) → id_of input ≡ Some i
    → Allowed input a (phase_of (record_in rs i)) → IsEnabled input a rs next
named_finds input i a rs next named allowed = by_answer a allowed
  where
    moves : (a : Answer) → comes_from a (phase_of (record_in rs i)) ≡ true → MovesInputObject input a rs
    moves a is = rw named (comes (record_in rs i) a is)

    by_answer : (a : Answer) → Allowed input a (phase_of (record_in rs i)) → IsEnabled input a rs next
    by_answer (answers.Take j) is = absurd is
    by_answer (answers.Test j) is = absurd is
    by_answer (answers.DestroyIdle j) is = absurd is
    by_answer (answers.Reclaimed j) is = absurd is
    by_answer (answers.Make j) is = absurd is
    by_answer answers.Parked is = (moves answers.Parked is.0, is.1)
    by_answer answers.Kept is = (moves answers.Kept is.0, is.1)
    by_answer answers.Lent is = moves answers.Lent is
    by_answer answers.Check is = moves answers.Check is
    by_answer answers.Destroy is = moves answers.Destroy is
    by_answer answers.Freed is = moves answers.Freed is
    by_answer answers.Noted is = moves answers.Noted is
    by_answer _ is = tt

-- each record is found under its id
abbrev pub AllFound : List Record → Type 0
AllFound rs = AllByRecursion (λ r. record_in rs r.id ≡ Some r) rs

-- the record that is found under the id of r is in the phase
abbrev IsIn : List Record → Phase → Record → Type 0
IsIn rs p r = IsInPhase rs r.id p

is_idle_true : (p : Phase) → is_idle p ≡ true → p ≡ phases.Idle
is_idle_true phases.Idle is = refl
is_idle_true _ is = absurd (cc is)

is_lent_true : (p : Phase) (b : Bool) → (is_lent p && b) ≡ true → p ≡ phases.Lent
is_lent_true phases.Lent b is = refl
is_lent_true _ b is = absurd (cc is)

-- if a test determines the phase of a record, each that passes it is found in that phase
all_in : (rs : List Record) (p : Phase) (test : Record → Bool) → ((r : Record) → test r ≡ true → r.phase ≡ p) → AllFound rs
    → AllByRecursion (IsIn rs p) (filter test rs)
all_in rs p test reported found = along (filter test rs) (all-filter (λ r. record_in rs r.id ≡ Some r) test rs found)
  where
    along : (ks : List Record) → AllByRecursion (λ r. (record_in rs r.id ≡ Some r) × (test r ≡ true)) ks
        → AllByRecursion (IsIn rs p) ks
    along [] all = tt
    along (r ∷ ks) all = (rw all.0.0 (reported r all.0.1), along ks all.1)

idle_all : (rs : List Record) → AllFound rs → AllByRecursion (IsIn rs phases.Idle) (idle_queue rs)
idle_all rs found =
    all_ascending (IsIn rs phases.Idle) (λ r. r.parked) (filter (λ r. is_idle r.phase) rs)
    (all_in rs phases.Idle (λ r. is_idle r.phase) (λ r is. is_idle_true r.phase is) found)

lent_all : (S : Settings) (at : ℕ) (rs : List Record) → AllFound rs → AllByRecursion (IsIn rs phases.Lent) (abandoned_objects S at rs)
lent_all S at rs found = by_timeout S.remove_abandoned_timeout_millis
  where
    by_timeout : (t : ℤ) → AllByRecursion (IsIn rs phases.Lent) (forgotten_for t at rs)
    by_timeout (pos timeout) =
        all_in rs phases.Lent (is_overdue at timeout) (λ r is. is_lent_true r.phase (nat_le timeout (at - r.used)) is) found
    by_timeout (negsuc _) = tt

first_idle : (rs : List Record) → AllFound rs → (r : Record) → first_of (idle_queue rs) ≡ Some r → IsIn rs phases.Idle r
first_idle rs found r is = first_has (IsIn rs phases.Idle) (idle_queue rs) r (idle_all rs found) is

choice_idle : (lifo : Bool) (rs : List Record) → AllFound rs → (i : ℕ) → borrow_candidate lifo rs ≡ Some i → IsInPhase rs i phases.Idle
choice_idle lifo rs found i is = by_lifo lifo is
  where
    by_id : (o : Option Record) → ((r : Record) → o ≡ Some r → IsIn rs phases.Idle r) → option_map (λ r. r.id) o ≡ Some i
        → IsInPhase rs i phases.Idle
    by_id None has is = absurd (cc is)
    by_id (Some r) has is = let same : r.id ≡ i = cc is in subst (λ (j : ℕ). IsInPhase rs j phases.Idle) same (has r refl)

    by_lifo : (b : Bool) → borrow_candidate b rs ≡ Some i → IsInPhase rs i phases.Idle
    by_lifo true is =
        by_id (last_of (idle_queue rs)) (λ r last. last_has (IsIn rs phases.Idle) (idle_queue rs) r (idle_all rs found) last) is
    by_lifo false is = by_id (first_of (idle_queue rs)) (first_idle rs found) is

examined_idle : (cursor : Option ℕ) (rs : List Record) → AllFound rs → (r : Record) → examined cursor rs ≡ Some r
    → IsIn rs phases.Idle r
examined_idle cursor rs found r is = by_case (first_of (filter (is_after cursor) (idle_queue rs))) refl is
  where
    by_case : (o : Option Record) → first_of (filter (is_after cursor) (idle_queue rs)) ≡ o
        → option_or o (first_of (idle_queue rs)) ≡ Some r → IsIn rs phases.Idle r
    by_case None none is = first_idle rs found r is
    by_case (Some x) some is =
        first_has (IsIn rs phases.Idle) (filter (is_after cursor) (idle_queue rs)) r
        (all_filter (IsIn rs phases.Idle) (is_after cursor) (idle_queue rs) (idle_all rs found)) (some ∙ is)

either_finds : (input : Input) (b : Bool) (x y : Answer) (rs : List Record) (next : ℕ) → IsEnabled input x rs next
    → IsEnabled input y rs next → IsEnabled input (if b then x else y) rs next
either_finds input true x y rs next first second = first
either_finds input false x y rs next first second = second

borrow_finds : (S : Settings) (began waited : ℕ) (o : Option ℕ) (room : Bool) (rs : List Record) (next : ℕ)
    → ((i : ℕ) → o ≡ Some i → IsInPhase rs i phases.Idle)
    → IsEnabled (Borrow began) (borrow_reply o room next (exhausted_reply S waited)) rs next
borrow_finds S began waited (Some i) room rs next has = (has i refl, refl)
borrow_finds S began waited None true rs next has = (refl, refl)
borrow_finds S began waited None false rs next has =
    either_finds (Borrow began) S.block_when_exhausted _ answers.Exhausted rs next
    (either_finds (Borrow began) (has_reached S.max_wait_millis waited) answers.TimedOut answers.Wait rs next tt tt) tt

add_finds : (input : Input) (room : Bool) (rs : List Record) (next : ℕ) → IsSome (made_to input next)
    → IsEnabled input (add_reply room next) rs next
add_finds input room rs next makes = either_finds input room (answers.Make next) answers.NoPlace rs next (refl, makes) tt

evict_next_finds : (S : Settings) (q at : ℕ) (o : Option Record) (rs : List Record) (next : ℕ)
    → ((r : Record) → o ≡ Some r → IsIn rs phases.Idle r) → IsEnabled EvictNext (evict_next_reply S q at o) rs next
evict_next_finds S q at None rs next has = tt
evict_next_finds S q at (Some r) rs next has =
    either_finds EvictNext (is_evictable S q at r) (answers.DestroyIdle r.id) _ rs next (has r refl, refl)
    (either_finds EvictNext S.test_while_idle (answers.Test r.id) (answers.KeptIdle r.id) rs next (has r refl, refl) tt)

reclaim_next_finds : (b : Bool) (o : Option Record) (rs : List Record) (next : ℕ)
    → ((r : Record) → o ≡ Some r → IsIn rs phases.Lent r) → IsEnabled ReclaimNext (reclaim_next_reply b o) rs next
reclaim_next_finds true (Some r) rs next has = has r refl
reclaim_next_finds true None rs next has = tt
reclaim_next_finds false o rs next has = tt

clear_next_finds : (o : Option Record) (rs : List Record) (next : ℕ) → ((r : Record) → o ≡ Some r → IsIn rs phases.Idle r)
    → IsEnabled ClearNext (clear_next_reply o) rs next
clear_next_finds (Some r) rs next has = (has r refl, refl)
clear_next_finds None rs next has = tt

-- an expected answer finds what it concerns
pub finds_of : (S : Settings) (rs : List Record) (next : ℕ) (shut : Bool) (cursor : Option ℕ) (at : ℕ) (input : Input) (a : Answer)
    → AllFound rs → a ≡ reply_from_records S rs next shut cursor at input → IsEnabled input a rs next
finds_of S rs next shut cursor at input a found due = subst (λ (a : Answer). IsEnabled input a rs next) (sym due) (by_input input)
  where
    named : (input : Input) (i : ℕ) (a : Answer) → id_of input ≡ Some i → Allowed input a (phase_of (record_in rs i))
        → IsEnabled input a rs next
    named input i a is allowed = named_finds input i a rs next is allowed

    unless : (input : Input) (b : Bool) (x y : Answer) → IsEnabled input x rs next → IsEnabled input y rs next
        → IsEnabled input (if b then x else y) rs next
    unless input b x y first second = either_finds input b x y rs next first second

    phase_at : ℕ → Phase
    phase_at i = phase_of (record_in rs i)

    by_input : (input : Input) → IsEnabled input (reply_from_records S rs next shut cursor at input) rs next
    by_input (Borrow began) =
        unless (Borrow began) shut _ _ tt
        (borrow_finds S began (at - began) (borrow_candidate S.lifo rs) (is_below S.max_total (length rs)) rs next
        (choice_idle S.lifo rs found))
    by_input (Ready i o) = named (Ready i o) i _ refl (ready_allowed i (phase_at i) (new_of (record_in rs i)) o)
    by_input (GiveBack i) = named (GiveBack i) i _ refl (lent_allowed (GiveBack i) S.abandoned (phase_at i) answers.Check refl)
    by_input (Park i o) = named (Park i o) i _ refl (park_allowed i (phase_at i) o _)
    by_input (Invalidate i) =
        named (Invalidate i) i _ refl (lent_allowed (Invalidate i) S.abandoned (phase_at i) answers.Destroy refl)
    by_input (Use i) = named (Use i) i _ refl (lent_allowed (Use i) S.abandoned (phase_at i) answers.Noted refl)
    by_input Add = unless Add shut _ _ tt (add_finds Add (is_below S.max_total (length rs)) rs next refl)
    by_input Fill = unless Fill _ answers.Enough _ tt (add_finds Fill (is_below S.max_total (length rs)) rs next refl)
    by_input (Added i o) = named (Added i o) i _ refl (added_allowed i (phase_at i) o _)
    by_input Evict = unless Evict shut _ _ tt tt
    by_input EvictNext = evict_next_finds S _ at (examined cursor rs) rs next (examined_idle cursor rs found)
    by_input (Tested i o) = named (Tested i o) i _ refl (tested_allowed i (phase_at i) o _)
    by_input (Reclaim on) = tt
    by_input ReclaimNext =
        reclaim_next_finds S.abandoned (first_of (abandoned_objects S at rs)) rs next
        (λ r first. first_has (IsIn rs phases.Lent) (abandoned_objects S at rs) r (lent_all S at rs found) first)
    by_input Clear = tt
    by_input ClearNext = clear_next_finds (first_of (idle_queue rs)) rs next (first_idle rs found)
    by_input (Destroyed i) = named (Destroyed i) i _ refl (destroyed_allowed i (phase_at i))
    by_input Close = unless Close shut answers.Nothing _ tt tt
