-- An expected answer affects one present object, or the next one, or none, and examines only a present one.
use Rattle.std.proofs.Common.{◌≡◌, ◌≢◌, ℕ, ◌==◌, Bool, true, false, cond, if◌then◌else◌, List, [], ◌∷◌, length, Option, Some, None}
use Rattle.std.proofs.Common.{refl, ap, sym, ◌∙◌, arith, subst}
use Rattle.std.specs.Prelude.{IsSome, is_some, not, ℤ, pos, negsuc, ◌-◌, ⊤}
use Rattle.std.specs.List.{AllByRecursion}
use Rattle.std.specs.Option.{option_map}
use Rattle.std.proofs.lemmas.Bool.Decides.{nat_tests}
use Rattle.pool_journal.specs.Entries.{id_of, made_to, move_of, examined_by, is_present, is_make_answer, is_parked_answer}
use Rattle.pool_journal.specs.Entries.{is_lent_answer, is_noted_answer}
use Rattle.pool_journal.specs.OneMore.{record_after}
use Rattle.pool_journal.specs.Queue.{record_in, idle_queue, first_of, last_of, queue_length}
use Rattle.pool_journal.specs.declared.record.Record.{Record}
use Rattle.pool_journal.specs.declared.input.Input.{Input}
use Rattle.pool_journal.specs.declared.input.Input.TheVariants.{Borrow, Ready, GiveBack, Park, Invalidate, Use, Add, Fill, Added}
use Rattle.pool_journal.specs.declared.input.Input.TheVariants.{Evict, EvictNext, Tested, Reclaim, ReclaimNext, Clear, ClearNext}
use Rattle.pool_journal.specs.declared.input.Input.TheVariants.{Destroyed, Close}
use Rattle.pool_journal.specs.declared.input.Outcome.{Outcome}
use Rattle.pool_journal.specs.declared.input.Outcome.TheVariants as outcomes
use Rattle.pool_journal.specs.declared.answer.Answer.{Answer}
use Rattle.pool_journal.specs.declared.answer.Answer.TheVariants as answers
use Rattle.pool_journal.specs.declared.answer.Cause.{Cause}
use Rattle.pool_journal.specs.declared.answer.Cause.TheVariants as causes
use Rattle.pool_journal.specs.declared.record.Phase.{Phase}
use Rattle.pool_journal.specs.declared.record.Phase.TheVariants as phases
use Rattle.pool_journal.specs.Effects.{HasEffect, silent, touches, draws, NoEffect, Examines}
use Rattle.pool_places.specs.Overdue.{is_overdue}
use Rattle.pool_settings.specs.declared.settings.Settings.{Settings}
use Rattle.pool_core.specs.Legal.{entry_of}
use Rattle.pool_core.specs.Reply.{is_below, has_reached, borrow_candidate, examined, is_evictable, forgotten_for, abandoned_objects, has_room, exhausted_reply}
use Rattle.pool_core.specs.Reply.{borrow_reply, ready_reply, lent_reply, park_reply, added_reply, tested_reply, destroyed_reply}
use Rattle.pool_core.specs.Reply.{add_reply, evict_next_reply, reclaim_next_reply, clear_next_reply, phase_of, new_of, reply_from_records}
use Rattle.pool_core.proofs.Queues.{all_filter, all_idle, first_has, last_has, examined_has}

differs : (i j : ℕ) → j ≢ i → (i == j) ≡ false
differs i j other = grind (arith, nat_tests)

-- each record is found under its id
abbrev IsThere : List Record → Record → Type 0
IsThere rs r = IsSome (record_in rs r.id)

each_there : (rs : List Record) → AllByRecursion (IsThere rs) rs
each_there rs = along rs (λ i is. is)
  where
    head_there : (x : Record) (xs : List Record) → IsSome (record_in (x ∷ xs) x.id)
    head_there x xs = let same : (x.id == x.id) ≡ true = grind (arith, nat_tests) in rw same refl

    tail_there : (x : Record) (xs : List Record) (i : ℕ) → IsSome (record_in xs i) → IsSome (record_in (x ∷ xs) i)
    tail_there x xs i is = by_test (i == x.id)
      where
        by_test : (b : Bool) → IsSome (cond b (Some x) (record_in xs i))
        by_test true = refl
        by_test false = is

    along : (xs : List Record) → ((i : ℕ) → IsSome (record_in xs i) → IsSome (record_in rs i))
        → AllByRecursion (λ r. IsSome (record_in rs r.id)) xs
    along [] there = tt
    along (x ∷ xs) there = (there x.id (head_there x xs), along xs (λ i is. there i (tail_there x xs i is)))

idle_there : (rs : List Record) → AllByRecursion (IsThere rs) (idle_queue rs)
idle_there rs = all_idle (IsThere rs) rs (each_there rs)

forgotten_there : (S : Settings) (at : ℕ) (rs : List Record) → AllByRecursion (IsThere rs) (abandoned_objects S at rs)
forgotten_there S at rs = for_timeout S.remove_abandoned_timeout_millis
  where
    for_timeout : (timeout : ℤ) → AllByRecursion (IsThere rs) (forgotten_for timeout at rs)
    for_timeout (pos timeout) = all_filter (IsThere rs) (is_overdue at timeout) rs (each_there rs)
    for_timeout (negsuc _) = tt

-- the object that a borrow takes is present
pub choice_is_there : (lifo : Bool) (rs : List Record) (i : ℕ) → borrow_candidate lifo rs ≡ Some i → IsSome (record_in rs i)
choice_is_there true rs i is = by_last (last_of (idle_queue rs)) refl is
  where
    by_last : (o : Option Record) → last_of (idle_queue rs) ≡ o → option_map (λ r. r.id) o ≡ Some i → IsSome (record_in rs i)
    by_last None found is = absurd (cc is)
    by_last (Some r) found is =
        let same : r.id ≡ i = cc is in subst (λ (j : ℕ). IsSome (record_in rs j)) same
        (last_has (IsThere rs) (idle_queue rs) r (idle_there rs) found)
choice_is_there false rs i is = by_first (first_of (idle_queue rs)) refl is
  where
    by_first : (o : Option Record) → first_of (idle_queue rs) ≡ o → option_map (λ r. r.id) o ≡ Some i → IsSome (record_in rs i)
    by_first None found is = absurd (cc is)
    by_first (Some r) found is =
        let same : r.id ≡ i = cc is in subst (λ (j : ℕ). IsSome (record_in rs j)) same
        (first_has (IsThere rs) (idle_queue rs) r (idle_there rs) found)

-- the same for the one that is examined next
pub examined_is_there : (cursor : Option ℕ) (rs : List Record) (r : Record) → examined cursor rs ≡ Some r
    → IsSome (record_in rs r.id)
examined_is_there cursor rs r is = examined_has (λ r. IsSome (record_in rs r.id)) cursor rs (each_there rs) r is

-- answers that affect no object except the input's
abbrev IsNamed : Answer → Type 0
IsNamed (answers.Take i) = ⊥
IsNamed (answers.Make i) = ⊥
IsNamed (answers.Test i) = ⊥
IsNamed (answers.DestroyIdle i) = ⊥
IsNamed (answers.Reclaimed i) = ⊥
IsNamed _ = ⊤

others_stay : (c at : ℕ) (input : Input) (a : Answer) (i : ℕ) → id_of input ≡ Some i → IsNamed a → (k : ℕ) (r : Record) → r.id ≢ i
    → record_after k (entry_of c at input a) r ≡ r
others_stay c at input (answers.Take j) i named is k r other = absurd is
others_stay c at input (answers.Make j) i named is k r other = absurd is
others_stay c at input (answers.Test j) i named is k r other = absurd is
others_stay c at input (answers.DestroyIdle j) i named is k r other = absurd is
others_stay c at input (answers.Reclaimed j) i named is k r other = absurd is
others_stay c at input answers.Lent i named is k r other = rw (named, differs i r.id other) refl
others_stay c at input answers.Check i named is k r other = rw (named, differs i r.id other) refl
others_stay c at input answers.Parked i named is k r other = rw (named, differs i r.id other) refl
others_stay c at input answers.Kept i named is k r other = rw (named, differs i r.id other) refl
others_stay c at input answers.Destroy i named is k r other = rw (named, differs i r.id other) refl
others_stay c at input answers.Freed i named is k r other = rw (named, differs i r.id other) refl
others_stay c at input answers.Noted i named is k r other = rw (named, differs i r.id other) refl
others_stay c at input _ i named is k r other = refl

no_make : (a : Answer) → IsNamed a → is_make_answer a ≡ false
no_make (answers.Make j) is = absurd is
no_make _ is = refl

-- an input that names an object: if it is present, the answer may affect it, otherwise it has no effect
by_name : (c at i : ℕ) (input : Input) (rs : List Record) (next : ℕ) (F : Phase → Bool → Answer) → id_of input ≡ Some i
    → ((p : Phase) (new : Bool) → IsNamed (F p new)) → NoEffect (entry_of c at input (F phases.Absent false))
    → HasEffect (entry_of c at input (F (phase_of (record_in rs i)) (new_of (record_in rs i)))) rs next
by_name c at i input rs next F named is nothing = by_record (record_in rs i) refl
  where
    by_record : (o : Option Record) → record_in rs i ≡ o → HasEffect (entry_of c at input (F (phase_of o) (new_of o))) rs next
    by_record None found = silent nothing
    by_record (Some r) found =
        touches
        (record {
          i = i;
          is_there = ap is_some found;
          no_make = no_make (F r.phase r.is_new) (is r.phase r.is_new);
          others_stay = others_stay c at input (F r.phase r.is_new) i named (is r.phase r.is_new);
        })

ready_named : (p : Phase) (new : Bool) (o : Outcome) → IsNamed (ready_reply p new o)
ready_named phases.Readying new outcomes.PassivateFailed = tt
ready_named phases.Readying false outcomes.MakeFailed = tt
ready_named phases.Readying true outcomes.MakeFailed = tt
ready_named phases.Readying false outcomes.CreateTestFailed = tt
ready_named phases.Readying true outcomes.CreateTestFailed = tt
ready_named phases.Readying new outcomes.Good = tt
ready_named phases.Readying new outcomes.ActivateFailed = tt
ready_named phases.Readying new outcomes.TestFailed = tt
ready_named _ new o = tt

lent_named : (b : Bool) (p : Phase) (a : Answer) → IsNamed a → IsNamed (lent_reply b p a)
lent_named b phases.Lent a is = is
lent_named true phases.Absent a is = tt
lent_named false phases.Absent a is = tt
lent_named true phases.Gone a is = tt
lent_named false phases.Gone a is = tt
lent_named b _ a is = tt

park_named : (p : Phase) (o : Outcome) (room : Bool) → IsNamed (park_reply p o room)
park_named phases.Returning outcomes.Good true = tt
park_named phases.Returning outcomes.Good false = tt
park_named phases.Returning outcomes.TestFailed room = tt
park_named phases.Returning outcomes.PassivateFailed room = tt
park_named phases.Returning _ room = tt
park_named _ o room = tt

added_named : (p : Phase) (o : Outcome) (is_open : Bool) → IsNamed (added_reply p o is_open)
added_named phases.Adding outcomes.Good true = tt
added_named phases.Adding outcomes.Good false = tt
added_named phases.Adding _ is_open = tt
added_named _ o is_open = tt

tested_named : (p : Phase) (o : Outcome) (is_open : Bool) → IsNamed (tested_reply p o is_open)
tested_named phases.Testing outcomes.Good true = tt
tested_named phases.Testing outcomes.Good false = tt
tested_named phases.Testing _ is_open = tt
tested_named _ o is_open = tt

destroyed_named : (p : Phase) → IsNamed (destroyed_reply p)
destroyed_named phases.Destroying = tt
destroyed_named _ = tt

-- an entry without effect
mute : (c at : ℕ) (input : Input) (cause : Cause) → NoEffect (entry_of c at input (answers.Refused cause))
mute c at input cause = record { no_make = refl; all_stay = λ k r. refl }

lent_mute : (c at : ℕ) (input : Input) (b : Bool) (a : Answer) → NoEffect (entry_of c at input (lent_reply b phases.Absent a))
lent_mute c at input true a = record { no_make = refl; all_stay = λ k r. refl }
lent_mute c at input false a = record { no_make = refl; all_stay = λ k r. refl }

-- an object is made for the input, or there is no effect
drawn_speaks : (c at : ℕ) (input : Input) (p : Phase) (rs : List Record) (next : ℕ) → made_to input next ≡ Some (next, p)
    → is_present p ≡ true → HasEffect (entry_of c at input (answers.Make next)) rs next
drawn_speaks c at input p rs next to here =
    let same : (next == next) ≡ true = grind (arith, nat_tests) in
    draws
    (record { makes = refl; comes = λ k. rw (to, same) here; others_stay = λ k r other. rw (to, differs next r.id other) refl })

add_speaks : (c at : ℕ) (input : Input) (rs : List Record) (next : ℕ) (room : Bool)
    → made_to input next ≡ Some (next, phases.Adding) → HasEffect (entry_of c at input (add_reply room next)) rs next
add_speaks c at input rs next true to = drawn_speaks c at input phases.Adding rs next to refl
add_speaks c at input rs next false to = silent (record { no_make = refl; all_stay = λ k r. refl })

borrow_speaks : (S : Settings) (c at began : ℕ) (rs : List Record) (next waited : ℕ) (o : Option ℕ) (room : Bool)
    → ((i : ℕ) → o ≡ Some i → IsSome (record_in rs i))
    → HasEffect (entry_of c at (Borrow began) (borrow_reply o room next (exhausted_reply S waited))) rs next
borrow_speaks S c at began rs next waited (Some i) room there =
    touches (record { i = i; is_there = there i refl; no_make = refl; others_stay = λ k r other. rw (differs i r.id other) refl })
borrow_speaks S c at began rs next waited None true there = drawn_speaks c at (Borrow began) phases.Readying rs next refl refl
borrow_speaks S c at began rs next waited None false there = by_test S.block_when_exhausted (has_reached S.max_wait_millis waited)
  where
    by_test : (b t : Bool)
        → HasEffect (entry_of c at (Borrow began) (if b then (if t then answers.TimedOut else answers.Wait) else answers.Exhausted))
        rs next
    by_test true true = silent (record { no_make = refl; all_stay = λ k r. refl })
    by_test true false = silent (record { no_make = refl; all_stay = λ k r. refl })
    by_test false t = silent (record { no_make = refl; all_stay = λ k r. refl })

-- an answer that affects another object than the input's
of_own : (c at i : ℕ) (input : Input) (a : Answer) (p : Phase) (rs : List Record) (next : ℕ) → IsSome (record_in rs i)
    → move_of a input ≡ Some (i, p) → is_make_answer a ≡ false → is_parked_answer a ≡ false → is_lent_answer a ≡ false
    → is_noted_answer a ≡ false
    → HasEffect (entry_of c at input a) rs next
of_own c at i input a p rs next there to no_make no_park no_lend no_note =
    touches
    (record {
      i = i;
      is_there = there;
      no_make = no_make;
      others_stay = λ k r other. rw (to, no_make, no_park, no_lend, no_note, differs i r.id other) refl;
    })

-- the answer for an examined object that is evicted, or tested
abbrev one_examined : Bool → Bool → ℕ → Answer
one_examined b t i = if b then answers.DestroyIdle i else (if t then answers.Test i else answers.KeptIdle i)

evict_next_speaks : (S : Settings) (c at q : ℕ) (rs : List Record) (next : ℕ) (o : Option Record)
    → ((r : Record) → o ≡ Some r → IsSome (record_in rs r.id))
    → HasEffect (entry_of c at EvictNext (evict_next_reply S q at o)) rs next
evict_next_speaks S c at q rs next None there = silent (record { no_make = refl; all_stay = λ k r. refl })
evict_next_speaks S c at q rs next (Some x) there = by_test (is_evictable S q at x) S.test_while_idle
  where
    by_test : (b t : Bool) → HasEffect (entry_of c at EvictNext (one_examined b t x.id)) rs next
    by_test true t =
        of_own c at x.id EvictNext (answers.DestroyIdle x.id) phases.Destroying rs next (there x refl) refl refl refl refl refl
    by_test false true =
        of_own c at x.id EvictNext (answers.Test x.id) phases.Testing rs next (there x refl) refl refl refl refl refl
    by_test false false = silent (record { no_make = refl; all_stay = λ k r. refl })

reclaim_next_speaks : (c at : ℕ) (rs : List Record) (next : ℕ) (b : Bool) (o : Option Record)
    → ((r : Record) → o ≡ Some r → IsSome (record_in rs r.id)) → HasEffect (entry_of c at ReclaimNext (reclaim_next_reply b o)) rs next
reclaim_next_speaks c at rs next true (Some x) there =
    of_own c at x.id ReclaimNext (answers.Reclaimed x.id) phases.Gone rs next (there x refl) refl refl refl refl refl
reclaim_next_speaks c at rs next true None there = silent (record { no_make = refl; all_stay = λ k r. refl })
reclaim_next_speaks c at rs next false o there = silent (record { no_make = refl; all_stay = λ k r. refl })

clear_next_speaks : (c at : ℕ) (rs : List Record) (next : ℕ) (o : Option Record)
    → ((r : Record) → o ≡ Some r → IsSome (record_in rs r.id)) → HasEffect (entry_of c at ClearNext (clear_next_reply o)) rs next
clear_next_speaks c at rs next (Some x) there =
    of_own c at x.id ClearNext (answers.DestroyIdle x.id) phases.Destroying rs next (there x refl) refl refl refl refl refl
clear_next_speaks c at rs next None there = silent (record { no_make = refl; all_stay = λ k r. refl })

unless : (b : Bool) (c at : ℕ) (input : Input) (x y : Answer) (rs : List Record) (next : ℕ) → NoEffect (entry_of c at input x)
    → HasEffect (entry_of c at input y) rs next → HasEffect (entry_of c at input (if b then x else y)) rs next
unless true c at input x y rs next s t = silent s
unless false c at input x y rs next s t = t

-- an expected answer affects what it may
pub speaks : (S : Settings) (rs : List Record) (next : ℕ) (shut : Bool) (cursor : Option ℕ) (c at : ℕ) (input : Input)
    → HasEffect (entry_of c at input (reply_from_records S rs next shut cursor at input)) rs next
speaks S rs next shut cursor c at (Borrow began) =
    unless shut c at (Borrow began) _ _ rs next (mute c at (Borrow began) causes.Closed)
    (borrow_speaks S c at began rs next (at - began) (borrow_candidate S.lifo rs) (is_below S.max_total (length rs))
    (λ i is. choice_is_there S.lifo rs i is))
speaks S rs next shut cursor c at (Ready i o) =
    by_name c at i (Ready i o) rs next (λ p new. ready_reply p new o) refl (λ p new. ready_named p new o)
    (mute c at (Ready i o) causes.NotHeld)
speaks S rs next shut cursor c at (GiveBack i) =
    by_name c at i (GiveBack i) rs next (λ p new. lent_reply S.abandoned p answers.Check) refl
    (λ p new. lent_named S.abandoned p answers.Check tt) (lent_mute c at (GiveBack i) S.abandoned answers.Check)
speaks S rs next shut cursor c at (Park i o) =
    by_name c at i (Park i o) rs next (λ p new. park_reply p o (has_room S shut rs)) refl (λ p new. park_named p o _)
    (mute c at (Park i o) causes.NotHeld)
speaks S rs next shut cursor c at (Invalidate i) =
    by_name c at i (Invalidate i) rs next (λ p new. lent_reply S.abandoned p answers.Destroy) refl
    (λ p new. lent_named S.abandoned p answers.Destroy tt) (lent_mute c at (Invalidate i) S.abandoned answers.Destroy)
speaks S rs next shut cursor c at (Use i) =
    by_name c at i (Use i) rs next (λ p new. lent_reply S.abandoned p answers.Noted) refl
    (λ p new. lent_named S.abandoned p answers.Noted tt) (lent_mute c at (Use i) S.abandoned answers.Noted)
speaks S rs next shut cursor c at Add =
    unless shut c at Add _ _ rs next (mute c at Add causes.Closed)
    (add_speaks c at Add rs next (is_below S.max_total (length rs)) refl)
speaks S rs next shut cursor c at Fill =
    unless _ c at Fill answers.Enough _ rs next (record { no_make = refl; all_stay = λ k r. refl })
    (add_speaks c at Fill rs next (is_below S.max_total (length rs)) refl)
speaks S rs next shut cursor c at (Added i o) =
    by_name c at i (Added i o) rs next (λ p new. added_reply p o (not shut)) refl (λ p new. added_named p o (not shut))
    (mute c at (Added i o) causes.NotHeld)
speaks S rs next shut cursor c at Evict =
    unless shut c at Evict _ _ rs next (mute c at Evict causes.Closed) (silent (record { no_make = refl; all_stay = λ k r. refl }))
speaks S rs next shut cursor c at EvictNext =
    evict_next_speaks S c at (queue_length rs) rs next (examined cursor rs) (λ r is. examined_is_there cursor rs r is)
speaks S rs next shut cursor c at (Tested i o) =
    by_name c at i (Tested i o) rs next (λ p new. tested_reply p o (not shut)) refl (λ p new. tested_named p o (not shut))
    (mute c at (Tested i o) causes.NotHeld)
speaks S rs next shut cursor c at (Reclaim on) = silent (record { no_make = refl; all_stay = λ k r. refl })
speaks S rs next shut cursor c at ReclaimNext =
    reclaim_next_speaks c at rs next S.abandoned (first_of (abandoned_objects S at rs))
    (λ r is. first_has (IsThere rs) (abandoned_objects S at rs) r (forgotten_there S at rs) is)
speaks S rs next shut cursor c at Clear = silent (record { no_make = refl; all_stay = λ k r. refl })
speaks S rs next shut cursor c at ClearNext =
    clear_next_speaks c at rs next (first_of (idle_queue rs)) (λ r is. first_has (IsThere rs) (idle_queue rs) r (idle_there rs) is)
speaks S rs next shut cursor c at (Destroyed i) =
    by_name c at i (Destroyed i) rs next (λ p new. destroyed_reply p) refl (λ p new. destroyed_named p)
    (mute c at (Destroyed i) causes.NotHeld)
speaks S rs next shut cursor c at Close =
    unless shut c at Close answers.Nothing _ rs next (record { no_make = refl; all_stay = λ k r. refl })
    (silent (record { no_make = refl; all_stay = λ k r. refl }))

-- the examined object is present
examines_one : (S : Settings) (c at q : ℕ) (rs : List Record) (o : Option Record)
    → ((r : Record) → o ≡ Some r → IsSome (record_in rs r.id)) → Examines (entry_of c at EvictNext (evict_next_reply S q at o)) rs
examines_one S c at q rs None there i is = absurd (cc is)
examines_one S c at q rs (Some x) there i is = by_test (is_evictable S q at x) S.test_while_idle is
  where
    by_test : (b t : Bool) → examined_by (one_examined b t x.id) EvictNext ≡ Some i → IsSome (record_in rs i)
    by_test true t is = let same : x.id ≡ i = cc is in subst (λ (j : ℕ). IsSome (record_in rs j)) same (there x refl)
    by_test false true is = let same : x.id ≡ i = cc is in subst (λ (j : ℕ). IsSome (record_in rs j)) same (there x refl)
    by_test false false is = let same : x.id ≡ i = cc is in subst (λ (j : ℕ). IsSome (record_in rs j)) same (there x refl)

abbrev is_evict_next : Input → Bool
is_evict_next EvictNext = true
is_evict_next _ = false

examines_none : (a : Answer) (input : Input) → is_evict_next input ≡ false → examined_by a input ≡ None
examines_none (answers.KeptIdle i) EvictNext is = absurd (cc is)
examines_none (answers.KeptIdle i) _ is = refl
examines_none (answers.Test i) EvictNext is = absurd (cc is)
examines_none (answers.Test i) _ is = refl
examines_none (answers.DestroyIdle i) EvictNext is = absurd (cc is)
examines_none (answers.DestroyIdle i) _ is = refl
examines_none _ input is = refl

none_examined : (a : Answer) (input : Input) (i : ℕ) (rs : List Record) → is_evict_next input ≡ false → examined_by a input ≡ Some i
    → IsSome (record_in rs i)
none_examined a input i rs other is = absurd (cc (sym (examines_none a input other) ∙ is))

-- an expected answer examines a present object
pub examines : (S : Settings) (rs : List Record) (next : ℕ) (shut : Bool) (cursor : Option ℕ) (c at : ℕ) (input : Input)
    → Examines (entry_of c at input (reply_from_records S rs next shut cursor at input)) rs
examines S rs next shut cursor c at EvictNext j is =
    examines_one S c at (queue_length rs) rs (examined cursor rs) (examined_is_there cursor rs) j is
examines S rs next shut cursor c at (Borrow began) j is =
    none_examined (reply_from_records S rs next shut cursor at (Borrow began)) (Borrow began) j rs refl is
examines S rs next shut cursor c at (Ready i o) j is =
    none_examined (reply_from_records S rs next shut cursor at (Ready i o)) (Ready i o) j rs refl is
examines S rs next shut cursor c at (GiveBack i) j is =
    none_examined (reply_from_records S rs next shut cursor at (GiveBack i)) (GiveBack i) j rs refl is
examines S rs next shut cursor c at (Park i o) j is =
    none_examined (reply_from_records S rs next shut cursor at (Park i o)) (Park i o) j rs refl is
examines S rs next shut cursor c at (Invalidate i) j is =
    none_examined (reply_from_records S rs next shut cursor at (Invalidate i)) (Invalidate i) j rs refl is
examines S rs next shut cursor c at (Use i) j is = none_examined (reply_from_records S rs next shut cursor at (Use i)) (Use i) j rs refl is
examines S rs next shut cursor c at Add j is = none_examined (reply_from_records S rs next shut cursor at Add) Add j rs refl is
examines S rs next shut cursor c at Fill j is = none_examined (reply_from_records S rs next shut cursor at Fill) Fill j rs refl is
examines S rs next shut cursor c at (Added i o) j is =
    none_examined (reply_from_records S rs next shut cursor at (Added i o)) (Added i o) j rs refl is
examines S rs next shut cursor c at Evict j is = none_examined (reply_from_records S rs next shut cursor at Evict) Evict j rs refl is
examines S rs next shut cursor c at (Tested i o) j is =
    none_examined (reply_from_records S rs next shut cursor at (Tested i o)) (Tested i o) j rs refl is
examines S rs next shut cursor c at (Reclaim on) j is =
    none_examined (reply_from_records S rs next shut cursor at (Reclaim on)) (Reclaim on) j rs refl is
examines S rs next shut cursor c at ReclaimNext j is =
    none_examined (reply_from_records S rs next shut cursor at ReclaimNext) ReclaimNext j rs refl is
examines S rs next shut cursor c at Clear j is = none_examined (reply_from_records S rs next shut cursor at Clear) Clear j rs refl is
examines S rs next shut cursor c at ClearNext j is = none_examined (reply_from_records S rs next shut cursor at ClearNext) ClearNext j rs refl is
examines S rs next shut cursor c at (Destroyed i) j is =
    none_examined (reply_from_records S rs next shut cursor at (Destroyed i)) (Destroyed i) j rs refl is
examines S rs next shut cursor c at Close j is = none_examined (reply_from_records S rs next shut cursor at Close) Close j rs refl is
