-- Worked examples: each row states an input and its expected answer.
use Rattle.std.proofs.Common.{◌≡◌, ℕ, true, false, List, [], ◌∷◌, ◌++◌, map, refl}
use Rattle.std.specs.Prelude.{pos, negsuc}
use Rattle.pool_journal.specs.Latest.{last_some}
use Rattle.pool_journal.specs.Base.{empty_base, phase_from, parked_from, since_from, lent_from, used_from, is_new_from, drawn_from}
use Rattle.pool_journal.specs.Base.{present_from, records_from, closed_from, cursor_from, base_after}
use Rattle.pool_journal.specs.Queue.{sort_by}
use Rattle.pool_journal.specs.declared.base.Base.{Base}
use Rattle.pool_journal.specs.declared.entry.Entry.{Entry}
use Rattle.pool_journal.specs.declared.input.Input.{Input}
use Rattle.pool_journal.specs.declared.input.Input.TheVariants.{Borrow, Ready, GiveBack, Park, Invalidate, Use, Add, Fill, Added}
use Rattle.pool_journal.specs.declared.input.Input.TheVariants.{Evict, EvictNext, Tested, Reclaim, ReclaimNext}
use Rattle.pool_journal.specs.declared.input.Input.TheVariants.{Clear, ClearNext, Destroyed, Close}
use Rattle.pool_journal.specs.declared.input.When.TheVariants as times
use Rattle.pool_journal.specs.declared.input.Outcome.TheVariants.{Good, MakeFailed, ActivateFailed, PassivateFailed}
use Rattle.pool_journal.specs.declared.answer.Cause.TheVariants.{Closed, NotLent, NotHeld, BadOutcome}
use Rattle.pool_journal.specs.declared.answer.Answer.{Answer}
use Rattle.pool_journal.specs.declared.answer.Answer.TheVariants.{Take, Make, Wait, Exhausted, TimedOut, Lent, Check, Parked, Kept}
use Rattle.pool_journal.specs.declared.answer.Answer.TheVariants.{KeptIdle, Destroy, DestroyIdle, Test, Freed, Gone, Noted, Count}
use Rattle.pool_journal.specs.declared.answer.Answer.TheVariants.{Reclaimed, Nothing, Enough, NoPlace, Refused}
use Rattle.pool_settings.specs.Defaults.{defaults}
use Rattle.pool_settings.specs.declared.settings.Settings.{Settings}
use Rattle.pool_core.specs.Legal.{entry_of}
use Rattle.pool_core.specs.Reply.{reply_from}

-- an input at a time, and the answer
abbrev Row : Type 0
Row = ℕ × (Input × Answer)

abbrev row : ℕ → Input → Answer → Row
row at input answer = (at, (input, answer))

-- the expected answer of each row after the base, the entries J and the rows before it
abbrev due : Settings → Base → List Entry → List Row → List Answer
due S b J [] = []
due S b J ((at, (input, answer)) ∷ rows) = reply_from S b J at input ∷ due S b (J ++ entry_of 0 at input answer ∷ []) rows

-- each row states the expected answer
abbrev Plays : Settings → List Row → Type 0
Plays S rows = due S empty_base [] rows ≡ map (λ r. r.1.1) rows

-- the same for each row after a cut, which is made after the first rows
abbrev PlaysOn : Settings → List Row → List Row → Type 0
PlaysOn S before rows =
    due S (base_after empty_base (map (λ r. entry_of 0 r.0 r.1.0 r.1.1) before)) [] rows ≡ map (λ r. r.1.1) rows

-- an object is made, lent, returned and parked
abbrev plain_life : List Row
plain_life =
    row 10 (Borrow 10) (Make 0) ∷ row 11 (Ready 0 Good) Lent ∷ row 15 (GiveBack 0) Check ∷ row 16 (Park 0 Good) Parked ∷ []

-- two objects are made, and parked one after the other
abbrev two_objects : List Row
two_objects =
    row 0 (Borrow 0) (Make 0) ∷ row 0 (Borrow 0) (Make 1) ∷ row 1 (Ready 0 Good) Lent ∷ row 1 (Ready 1 Good) Lent
    ∷ row 2 (GiveBack 0) Check ∷ row 2 (Park 0 Good) Parked ∷ row 3 (GiveBack 1) Check ∷ row 3 (Park 1 Good) Parked ∷ []

-- five objects are made for the queue
abbrev five_added : List Row
five_added =
    row 0 Add (Make 0) ∷ row 0 (Added 0 Good) Parked ∷ row 0 Add (Make 1) ∷ row 0 (Added 1 Good) Parked ∷ row 0 Add (Make 2)
    ∷ row 0 (Added 2 Good) Parked ∷ row 0 Add (Make 3) ∷ row 0 (Added 3 Good) Parked ∷ row 0 Add (Make 4)
    ∷ row 0 (Added 4 Good) Parked ∷ []

-- an object is lent
abbrev one_lent : List Row
one_lent = row 0 (Borrow 0) (Make 0) ∷ row 0 (Ready 0 Good) Lent ∷ []

-- abandoned objects are removed after 100 milliseconds, by maintenance, or by maintenance and a borrow
abbrev on_maintenance : Settings
on_maintenance =
    record defaults { abandoned = true; remove_abandoned_on_maintenance = true; remove_abandoned_timeout_millis = pos 100 }

abbrev on_both : Settings
on_both = record on_maintenance { remove_abandoned_on_borrow = true }

-- an object is made, lent, returned and parked
parked_after_use : Plays defaults plain_life
unfolding last_some phase_from parked_from since_from lent_from used_from is_new_from drawn_from present_from records_from closed_from cursor_from sort_by
parked_after_use = refl

-- the object that was parked last is taken, or with the other setting the one that was parked first
last_in_first_out : Plays defaults (two_objects ++ row 4 (Borrow 4) (Take 1) ∷ [])
unfolding last_some phase_from parked_from since_from lent_from used_from is_new_from drawn_from present_from records_from closed_from cursor_from sort_by
last_in_first_out = refl

first_in_first_out : Plays (record defaults { lifo = false }) (two_objects ++ row 4 (Borrow 4) (Take 0) ∷ [])
unfolding last_some phase_from parked_from since_from lent_from used_from is_new_from drawn_from present_from records_from closed_from cursor_from sort_by
first_in_first_out = refl

-- if no place is free, a borrow waits, fails at once, or has waited long enough
waiting_without_limit : Plays (record defaults { max_total = pos 1 }) (row 0 (Borrow 0) (Make 0) ∷ row 5 (Borrow 5) Wait ∷ [])
unfolding last_some phase_from parked_from since_from lent_from used_from is_new_from drawn_from present_from records_from closed_from cursor_from sort_by
waiting_without_limit = refl

refused_at_once : Plays (record defaults { max_total = pos 1; block_when_exhausted = false })
    (row 0 (Borrow 0) (Make 0) ∷ row 5 (Borrow 5) Exhausted ∷ [])
unfolding last_some phase_from parked_from since_from lent_from used_from is_new_from drawn_from present_from records_from closed_from cursor_from sort_by
refused_at_once = refl

refused_after_no_time : Plays (record defaults { max_total = pos 1; max_wait_millis = pos 0 })
    (row 0 (Borrow 0) (Make 0) ∷ row 5 (Borrow 5) TimedOut ∷ row 3 (Borrow 5) TimedOut ∷ [])
unfolding last_some phase_from parked_from since_from lent_from used_from is_new_from drawn_from present_from records_from closed_from cursor_from sort_by
refused_after_no_time = refl

refused_after_ten : Plays (record defaults { max_total = pos 1; max_wait_millis = pos 10 })
    (row 0 (Borrow 0) (Make 0) ∷ row 14 (Borrow 5) Wait ∷ row 15 (Borrow 5) TimedOut ∷ row 3 (Borrow 5) Wait ∷ [])
unfolding last_some phase_from parked_from since_from lent_from used_from is_new_from drawn_from present_from records_from closed_from cursor_from sort_by
refused_after_ten = refl

-- a pool without places, and one without limit
no_place_at_all : Plays (record defaults { max_total = pos 0 }) (row 0 (Borrow 0) Wait ∷ [])
unfolding last_some phase_from parked_from since_from lent_from used_from is_new_from drawn_from present_from records_from closed_from cursor_from sort_by
no_place_at_all = refl

places_without_limit : Plays (record defaults { max_total = negsuc 0 })
    (row 0 (Borrow 0) (Make 0) ∷ row 0 (Borrow 0) (Make 1) ∷ row 0 (Borrow 0) (Make 2) ∷ row 0 (Borrow 0) (Make 3)
    ∷ row 0 (Borrow 0) (Make 4) ∷ row 0 (Borrow 0) (Make 5) ∷ row 0 (Borrow 0) (Make 6) ∷ row 0 (Borrow 0) (Make 7)
    ∷ row 0 (Borrow 0) (Make 8) ∷ row 0 (Borrow 0) (Make 9) ∷ [])
unfolding last_some phase_from parked_from since_from lent_from used_from is_new_from drawn_from present_from records_from closed_from cursor_from sort_by
places_without_limit = refl

-- a place is held until its object is destroyed
place_until_destroyed : Plays (record defaults { max_total = pos 1 })
    (row 0 (Borrow 0) (Make 0) ∷ row 1 (Ready 0 ActivateFailed) Destroy ∷ row 1 (Borrow 1) Wait ∷ row 2 (Destroyed 0) Freed
    ∷ row 3 (Borrow 1) (Make 1) ∷ [])
unfolding last_some phase_from parked_from since_from lent_from used_from is_new_from drawn_from present_from records_from closed_from cursor_from sort_by
place_until_destroyed = refl

-- an object that is not lent can't be returned
returned_twice : Plays defaults
    (row 10 (Borrow 10) (Make 0) ∷ row 11 (Ready 0 Good) Lent ∷ row 15 (GiveBack 0) Check
    ∷ row 15 (GiveBack 0) (Refused NotLent) ∷ row 15 (GiveBack 9) (Refused NotLent) ∷ [])
unfolding last_some phase_from parked_from since_from lent_from used_from is_new_from drawn_from present_from records_from closed_from cursor_from sort_by
returned_twice = refl

-- an object that was taken was not made, and only the one that was taken can be made ready
taken_objects_are_not_made : Plays defaults
    (plain_life ++ row 20 (Borrow 20) (Take 0) ∷ row 20 (Ready 0 MakeFailed) (Refused BadOutcome)
    ∷ row 20 (Ready 1 Good) (Refused NotHeld) ∷ row 20 (Ready 0 Good) Lent ∷ [])
unfolding last_some phase_from parked_from since_from lent_from used_from is_new_from drawn_from present_from records_from closed_from cursor_from sort_by
taken_objects_are_not_made = refl

-- an object that can't be activated is destroyed, and the other one is taken
failed_activation : Plays defaults
    (two_objects ++ row 4 (Borrow 4) (Take 1) ∷ row 4 (Ready 1 ActivateFailed) Destroy ∷ row 4 (Destroyed 1) Freed
    ∷ row 4 (Borrow 4) (Take 0) ∷ [])
unfolding last_some phase_from parked_from since_from lent_from used_from is_new_from drawn_from present_from records_from closed_from cursor_from sort_by
failed_activation = refl

-- with room for one in the queue the second is destroyed, with none both are, and without limit neither is
queue_of_one : Plays (record defaults { max_idle = pos 1 })
    (row 0 (Borrow 0) (Make 0) ∷ row 0 (Borrow 0) (Make 1) ∷ row 1 (Ready 0 Good) Lent ∷ row 1 (Ready 1 Good) Lent
    ∷ row 2 (GiveBack 0) Check ∷ row 2 (Park 0 Good) Parked ∷ row 3 (GiveBack 1) Check ∷ row 3 (Park 1 Good) Destroy ∷ [])
unfolding last_some phase_from parked_from since_from lent_from used_from is_new_from drawn_from present_from records_from closed_from cursor_from sort_by
queue_of_one = refl

queue_of_none : Plays (record defaults { max_idle = pos 0 })
    (row 0 (Borrow 0) (Make 0) ∷ row 0 (Borrow 0) (Make 1) ∷ row 1 (Ready 0 Good) Lent ∷ row 1 (Ready 1 Good) Lent
    ∷ row 2 (GiveBack 0) Check ∷ row 2 (Park 0 Good) Destroy ∷ row 3 (GiveBack 1) Check ∷ row 3 (Park 1 Good) Destroy ∷ [])
unfolding last_some phase_from parked_from since_from lent_from used_from is_new_from drawn_from present_from records_from closed_from cursor_from sort_by
queue_of_none = refl

queue_without_limit : Plays (record defaults { max_idle = negsuc 0 })
    (row 0 (Borrow 0) (Make 0) ∷ row 0 (Borrow 0) (Make 1) ∷ row 1 (Ready 0 Good) Lent ∷ row 1 (Ready 1 Good) Lent
    ∷ row 2 (GiveBack 0) Check ∷ row 2 (Park 0 Good) Parked ∷ row 3 (GiveBack 1) Check ∷ row 3 (Park 1 Good) Parked ∷ [])
unfolding last_some phase_from parked_from since_from lent_from used_from is_new_from drawn_from present_from records_from closed_from cursor_from sort_by
queue_without_limit = refl

-- an invalidated object is destroyed, once
invalidated : Plays defaults
    (row 10 (Borrow 10) (Make 0) ∷ row 11 (Ready 0 Good) Lent ∷ row 12 (Invalidate 0) Destroy
    ∷ row 12 (Invalidate 0) (Refused NotLent) ∷ row 12 (Destroyed 0) Freed ∷ row 12 (Destroyed 0) (Refused NotHeld) ∷ [])
unfolding last_some phase_from parked_from since_from lent_from used_from is_new_from drawn_from present_from records_from closed_from cursor_from sort_by
invalidated = refl

-- idle objects are destroyed in the order in which they were parked
cleared : Plays defaults
    (two_objects ++ row 5 Clear (Count 2) ∷ row 5 ClearNext (DestroyIdle 0) ∷ row 5 (Destroyed 0) Freed
    ∷ row 6 ClearNext (DestroyIdle 1) ∷ row 6 ClearNext Nothing ∷ row 6 (Destroyed 1) Freed ∷ [])
unfolding last_some phase_from parked_from since_from lent_from used_from is_new_from drawn_from present_from records_from closed_from cursor_from sort_by
cleared = refl

-- a closed pool makes and parks nothing more; a lent object is destroyed after its return
closed_in_the_middle : Plays defaults
    (row 0 (Borrow 0) (Make 0) ∷ row 0 (Ready 0 Good) Lent ∷ row 0 (Borrow 0) (Make 1) ∷ row 1 (GiveBack 0) Check
    ∷ row 2 Close (Count 0) ∷ row 3 (Park 0 Good) Destroy ∷ row 3 (Destroyed 0) Freed ∷ row 3 (Ready 1 Good) Lent
    ∷ row 4 Close Nothing ∷ row 4 (Borrow 4) (Refused Closed) ∷ row 4 Add (Refused Closed) ∷ row 4 Evict (Refused Closed)
    ∷ row 4 Fill Enough ∷ row 5 (GiveBack 1) Check ∷ row 5 (Park 1 Good) Destroy ∷ [])
unfolding last_some phase_from parked_from since_from lent_from used_from is_new_from drawn_from present_from records_from closed_from cursor_from sort_by
closed_in_the_middle = refl

-- an object that was under an idle test when the pool closed is destroyed
closed_under_test : Plays (record defaults { test_while_idle = true })
    (plain_life ++ row 20 EvictNext (Test 0) ∷ row 21 Close (Count 0) ∷ row 22 (Tested 0 Good) Destroy ∷ [])
unfolding last_some phase_from parked_from since_from lent_from used_from is_new_from drawn_from present_from records_from closed_from cursor_from sort_by
closed_under_test = refl

-- the same for one that was being made for the queue
closed_while_adding : Plays defaults
    (row 0 Add (Make 0) ∷ row 1 Close (Count 0) ∷ row 2 (Added 0 Good) Destroy ∷ row 2 (Destroyed 0) Freed ∷ [])
unfolding last_some phase_from parked_from since_from lent_from used_from is_new_from drawn_from present_from records_from closed_from cursor_from sort_by
closed_while_adding = refl

-- the queue is filled up to the least number of idle objects, counting those on their way
filled : Plays (record defaults { min_idle = pos 2 })
    (row 0 Fill (Make 0) ∷ row 0 Fill (Make 1) ∷ row 0 Fill Enough ∷ row 0 (Added 0 Good) Parked
    ∷ row 0 (Added 1 MakeFailed) Freed ∷ row 1 Fill (Make 2) ∷ [])
unfolding last_some phase_from parked_from since_from lent_from used_from is_new_from drawn_from present_from records_from closed_from cursor_from sort_by
filled = refl

-- an object that is made for the queue takes a place, and can't fail like one that is made to be lent
added_with_one_place : Plays (record defaults { max_total = pos 1 })
    (row 0 Add (Make 0) ∷ row 0 Add NoPlace ∷ row 0 (Added 0 ActivateFailed) (Refused BadOutcome)
    ∷ row 0 (Added 0 PassivateFailed) Destroy ∷ row 0 (Destroyed 0) Freed ∷ row 0 Evict (Count 0) ∷ row 0 EvictNext Nothing
    ∷ [])
unfolding last_some phase_from parked_from since_from lent_from used_from is_new_from drawn_from present_from records_from closed_from cursor_from sort_by
added_with_one_place = refl

-- an object is evicted once it was idle longer than the limit; 0 is no limit
evicted_after_a_second : Plays (record defaults { min_evictable_idle_millis = pos 1000 })
    (plain_life ++ row 1016 EvictNext (KeptIdle 0) ∷ row 1017 EvictNext (DestroyIdle 0) ∷ [])
unfolding last_some phase_from parked_from since_from lent_from used_from is_new_from drawn_from present_from records_from closed_from cursor_from sort_by
evicted_after_a_second = refl

never_evicted : Plays (record defaults { min_evictable_idle_millis = pos 0 })
    (plain_life ++ row 1000000 EvictNext (KeptIdle 0) ∷ [])
unfolding last_some phase_from parked_from since_from lent_from used_from is_new_from drawn_from present_from records_from closed_from cursor_from sort_by
never_evicted = refl

-- the soft limit leaves the least number of idle objects
least_number_kept : Plays (record defaults { soft_min_evictable_idle_millis = pos 10; min_idle = pos 1 })
    (plain_life ++ row 100 EvictNext (KeptIdle 0) ∷ [])
unfolding last_some phase_from parked_from since_from lent_from used_from is_new_from drawn_from present_from records_from closed_from cursor_from sort_by
least_number_kept = refl

evicted_beyond_the_least_number : Plays (record defaults { soft_min_evictable_idle_millis = pos 10; min_idle = pos 1 })
    (two_objects ++ row 100 EvictNext (DestroyIdle 0) ∷ row 100 EvictNext (KeptIdle 1) ∷ [])
unfolding last_some phase_from parked_from since_from lent_from used_from is_new_from drawn_from present_from records_from closed_from cursor_from sort_by
evicted_beyond_the_least_number = refl

-- a time before the parking counts as no idle time
parked_in_the_future : Plays (record defaults { min_evictable_idle_millis = pos 1 })
    (plain_life ++ row 5 EvictNext (KeptIdle 0) ∷ [])
unfolding last_some phase_from parked_from since_from lent_from used_from is_new_from drawn_from present_from records_from closed_from cursor_from sort_by
parked_in_the_future = refl

-- a run makes a given number of tests, at most one per object, or a part of the queue, rounded up
three_tests : Plays defaults (five_added ++ row 1 Evict (Count 3) ∷ [])
unfolding last_some phase_from parked_from since_from lent_from used_from is_new_from drawn_from present_from records_from closed_from cursor_from sort_by
three_tests = refl

no_more_tests_than_objects : Plays (record defaults { num_tests_per_eviction_run = pos 9 })
    (five_added ++ row 1 Evict (Count 5) ∷ [])
unfolding last_some phase_from parked_from since_from lent_from used_from is_new_from drawn_from present_from records_from closed_from cursor_from sort_by
no_more_tests_than_objects = refl

half_of_the_queue_rounded_up : Plays (record defaults { num_tests_per_eviction_run = negsuc 1 })
    (five_added ++ row 1 Evict (Count 3) ∷ [])
unfolding last_some phase_from parked_from since_from lent_from used_from is_new_from drawn_from present_from records_from closed_from cursor_from sort_by
half_of_the_queue_rounded_up = refl

no_tests : Plays (record defaults { num_tests_per_eviction_run = pos 0 }) (five_added ++ row 1 Evict (Count 0) ∷ [])
unfolding last_some phase_from parked_from since_from lent_from used_from is_new_from drawn_from present_from records_from closed_from cursor_from sort_by
no_tests = refl

least_part_rounded_up : Plays (record defaults { num_tests_per_eviction_run = negsuc 2147483647 })
    (five_added ++ row 1 Evict (Count 1) ∷ [])
unfolding last_some phase_from parked_from since_from lent_from used_from is_new_from drawn_from present_from records_from closed_from cursor_from sort_by
least_part_rounded_up = refl

-- a run continues after the object that the last one examined, and starts again at the end
run_goes_on : Plays defaults
    (five_added ++ row 1 EvictNext (KeptIdle 0) ∷ row 1 EvictNext (KeptIdle 1) ∷ row 1 EvictNext (KeptIdle 2)
    ∷ row 1 EvictNext (KeptIdle 3) ∷ row 1 EvictNext (KeptIdle 4) ∷ row 1 EvictNext (KeptIdle 0) ∷ [])
unfolding last_some phase_from parked_from since_from lent_from used_from is_new_from drawn_from present_from records_from closed_from cursor_from sort_by
run_goes_on = refl

-- an object under an idle test is not taken, and keeps its position in the queue
tested_objects_keep_their_place : Plays (record defaults { lifo = false; test_while_idle = true })
    (two_objects ++ row 4 EvictNext (Test 0) ∷ row 5 (Borrow 5) (Take 1) ∷ row 5 Add (Make 2) ∷ row 5 (Added 2 Good) Parked
    ∷ row 6 (Tested 0 Good) Kept ∷ row 7 (Borrow 7) (Take 0) ∷ [])
unfolding last_some phase_from parked_from since_from lent_from used_from is_new_from drawn_from present_from records_from closed_from cursor_from sort_by
tested_objects_keep_their_place = refl

-- a lent object that was not used for the timeout is reclaimed by maintenance, and is gone when it is returned
reclaimed : Plays on_maintenance
    (one_lent ++ row 99 (Reclaim times.Maintain) (Count 0) ∷ row 99 ReclaimNext Nothing
    ∷ row 100 (Reclaim times.Maintain) (Count 1) ∷ row 100 ReclaimNext (Reclaimed 0) ∷ row 101 (GiveBack 0) Gone ∷ [])
unfolding last_some phase_from parked_from since_from lent_from used_from is_new_from drawn_from present_from records_from closed_from cursor_from sort_by
reclaimed = refl

used_in_time : Plays on_maintenance
    (one_lent ++ row 50 (Use 0) Noted ∷ row 149 ReclaimNext Nothing ∷ row 150 ReclaimNext (Reclaimed 0) ∷ [])
unfolding last_some phase_from parked_from since_from lent_from used_from is_new_from drawn_from present_from records_from closed_from cursor_from sort_by
used_in_time = refl

returned_in_time : Plays on_maintenance (one_lent ++ row 60 (GiveBack 0) Check ∷ row 500 ReclaimNext Nothing ∷ [])
unfolding last_some phase_from parked_from since_from lent_from used_from is_new_from drawn_from present_from records_from closed_from cursor_from sort_by
returned_in_time = refl

-- a removal on borrow takes objects from an open pool that is nearly full
places_left : Plays on_both (one_lent ++ row 100 (Reclaim times.Borrow) (Count 0) ∷ [])
unfolding last_some phase_from parked_from since_from lent_from used_from is_new_from drawn_from present_from records_from closed_from cursor_from sort_by
places_left = refl

reclaimed_on_borrow : Plays (record on_both { max_total = pos 1 }) (one_lent ++ row 100 (Reclaim times.Borrow) (Count 1) ∷ [])
unfolding last_some phase_from parked_from since_from lent_from used_from is_new_from drawn_from present_from records_from closed_from cursor_from sort_by
reclaimed_on_borrow = refl

closed_before_the_removal : Plays (record on_both { max_total = pos 1 })
    (one_lent ++ row 99 Close (Count 0) ∷ row 100 (Reclaim times.Borrow) (Count 0) ∷ [])
unfolding last_some phase_from parked_from since_from lent_from used_from is_new_from drawn_from present_from records_from closed_from cursor_from sort_by
closed_before_the_removal = refl

-- the default timeout is five minutes, and neither removal is on by default
reclaimed_by_default : Plays (record defaults { abandoned = true })
    (row 10 (Borrow 10) (Make 0) ∷ row 11 (Ready 0 Good) Lent ∷ row 300010 ReclaimNext Nothing
    ∷ row 300011 (Reclaim times.Maintain) (Count 0) ∷ row 300011 ReclaimNext (Reclaimed 0) ∷ [])
unfolding last_some phase_from parked_from since_from lent_from used_from is_new_from drawn_from present_from records_from closed_from cursor_from sort_by
reclaimed_by_default = refl

-- if abandoned objects are not removed, none is
nothing_abandoned : Plays defaults (one_lent ++ row 500 ReclaimNext Nothing ∷ row 501 (GiveBack 7) (Refused NotLent) ∷ [])
unfolding last_some phase_from parked_from since_from lent_from used_from is_new_from drawn_from present_from records_from closed_from cursor_from sort_by
nothing_abandoned = refl

-- an object that is not present may have been reclaimed; one that is idle was not
gone : Plays (record defaults { abandoned = true })
    (plain_life ++ row 20 (GiveBack 0) (Refused NotLent) ∷ row 20 (GiveBack 9) Gone ∷ row 20 (Use 9) Gone
    ∷ row 20 (Invalidate 9) Gone ∷ [])
unfolding last_some phase_from parked_from since_from lent_from used_from is_new_from drawn_from present_from records_from closed_from cursor_from sort_by
gone = refl

-- an object passes through its whole life
way_to_the_end : Plays (record defaults { journal_limit = 7 })
    (row 0 (Borrow 0) (Make 0) ∷ row 0 (Ready 0 Good) Lent ∷ row 0 (GiveBack 0) Check ∷ row 0 (Park 0 Good) Parked
    ∷ row 1 Close (Count 1) ∷ row 1 ClearNext (DestroyIdle 0) ∷ row 1 (Destroyed 0) Freed ∷ [])
unfolding last_some phase_from parked_from since_from lent_from used_from is_new_from drawn_from present_from records_from closed_from cursor_from sort_by
way_to_the_end = refl

-- ---- after a cut

-- three objects are made for the queue, and the first of them is examined
abbrev one_examined : List Row
one_examined =
    row 0 Add (Make 0) ∷ row 0 (Added 0 Good) Parked ∷ row 0 Add (Make 1) ∷ row 0 (Added 1 Good) Parked ∷ row 0 Add (Make 2)
    ∷ row 0 (Added 2 Good) Parked ∷ row 1 EvictNext (KeptIdle 0) ∷ []

-- the object is taken again, and ids do not start from 0 again
taken_behind : PlaysOn defaults plain_life (row 20 (Borrow 20) (Take 0) ∷ row 21 Add (Make 1) ∷ [])
unfolding last_some phase_from parked_from since_from lent_from used_from is_new_from drawn_from present_from records_from closed_from cursor_from sort_by
taken_behind = refl

-- the eviction run continues after the object that was examined before the cut
examined_behind : PlaysOn defaults one_examined (row 1 EvictNext (KeptIdle 1) ∷ row 1 EvictNext (KeptIdle 2) ∷ row 1 EvictNext (KeptIdle 0) ∷ [])
unfolding last_some phase_from parked_from since_from lent_from used_from is_new_from drawn_from present_from records_from closed_from cursor_from sort_by
examined_behind = refl

-- the pool stays closed
closed_behind : PlaysOn defaults (plain_life ++ row 20 Close (Count 1) ∷ []) (row 21 (Borrow 21) (Refused Closed) ∷ row 21 ClearNext (DestroyIdle 0) ∷ [])
unfolding last_some phase_from parked_from since_from lent_from used_from is_new_from drawn_from present_from records_from closed_from cursor_from sort_by
closed_behind = refl

-- whether an object is new is known after the cut
new_behind : PlaysOn defaults (row 10 (Borrow 10) (Make 0) ∷ []) (row 11 (Ready 0 MakeFailed) Freed ∷ [])
unfolding last_some phase_from parked_from since_from lent_from used_from is_new_from drawn_from present_from records_from closed_from cursor_from sort_by
new_behind = refl

taken_not_new : PlaysOn defaults (plain_life ++ row 20 (Borrow 20) (Take 0) ∷ []) (row 21 (Ready 0 MakeFailed) (Refused BadOutcome) ∷ [])
unfolding last_some phase_from parked_from since_from lent_from used_from is_new_from drawn_from present_from records_from closed_from cursor_from sort_by
taken_not_new = refl
