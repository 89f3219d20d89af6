-- The expected answer to an input: the rows of the table of answers, and the answer after a base and entries, or after a
-- journal.
use Rattle.std.specs.Prelude.{ℕ, ◌+◌, ◌-◌, Bool, true, false, not, ◌&&◌, ◌||◌, if◌then◌else◌, nat_lt, nat_le, min}
use Rattle.std.specs.Prelude.{List, [], length, filter, count_by, Option, Some, None, ℤ, pos, negsuc, int_le, int_lt}
use Rattle.std.specs.Int.{div_ceil}
use Rattle.std.specs.Option.{option_map, option_or}
use Rattle.pool_journal.specs.declared.base.Base.{Base}
use Rattle.pool_journal.specs.declared.entry.Entry.{Entry}
use Rattle.pool_journal.specs.declared.record.Record.{Record}
use Rattle.pool_journal.specs.declared.input.Input.{Input}
use Rattle.pool_journal.specs.declared.input.Input.TheVariants.{Borrow, Ready, GiveBack, Park, Invalidate, Use, Add, Fill, Added}
use Rattle.pool_journal.specs.declared.input.Input.TheVariants.{Evict, EvictNext, Tested, Reclaim, ReclaimNext, Clear, ClearNext}
use Rattle.pool_journal.specs.declared.input.Input.TheVariants.{Destroyed, Close}
use Rattle.pool_journal.specs.declared.input.Outcome.{Outcome}
use Rattle.pool_journal.specs.declared.input.Outcome.TheVariants as outcomes
use Rattle.pool_journal.specs.declared.input.When.{When}
use Rattle.pool_journal.specs.declared.input.When.TheVariants as times
use Rattle.pool_journal.specs.declared.answer.Answer.{Answer}
use Rattle.pool_journal.specs.declared.answer.Answer.TheVariants as answers
use Rattle.pool_journal.specs.declared.answer.Cause.TheVariants as causes
use Rattle.pool_journal.specs.declared.record.Phase.{Phase}
use Rattle.pool_journal.specs.declared.record.Phase.TheVariants as phases
use Rattle.pool_journal.specs.Base.{empty_base, records_from, drawn_from, closed_from, cursor_from}
use Rattle.pool_journal.specs.Queue.{is_idle, idle_queue, first_of, last_of, queue_length, record_in}
use Rattle.pool_places.specs.After.{is_after}
use Rattle.pool_places.specs.Counts.{is_adding}
use Rattle.pool_places.specs.Overdue.{overdue}
use Rattle.pool_settings.specs.EffectiveMinIdle.{effective_min_idle}
use Rattle.pool_settings.specs.declared.settings.Settings.{Settings}

-- fewer than a limit; a negative limit is no limit
abbrev pub is_below : ℤ → ℕ → Bool
is_below (pos limit) n = nat_lt n limit
is_below (negsuc _) n = true

-- at least a limit; a negative limit is no limit
abbrev pub has_reached : ℤ → ℕ → Bool
has_reached (pos limit) t = nat_le limit t
has_reached (negsuc _) t = false

-- longer than a limit; a limit that isn't positive is no limit
abbrev pub is_past : ℤ → ℕ → Bool
is_past (pos limit) t = nat_lt 0 limit && nat_lt limit t
is_past (negsuc _) t = false

-- more than a limit less 3; always, if the limit is negative
abbrev pub is_nearly_full : ℤ → ℕ → Bool
is_nearly_full (pos limit) n = nat_lt limit (n + 3)
is_nearly_full (negsuc _) n = true

-- the number of tests that an eviction run makes on a queue of length q: n, but at most q; for a negative n, q divided by its
-- absolute value, rounded up
abbrev pub tests_per_run : ℤ → ℕ → ℕ
tests_per_run (pos n) q = min n q
tests_per_run (negsuc n) q = div_ceil q (n + 1)

-- the object that a borrow takes: the one that was parked last, or first
abbrev pub borrow_candidate : Bool → List Record → Option ℕ
borrow_candidate lifo rs = option_map (λ r. r.id) (if lifo then last_of (idle_queue rs) else first_of (idle_queue rs))

-- the object that is examined next: the first idle one that was parked after the cursor, otherwise the first idle one
abbrev pub examined : Option ℕ → List Record → Option Record
examined cursor rs = option_or (first_of (filter (is_after cursor) (idle_queue rs))) (first_of (idle_queue rs))

-- an idle object in a queue of length q is evicted: it was idle longer than the limit, or longer than the soft limit while the
-- queue exceeds the number to keep
abbrev pub is_evictable : Settings → ℕ → ℕ → Record → Bool
is_evictable S q at r =
    is_past S.min_evictable_idle_millis (at - r.since)
    || (is_past S.soft_min_evictable_idle_millis (at - r.since) && int_lt (effective_min_idle S) (pos q))

-- the lent objects that were not used for the timeout, in ascending order of id; none if the timeout is negative
abbrev pub forgotten_for : ℤ → ℕ → List Record → List Record
forgotten_for (pos timeout) at rs = overdue at timeout rs
forgotten_for (negsuc _) at rs = []

abbrev pub abandoned_objects : Settings → ℕ → List Record → List Record
abandoned_objects S at rs = forgotten_for S.remove_abandoned_timeout_millis at rs

-- fewer than two objects are in the queue, and the others number more than `max_total` less 3
abbrev pub is_scarce : Settings → List Record → Bool
is_scarce S rs = nat_lt (queue_length rs) 2 && is_nearly_full S.max_total (length rs - queue_length rs)

-- a removal reclaims objects; on a borrow only from an open pool in which idle objects and places are scarce
abbrev pub reclaims : Settings → Bool → List Record → When → Bool
reclaims S shut rs times.Maintain = S.abandoned && S.remove_abandoned_on_maintenance
reclaims S shut rs times.Borrow = S.abandoned && S.remove_abandoned_on_borrow && not shut && is_scarce S rs

-- the objects in the queue, or on their way to it, are at least the number to keep
abbrev pub has_min_idle : Settings → List Record → Bool
has_min_idle S rs = int_le (effective_min_idle S) (pos (queue_length rs + count_by (λ r. is_adding r.phase) rs))

-- the queue of an open pool takes one more object
abbrev pub has_room : Settings → Bool → List Record → Bool
has_room S shut rs = not shut && is_below S.max_idle (queue_length rs)

-- no object can be made: a borrow waits until its time is up, or fails at once
abbrev pub exhausted_reply : Settings → ℕ → Answer
exhausted_reply S waited =
    if S.block_when_exhausted then (if has_reached S.max_wait_millis waited then answers.TimedOut else answers.Wait)
    else answers.Exhausted

-- a borrow of an open pool
abbrev pub borrow_reply : Option ℕ → Bool → ℕ → Answer → Answer
borrow_reply (Some i) room next full = answers.Take i
borrow_reply None true next full = answers.Make next
borrow_reply None false next full = full

-- the outcome of making an object ready; one that was taken from the queue was not made
abbrev pub readying_reply : Bool → Outcome → Answer
readying_reply new outcomes.PassivateFailed = answers.Refused causes.BadOutcome
readying_reply false outcomes.MakeFailed = answers.Refused causes.BadOutcome
readying_reply false outcomes.CreateTestFailed = answers.Refused causes.BadOutcome
readying_reply new outcomes.Good = answers.Lent
readying_reply new outcomes.MakeFailed = answers.Freed
readying_reply new _ = answers.Destroy

abbrev pub ready_reply : Phase → Bool → Outcome → Answer
ready_reply phases.Readying new o = readying_reply new o
ready_reply _ new o = answers.Refused causes.NotHeld

-- a call for a lent object; one that isn't present may have been reclaimed, if abandoned objects are removed
abbrev pub lent_reply : Bool → Phase → Answer → Answer
lent_reply abandoned phases.Lent a = a
lent_reply true phases.Absent a = answers.Gone
lent_reply true phases.Gone a = answers.Gone
lent_reply abandoned _ a = answers.Refused causes.NotLent

-- the outcome of checking a returned object
abbrev pub returning_reply : Outcome → Bool → Answer
returning_reply outcomes.Good room = if room then answers.Parked else answers.Destroy
returning_reply outcomes.TestFailed room = answers.Destroy
returning_reply outcomes.PassivateFailed room = answers.Destroy
returning_reply _ room = answers.Refused causes.BadOutcome

abbrev pub park_reply : Phase → Outcome → Bool → Answer
park_reply phases.Returning o room = returning_reply o room
park_reply _ o room = answers.Refused causes.NotHeld

-- the outcome of making an object for the queue
abbrev pub adding_reply : Outcome → Bool → Answer
adding_reply outcomes.ActivateFailed is_open = answers.Refused causes.BadOutcome
adding_reply outcomes.TestFailed is_open = answers.Refused causes.BadOutcome
adding_reply outcomes.Good is_open = if is_open then answers.Parked else answers.Destroy
adding_reply outcomes.MakeFailed is_open = answers.Freed
adding_reply _ is_open = answers.Destroy

abbrev pub added_reply : Phase → Outcome → Bool → Answer
added_reply phases.Adding o is_open = adding_reply o is_open
added_reply _ o is_open = answers.Refused causes.NotHeld

-- the outcome of testing an idle object
abbrev pub testing_reply : Outcome → Bool → Answer
testing_reply outcomes.MakeFailed is_open = answers.Refused causes.BadOutcome
testing_reply outcomes.CreateTestFailed is_open = answers.Refused causes.BadOutcome
testing_reply outcomes.Good is_open = if is_open then answers.Kept else answers.Destroy
testing_reply _ is_open = answers.Destroy

abbrev pub tested_reply : Phase → Outcome → Bool → Answer
tested_reply phases.Testing o is_open = testing_reply o is_open
tested_reply _ o is_open = answers.Refused causes.NotHeld

-- an object was destroyed
abbrev pub destroyed_reply : Phase → Answer
destroyed_reply phases.Destroying = answers.Freed
destroyed_reply _ = answers.Refused causes.NotHeld

-- an object is made for the queue, if there is a place
abbrev pub add_reply : Bool → ℕ → Answer
add_reply room next = if room then answers.Make next else answers.NoPlace

-- an idle object is examined, if there is one
abbrev pub evict_next_reply : Settings → ℕ → ℕ → Option Record → Answer
evict_next_reply S q at None = answers.Nothing
evict_next_reply S q at (Some r) =
    if is_evictable S q at r then answers.DestroyIdle r.id
    else (if S.test_while_idle then answers.Test r.id else answers.KeptIdle r.id)

-- an object is reclaimed, if abandoned ones are removed and there is one
abbrev pub reclaim_next_reply : Bool → Option Record → Answer
reclaim_next_reply true (Some r) = answers.Reclaimed r.id
reclaim_next_reply _ _ = answers.Nothing

-- an idle object is destroyed, if there is one
abbrev pub clear_next_reply : Option Record → Answer
clear_next_reply (Some r) = answers.DestroyIdle r.id
clear_next_reply None = answers.Nothing

-- the phase of an object that may not be present
abbrev pub phase_of : Option Record → Phase
phase_of None = phases.Absent
phase_of (Some r) = r.phase

-- whether it is new
abbrev pub new_of : Option Record → Bool
new_of None = false
new_of (Some r) = r.is_new

-- the table of answers: the expected answer in a state, which is the records of the present objects, the next id, whether the
-- pool is closed, and the cursor
abbrev pub reply_from_records : Settings → List Record → ℕ → Bool → Option ℕ → ℕ → Input → Answer
reply_from_records S rs next shut cursor at (Borrow began) =
    if shut then answers.Refused causes.Closed
    else borrow_reply (borrow_candidate S.lifo rs) (is_below S.max_total (length rs)) next (exhausted_reply S (at - began))
reply_from_records S rs next shut cursor at (Ready i o) = ready_reply (phase_of (record_in rs i)) (new_of (record_in rs i)) o
reply_from_records S rs next shut cursor at (GiveBack i) = lent_reply S.abandoned (phase_of (record_in rs i)) answers.Check
reply_from_records S rs next shut cursor at (Park i o) = park_reply (phase_of (record_in rs i)) o (has_room S shut rs)
reply_from_records S rs next shut cursor at (Invalidate i) = lent_reply S.abandoned (phase_of (record_in rs i)) answers.Destroy
reply_from_records S rs next shut cursor at (Use i) = lent_reply S.abandoned (phase_of (record_in rs i)) answers.Noted
reply_from_records S rs next shut cursor at Add =
    if shut then answers.Refused causes.Closed else add_reply (is_below S.max_total (length rs)) next
reply_from_records S rs next shut cursor at Fill =
    if shut || has_min_idle S rs then answers.Enough else add_reply (is_below S.max_total (length rs)) next
reply_from_records S rs next shut cursor at (Added i o) = added_reply (phase_of (record_in rs i)) o (not shut)
reply_from_records S rs next shut cursor at Evict =
    if shut then answers.Refused causes.Closed else answers.Count (tests_per_run S.num_tests_per_eviction_run (queue_length rs))
reply_from_records S rs next shut cursor at EvictNext = evict_next_reply S (queue_length rs) at (examined cursor rs)
reply_from_records S rs next shut cursor at (Tested i o) = tested_reply (phase_of (record_in rs i)) o (not shut)
reply_from_records S rs next shut cursor at (Reclaim on) = answers.Count (if reclaims S shut rs on then length (abandoned_objects S at rs) else 0)
reply_from_records S rs next shut cursor at ReclaimNext = reclaim_next_reply S.abandoned (first_of (abandoned_objects S at rs))
reply_from_records S rs next shut cursor at Clear = answers.Count (length (idle_queue rs))
reply_from_records S rs next shut cursor at ClearNext = clear_next_reply (first_of (idle_queue rs))
reply_from_records S rs next shut cursor at (Destroyed i) = destroyed_reply (phase_of (record_in rs i))
reply_from_records S rs next shut cursor at Close = if shut then answers.Nothing else answers.Count (length (idle_queue rs))

-- the expected answer after the entries J, which continue the base b: the table's, in the state after them
abbrev pub reply_from : Settings → Base → List Entry → ℕ → Input → Answer
reply_from S b J at input = reply_from_records S (records_from b J) (drawn_from b J) (closed_from b J) (cursor_from b J) at input

-- the expected answer after a whole journal
abbrev pub reply : Settings → List Entry → ℕ → Input → Answer
reply S J at input = reply_from S empty_base J at input

-- the number of objects that a borrow may take, after a base and entries: those that are idle, and not under a test
abbrev pub takeable_from : Base → List Entry → ℕ
takeable_from b J = count_by (λ r. is_idle r.phase) (records_from b J)
