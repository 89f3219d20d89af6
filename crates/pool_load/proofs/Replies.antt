-- Only an object that was reported as ready is lent.
use Rattle.std.proofs.Common.{◌≡◌, ℕ, ◌||◌, Bool, true, false, if◌then◌else◌, List, length, Option, Some, None, refl}
use Rattle.std.specs.Prelude.{not, ◌-◌}
use Rattle.pool_journal.specs.Base.{empty_base, drawn_from, closed_from, records_from, cursor_from}
use Rattle.pool_journal.specs.Carrying.{is_good}
use Rattle.pool_journal.specs.Entries.{is_lent_answer}
use Rattle.pool_journal.specs.Queue.{idle_queue, first_of, queue_length, record_in}
use Rattle.pool_journal.specs.declared.record.Record.{Record}
use Rattle.pool_journal.specs.declared.record.Phase.{Phase}
use Rattle.pool_journal.specs.declared.record.Phase.TheVariants as phases
use Rattle.pool_journal.specs.declared.entry.Entry.{Entry}
use Rattle.pool_journal.specs.declared.input.Outcome.{Outcome}
use Rattle.pool_journal.specs.declared.input.Outcome.TheVariants as outcomes
use Rattle.pool_journal.specs.declared.input.Input.{Input}
use Rattle.pool_journal.specs.declared.input.Input.TheVariants.{Borrow, Ready, GiveBack, Park, Invalidate, Use, Add, Fill, Added, Evict, EvictNext, Tested, Reclaim, ReclaimNext, Clear, ClearNext, Destroyed, Close}
use Rattle.pool_journal.specs.declared.answer.Answer.{Answer}
use Rattle.pool_journal.specs.declared.answer.Answer.TheVariants as answers
use Rattle.pool_journal.specs.declared.answer.Cause.TheVariants as causes
use Rattle.pool_settings.specs.declared.settings.Settings.{Settings}
use Rattle.pool_core.specs.Reply.{reply, borrow_reply, exhausted_reply, has_reached, borrow_candidate, is_below, ready_reply, readying_reply, new_of, lent_reply, park_reply, returning_reply, has_room, added_reply, adding_reply, tested_reply, testing_reply, destroyed_reply, add_reply, has_min_idle, is_evictable, evict_next_reply, examined, reclaim_next_reply, clear_next_reply, abandoned_objects, phase_of, reply_from_records}

abbrev pub is_ready : Input → Bool
is_ready (Ready i o) = is_good o
is_ready _ = false

-- lends nothing
abbrev Idle : Answer → Type 0
Idle a = is_lent_answer a ≡ false

either : (b : Bool) (x y : Answer) → Idle x → Idle y → Idle (if b then x else y)
either true x y p q = p
either false x y p q = q

borrow_idle : (o : Option ℕ) (room : Bool) (next : ℕ) (full : Answer) → Idle full → Idle (borrow_reply o room next full)
borrow_idle (Some i) room next full it = refl
borrow_idle None true next full it = refl
borrow_idle None false next full it = it

readying_idle : (new : Bool) (o : Outcome) → is_good o ≡ false → Idle (readying_reply new o)
readying_idle new outcomes.Good other = absurd (cc other)
readying_idle new outcomes.PassivateFailed other = refl
readying_idle true outcomes.MakeFailed other = refl
readying_idle false outcomes.MakeFailed other = refl
readying_idle true outcomes.CreateTestFailed other = refl
readying_idle false outcomes.CreateTestFailed other = refl
readying_idle true _ other = refl
readying_idle false _ other = refl

ready_idle : (p : Phase) (new : Bool) (o : Outcome) → is_good o ≡ false → Idle (ready_reply p new o)
ready_idle phases.Readying new o other = readying_idle new o other
ready_idle _ new o other = refl

lent_idle : (abandoned : Bool) (p : Phase) (a : Answer) → Idle a → Idle (lent_reply abandoned p a)
lent_idle abandoned phases.Lent a it = it
lent_idle true phases.Absent a it = refl
lent_idle false phases.Absent a it = refl
lent_idle true phases.Gone a it = refl
lent_idle false phases.Gone a it = refl
lent_idle abandoned _ a it = refl

returning_idle : (o : Outcome) (room : Bool) → Idle (returning_reply o room)
returning_idle outcomes.Good room = either room answers.Parked answers.Destroy refl refl
returning_idle _ room = refl

park_idle : (p : Phase) (o : Outcome) (room : Bool) → Idle (park_reply p o room)
park_idle phases.Returning o room = returning_idle o room
park_idle _ o room = refl

adding_idle : (o : Outcome) (is_open : Bool) → Idle (adding_reply o is_open)
adding_idle outcomes.Good is_open = either is_open answers.Parked answers.Destroy refl refl
adding_idle _ is_open = refl

added_idle : (p : Phase) (o : Outcome) (is_open : Bool) → Idle (added_reply p o is_open)
added_idle phases.Adding o is_open = adding_idle o is_open
added_idle _ o is_open = refl

testing_idle : (o : Outcome) (is_open : Bool) → Idle (testing_reply o is_open)
testing_idle outcomes.Good is_open = either is_open answers.Kept answers.Destroy refl refl
testing_idle _ is_open = refl

tested_idle : (p : Phase) (o : Outcome) (is_open : Bool) → Idle (tested_reply p o is_open)
tested_idle phases.Testing o is_open = testing_idle o is_open
tested_idle _ o is_open = refl

destroyed_idle : (p : Phase) → Idle (destroyed_reply p)
destroyed_idle phases.Destroying = refl
destroyed_idle _ = refl

add_idle : (room : Bool) (next : ℕ) → Idle (add_reply room next)
add_idle room next = either room (answers.Make next) answers.NoPlace refl refl

evict_next_idle : (s : Settings) (q at : ℕ) (o : Option Record) → Idle (evict_next_reply s q at o)
evict_next_idle s q at None = refl
evict_next_idle s q at (Some r) = either (is_evictable s q at r) (answers.DestroyIdle r.id) (if s.test_while_idle then answers.Test r.id else answers.KeptIdle r.id) refl (either s.test_while_idle (answers.Test r.id) (answers.KeptIdle r.id) refl refl)

reclaim_next_idle : (b : Bool) (o : Option Record) → Idle (reclaim_next_reply b o)
reclaim_next_idle true (Some r) = refl
reclaim_next_idle true None = refl
reclaim_next_idle false o = refl

clear_next_idle : (o : Option Record) → Idle (clear_next_reply o)
clear_next_idle (Some r) = refl
clear_next_idle None = refl

-- an answer of the table lends only an object that was reported as ready
table_lends : (s : Settings) (rs : List Record) (next : ℕ) (shut : Bool) (cursor : Option ℕ) (at : ℕ) (input : Input) → is_ready input ≡ false
    → is_lent_answer (reply_from_records s rs next shut cursor at input) ≡ false
table_lends s rs next shut cursor at (Borrow began) other =
    either shut (answers.Refused causes.Closed) (borrow_reply (borrow_candidate s.lifo rs) (is_below s.max_total (length rs)) next (exhausted_reply s (at - began))) refl
    (borrow_idle (borrow_candidate s.lifo rs) (is_below s.max_total (length rs)) next (exhausted_reply s (at - began))
    (either s.block_when_exhausted (if has_reached s.max_wait_millis (at - began) then answers.TimedOut else answers.Wait) answers.Exhausted (either (has_reached s.max_wait_millis (at - began)) answers.TimedOut answers.Wait refl refl) refl))
table_lends s rs next shut cursor at (Ready i o) other = ready_idle (phase_of (record_in rs i)) (new_of (record_in rs i)) o other
table_lends s rs next shut cursor at (GiveBack i) other = lent_idle s.abandoned (phase_of (record_in rs i)) answers.Check refl
table_lends s rs next shut cursor at (Park i o) other = park_idle (phase_of (record_in rs i)) o (has_room s shut rs)
table_lends s rs next shut cursor at (Invalidate i) other = lent_idle s.abandoned (phase_of (record_in rs i)) answers.Destroy refl
table_lends s rs next shut cursor at (Use i) other = lent_idle s.abandoned (phase_of (record_in rs i)) answers.Noted refl
table_lends s rs next shut cursor at Add other = either shut (answers.Refused causes.Closed) (add_reply (is_below s.max_total (length rs)) next) refl (add_idle (is_below s.max_total (length rs)) next)
table_lends s rs next shut cursor at Fill other =
    either (shut || has_min_idle s rs) answers.Enough (add_reply (is_below s.max_total (length rs)) next) refl (add_idle (is_below s.max_total (length rs)) next)
table_lends s rs next shut cursor at (Added i o) other = added_idle (phase_of (record_in rs i)) o (not shut)
table_lends s rs next shut cursor at Evict other = either shut (answers.Refused causes.Closed) _ refl refl
table_lends s rs next shut cursor at EvictNext other = evict_next_idle s (queue_length rs) at (examined cursor rs)
table_lends s rs next shut cursor at (Tested i o) other = tested_idle (phase_of (record_in rs i)) o (not shut)
table_lends s rs next shut cursor at (Reclaim on) other = refl
table_lends s rs next shut cursor at ReclaimNext other = reclaim_next_idle s.abandoned (first_of (abandoned_objects s at rs))
table_lends s rs next shut cursor at Clear other = refl
table_lends s rs next shut cursor at ClearNext other = clear_next_idle (first_of (idle_queue rs))
table_lends s rs next shut cursor at (Destroyed i) other = destroyed_idle (phase_of (record_in rs i))
table_lends s rs next shut cursor at Close other = either shut answers.Nothing _ refl refl

-- an expected answer lends only an object that was reported as ready
pub lends_ready : (s : Settings) (at : ℕ) (J : List Entry) (input : Input) → is_ready input ≡ false → is_lent_answer (reply s J at input) ≡ false
lends_ready s at J input = table_lends s (records_from empty_base J) (drawn_from empty_base J) (closed_from empty_base J) (cursor_from empty_base J) at input
