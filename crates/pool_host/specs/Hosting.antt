-- The pool that a host drives, and the steps of its calls.
use Rattle.std.specs.Prelude.{◌≡◌, ℕ, zero, suc, ◌+◌, ◌-◌, ◌^◌, ◌&&◌, ◌||◌, not, nat_lt, nat_le, min, if◌then◌else◌, Bool, true, false, List, [], ◌∷◌, ◌++◌, map, Option, Some, None, unwrap_or, option_and_then, length, Result, Ok, Err, ℤ, pos, negsuc, ◌⊎◌}
use Rattle.std.specs.Option.{is_some}
use Rattle.pool_journal.specs.declared.answer.Answer.{Answer}
use Rattle.pool_journal.specs.declared.answer.Answer.TheVariants as answers
use Rattle.pool_journal.specs.declared.input.Input.{Input}
use Rattle.pool_journal.specs.declared.input.Input.TheVariants as inputs
use Rattle.pool_journal.specs.declared.entry.Entry.{Entry}
use Rattle.pool_journal.specs.Base.{base_after, empty_base, closed_from}
use Rattle.pool_journal.specs.Carrying.{carries}
use Rattle.pool_settings.specs.declared.settings.Settings.{Settings}
use Rattle.pool_stats.specs.Counts.{counts_from}
use Rattle.pool_stats.specs.declared.counts.Counts.{Counts}
use Rattle.pool_core.specs.Core.{Answered}
use Rattle.pool_core.specs.declared.step_fault.StepFault.{StepFault}
use Rattle.pool_core.specs.declared.step_fault.StepFault.TheVariants as faults
use Rattle.pool_core.specs.Legal.{entry_of}
use Rattle.pool_core.specs.Pool.{CoreModel}
use Rattle.pool_core.specs.Reconfigured.{reconfigured}
use Rattle.pool_core.specs.Reply.{reply_from, takeable_from}
use Rattle.pool_calls.specs.Operations.{HasCome, Follows, IsRight, Proceeds, began_of, fits, is_making, is_over, is_waiting, lacks_room, step_at}
use Rattle.pool_calls.specs.Turns.{Turn, asks_room, is_done, step_of}
use Rattle.pool_calls.specs.Waiting.{Queue, Waiter, counts_overtake, is_in, is_limited, may_lend, overtaken_once, signalled_of}
use Rattle.pool_calls.specs.declared.action.Action.{Action}
use Rattle.pool_calls.specs.declared.action.Event.TheVariants as events
use Rattle.pool_calls.specs.declared.action.StepFailure.{StepFailure}
use Rattle.pool_calls.specs.declared.action.StepFailure.TheVariants as failures
use Rattle.pool_calls.specs.declared.hook_plan.HookPlan.{HookPlan}
use Rattle.pool_calls.specs.declared.operation.Operation.{Operation}
use Rattle.pool_calls.specs.Steps.{destroys}
use Rattle.pool_host.specs.Queueing.{Queues}
use Rattle.pool_host.specs.declared.call.Call.{Call}
use Rattle.pool_host.specs.declared.hooks.Hooks.{Hooks}
use Rattle.pool_host.specs.declared.options.Options.{Options}
use Rattle.pool_host.specs.declared.report.Report.{Report}
use Rattle.pool_host.specs.declared.report.Report.TheVariants as reports
use Rattle.pool_host.specs.declared.waiting.Waking.{Waking}
use Rattle.pool_host.specs.declared.waiting.Waking.TheVariants as wakings

-- the model of a pool with the calls that wait for it
pub record HostedModel : Type 0 where
  pub core : CoreModel ℕ
  pub queue : Queue
  pub plan : HookPlan  -- what each call has to know
  pub drops : Bool  -- whether it drops its journal
  pub holds_back : Bool  -- whether a call that waits was woken and found nothing, and none has left since
  pub last : ℕ  -- the greatest time so far

-- what the calls have to know of the settings and the hooks of the factory: a test that the factory doesn't have is not made
abbrev pub plan_of : Settings → Hooks → HookPlan
plan_of s h =
    record {
      remove_abandoned_on_borrow = s.remove_abandoned_on_borrow;
      test_on_create = s.test_on_create && h.validates;
      test_on_borrow = s.test_on_borrow && h.validates;
      test_on_return = s.test_on_return && h.validates;
      activates = h.activates;
      passivates = h.passivates;
    }

-- the pool is new
pub record Opened (s : Settings) (o : Options) (d : HostedModel) : Type 0 where
  pub settings : d.core.settings ≡ s
  pub base : d.core.base ≡ empty_base
  pub journal : d.core.journal ≡ []
  pub places : d.core.places ≡ []
  pub waiting : d.queue.waiting ≡ []
  pub signalled : d.queue.signalled ≡ 0
  pub latest : d.queue.latest ≡ 0
  pub overtake_millis : d.queue.millis ≡ o.overtake_millis
  pub most_overtakes : d.queue.most ≡ o.max_overtakes
  pub plan : d.plan ≡ plan_of s o.hooks
  pub drops : d.drops ≡ o.drops_journal
  pub holds_back : d.holds_back ≡ false

-- the call has taken no step, holds no ticket, found nothing yet, and follows this plan
pub record Begins (p : HookPlan) (c : Call) : Type 0 where
  pub first : HasCome c.operation []
  pub follows : Follows p c.operation
  pub alone : c.ticket ≡ None
  pub turn : c.was_served ≡ false

-- the holder keeps the object of the call
abbrev pub detaches : Operation → Bool
detaches op = not (destroys op.kind)

-- the settings stay, what the calls have to know, and whether the journal is dropped
pub record KeepsRest (old new : HostedModel) : Type 0 where
  pub settings : new.core.settings ≡ old.core.settings
  pub plan : new.plan ≡ old.plan
  pub drops : new.drops ≡ old.drops

-- ---- steps
-- the token that is handed in with an input
abbrev pub handed : Input → ℕ → Option ℕ
handed input token = if carries input then Some token else None

-- the result of a step, without the token that an error returns
abbrev pub outcome_of : Result (Answer × Option ℕ) (StepFault ℕ) → Result (Answer × Option ℕ) StepFailure
outcome_of (Ok r) = Ok r
outcome_of (Err (faults.JournalFull v)) = Err failures.JournalFull
outcome_of (Err (faults.OutOfMemory v)) = Err failures.OutOfMemory

-- the pool after a cut: its journal is empty, and goes on from the state after the entries
abbrev pub cut_of : CoreModel ℕ → CoreModel ℕ
cut_of c = record c { base = base_after c.base c.journal; journal = [] }

-- the pool with these settings: the calls that begin now have this plan
abbrev pub reconfigured_with : Settings → Hooks → HostedModel → HostedModel
reconfigured_with s h d = record d { core = reconfigured s d.core; plan = plan_of s h }

-- the pool after so many cuts
abbrev pub cut_times : ℕ → CoreModel ℕ → CoreModel ℕ
cut_times zero c = c
cut_times (suc n) c = cut_times n (cut_of c)

-- a pool that drops its journal was cut some times, and what was stored is forgotten; another one is the same
pub record Forgets (drops : Bool) (old new : CoreModel ℕ) : Type 0 where
  pub cuts : ℕ
  pub cut : new ≡ cut_times cuts old
  pub keeps : drops ≡ false → cuts ≡ 0

-- the pool takes a step, with one entry for it
pub record Takes (caller at : ℕ) (input : Input) (handed : Option ℕ) (drops : Bool) (old new : CoreModel ℕ) (answer : Answer) (out : Option ℕ) : Type 0 where
  pub cut : CoreModel ℕ
  pub forgets : Forgets drops old cut
  pub answered : Answered caller at input handed cut new answer out

-- the entries of turns
abbrev pub entries_of : ℕ → ℕ → List Turn → List Entry
entries_of caller at turns = map (λ t. entry_of caller at t.input t.answer) turns

-- the pool takes these steps, one after the other. The token of the call is handed in with an input that carries one; a token
-- that the pool hands out is the call's from then on
abbrev pub Runs : ℕ → ℕ → Bool → List Turn → CoreModel ℕ → ℕ → CoreModel ℕ → ℕ → Type 0
Runs caller at drops [] old token new after = Forgets drops old new × (after ≡ token)
Runs caller at drops (t ∷ ts) old token new after =
    (mid : CoreModel ℕ) × (out : Option ℕ) × Takes caller at t.input (handed t.input token) drops old mid t.answer out × Runs caller at drops ts mid (unwrap_or out token) new after

-- the pool takes steps that a call asks for: a journal that is kept has one entry more for each, and the call has come on by them
pub record Advances (caller at : ℕ) (drops : Bool) (old new : CoreModel ℕ) (before after : Call) : Type 0 where
  pub turns : List Turn
  pub runs : Runs caller at drops turns old before.token new after.token
  pub base : drops ≡ false → new.base ≡ old.base
  pub appended : drops ≡ false → new.journal ≡ old.journal ++ entries_of caller at turns
  pub comes : (earlier : List Turn) → HasCome before.operation earlier → HasCome after.operation (earlier ++ turns)

-- a call of a pool that drops its journal lacks room only while no entry is stored
abbrev pub LacksRoomOnlyEmpty : Bool → CoreModel ℕ → Operation → Type 0
LacksRoomOnlyEmpty drops c op = lacks_room op ≡ true → drops ≡ true → c.journal ≡ []

-- an action is what a call asks for next
pub record IsNext (op : Operation) (action : Action) : Type 0 where
  pub right : (turns : List Turn) → HasCome op turns → IsRight op turns action
  pub step : step_of action ≡ step_at op
  pub room : asks_room action ≡ lacks_room op
  pub over : is_done action ≡ is_over op

-- the call, with the token that a report tells
abbrev pub told : Report → Call → Call
told (reports.Made t) c = record c { token = t }
told _ c = c

-- the pool takes steps that a call asks for, and the queue changes by the ticket of the call alone
pub record Moves (caller at : ℕ) (old new : HostedModel) (before after : Call) : Type 0 where
  pub advances : Advances caller at old.drops old.core new.core before after
  pub rest : KeepsRest old new
  pub queue : Queues before.ticket after.ticket old.queue new.queue

-- the first of the turns, if there is one, is for this step
abbrev pub StartsWith : Input → List Turn → Type 0
StartsWith input [] = Unit {0}
StartsWith input (t ∷ ts) = t.input ≡ input

abbrev pub has_turn : List Turn → Bool
has_turn [] = false
has_turn (t ∷ ts) = true

-- the pool takes steps, and the first of them is this one
pub record StartsBy (input : Input) (caller at : ℕ) (old new : HostedModel) (before after : Call) : Type 0 where
  pub moves : Moves caller at old new before after
  pub starts : StartsWith input moves.advances.turns

-- the pool takes this step, or it was not taken
pub record TakesFirst (input : Input) (taken : Bool) (caller at : ℕ) (old new : HostedModel) (before after : Call) : Type 0 where
  pub moves : Moves caller at old new before after
  pub starts : StartsWith input moves.advances.turns
  pub took : taken ≡ true → has_turn moves.advances.turns ≡ true

-- the pool takes the steps that a call asks for, from the first one
abbrev pub GoesFrom : Option Input → ℕ → ℕ → HostedModel → HostedModel → Call → Call → Type 0
GoesFrom None caller at old new before after = Moves caller at old new before after × (after.operation ≡ before.operation)
GoesFrom (Some input) caller at old new before after = StartsBy input caller at old new before after

-- the call has been told a report, and no step was taken
pub record Accepts (report : Report) (old new : HostedModel) (before after : Call) : Type 0 where
  pub core : new.core ≡ old.core
  pub rest : KeepsRest old new
  pub token : after.token ≡ (told report before).token
  pub comes : (turns : List Turn) → HasCome before.operation turns → HasCome after.operation turns
  pub queue : Queues before.ticket after.ticket old.queue new.queue

-- a report fits what the host was asked to do
abbrev pub fits_report : Report → Operation → Bool
fits_report reports.GoOn op = is_some (step_at op)
fits_report (reports.Made t) op = is_making op && fits op events.Succeeded
fits_report reports.Succeeded op = not (is_making op) && fits op events.Succeeded
fits_report reports.Failed op = fits op events.Failed
fits_report reports.Woken op = is_waiting op
fits_report reports.RoomMade op = fits op events.RoomMade
fits_report reports.NoRoom op = fits op events.NoRoom
fits_report reports.GivenUp op = fits op events.Cancelled

-- ---- waits
-- the present objects
abbrev pub present_of : Counts → ℕ
present_of n = n.idle + n.lent + n.reserved

-- the number of objects that may be made beside so many; 2^64 - 1 if there is no limit
abbrev pub free_beside : ℕ → ℤ → ℕ
free_beside present (pos most) = most - present
free_beside present (negsuc n) = 2 ^ 64 - 1

-- the number of objects that a borrow may take, and of free places, up to 2^64 - 1; so many if the pool is closed
abbrev pub available_in : CoreModel ℕ → ℕ
available_in c =
    if closed_from c.base c.journal then 2 ^ 64 - 1
    else min (takeable_from c.base c.journal + free_beside (present_of (counts_from c.base c.journal)) c.settings.max_total) (2 ^ 64 - 1)

-- no call waits, or this is the number
abbrev pub IsAvailable : HostedModel → ℕ → Type 0
IsAvailable d n = (length d.queue.waiting ≡ 0) ⊎ (n ≡ available_in d.core)

-- the end of a wait that began at this time, by a limit that is longer by so much
abbrev pub later_by : ℤ → ℕ → ℕ → Option ℕ
later_by (pos most) longer began = Some (min (began + (most + longer)) (2 ^ 64 - 1))
later_by (negsuc n) longer began = None

-- the time at which the wait of a borrow is over, by the settings and by what it may wait longer
abbrev pub until_of : Settings → Call → Option ℕ
until_of s c = option_and_then (later_by s.max_wait_millis c.longer) (began_of c.operation)

-- a wait of this time is over, by a limit that is longer by so much
abbrev pub has_waited : ℤ → ℕ → ℕ → Bool
has_waited (pos most) longer waited = nat_le (most + longer) waited
has_waited (negsuc n) longer waited = false

-- A borrow that comes later may ask at this time, unless it counts that it takes what those that wait can have, and it may not overtake
-- them, or one of them was woken and found nothing and there is a limit to overtakes.
abbrev pub may_come_in : ℕ → ℕ → HostedModel → Bool
may_come_in available at d =
    if d.holds_back && is_limited d.queue && counts_overtake available at d.queue then false
    else may_lend available at d.queue

-- a borrow times out if its time is over, and sleeps on if it is not
abbrev pub sleeps_until : Bool → Waking
sleeps_until over = if over then wakings.TimesOut else wakings.SleepsOn

-- what a borrow that sleeps does when it wakes up: it may wait longer than the settings say, or not
abbrev pub waking_of : Bool → Bool → Bool → Answer → Waking
waking_of signalled longer over answers.Wait = wakings.SleepsOn
waking_of signalled longer over (answers.Take i) = if signalled then wakings.Asks else sleeps_until over
waking_of signalled longer over (answers.Make i) = if signalled then wakings.Asks else sleeps_until over
waking_of signalled longer over answers.TimedOut = if longer then sleeps_until over else wakings.Asks
waking_of signalled longer over _ = wakings.Asks

-- what is there is for the borrow with this ticket
abbrev pub holds_signal : Queue → Option ℕ → Bool
holds_signal q None = true
holds_signal q (Some ticket) = is_in ticket (signalled_of q)

-- what a borrow does that began at this time and wakes up at another
abbrev pub waking_at : HostedModel → ℕ → Option ℕ → ℕ → ℕ → Waking
waking_at d at ticket longer began =
    waking_of (holds_signal d.queue ticket) (nat_lt 0 longer) (has_waited d.core.settings.max_wait_millis longer (at - began)) (reply_from d.core.settings d.core.base d.core.journal at (inputs.Borrow began))

abbrev pub is_timeout : Answer → Bool
is_timeout answers.TimedOut = true
is_timeout _ = false

-- a borrow would be told that its time is over by the settings, and may wait longer
abbrev pub waits_on : HostedModel → ℕ → Call → ℕ → Bool
waits_on d at c began =
    nat_lt 0 c.longer && not (has_waited d.core.settings.max_wait_millis c.longer (at - began)) && is_timeout (reply_from d.core.settings d.core.base d.core.journal at (inputs.Borrow began))

-- these waiters, each overtaken once more if so
abbrev pub passed : Bool → List Waiter → List Waiter
passed is ws = if is then map overtaken_once ws else ws

-- ---- what the host is asked in the usual course
-- a borrow of an idle object has its host do something, or removes abandoned objects first
abbrev pub asks_at_borrow : HookPlan → Bool
asks_at_borrow p = p.activates || p.test_on_borrow || p.remove_abandoned_on_borrow

-- a return has its host do something
abbrev pub asks_at_return : HookPlan → Bool
asks_at_return p = p.passivates || p.test_on_return

-- ---- reports
abbrev pub WakesAs : Waking → Operation → Operation → Type 0
WakesAs wakings.Asks before after = Proceeds events.Woken before after
WakesAs wakings.TimesOut before after = Proceeds events.TimeOver before after
WakesAs wakings.SleepsOn before after = after ≡ before

-- a borrow that sleeps was woken
abbrev pub IsWoken : HostedModel → ℕ → Option ℕ → ℕ → Operation → Operation → Type 0
IsWoken d at ticket longer before after = (began : ℕ) × (began_of before ≡ Some began) × WakesAs (waking_at d at ticket longer began) before after

abbrev pub LooksIf : Bool → HostedModel → ℕ → Option ℕ → ℕ → Operation → Operation → Type 0
LooksIf true d at ticket longer before after = (queued : Operation) × Proceeds events.Queued before queued × IsWoken d at ticket longer queued after
LooksIf false d at ticket longer before after = after ≡ before

-- a call for which room was made is to take its step. A borrow that waited before looks as one that was woken
abbrev pub HasRoom : HostedModel → ℕ → Call → Operation → Type 0
HasRoom d at c after =
    (ready : Operation) × Proceeds events.RoomMade c.operation ready × LooksIf (is_some c.ticket && fits ready events.Queued) d at c.ticket c.longer ready after

-- a call has been told a report, at this time
abbrev pub IsTold : Report → HostedModel → ℕ → Call → Operation → Type 0
IsTold reports.GoOn d at c after = after ≡ c.operation
IsTold (reports.Made t) d at c after = Proceeds events.Succeeded c.operation after
IsTold reports.Succeeded d at c after = Proceeds events.Succeeded c.operation after
IsTold reports.Failed d at c after = Proceeds events.Failed c.operation after
IsTold reports.Woken d at c after = IsWoken d at c.ticket c.longer c.operation after
IsTold reports.RoomMade d at c after = HasRoom d at c after
IsTold reports.NoRoom d at c after = Proceeds events.NoRoom c.operation after
IsTold reports.GivenUp d at c after = Proceeds events.Cancelled c.operation after
