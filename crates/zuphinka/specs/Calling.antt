-- The calls in progress from C: what begins them, what follows a report, and what the host is told.
use Rattle.std.specs.Prelude.{◌≡◌, ℕ, ◌+◌, ◌-◌, ◌^◌, ◌==◌, ◌&&◌, ◌||◌, if◌then◌else◌, max, min, not, Bool, true, false, Option, Some, None, is_some, unwrap_or, IsSomeAnd, length}
use Rattle.pool_journal.specs.Base.{closed_from}
use Rattle.pool_journal.specs.declared.answer.Answer.{Answer}
use Rattle.pool_journal.specs.declared.answer.Answer.TheVariants as answers
use Rattle.pool_journal.specs.declared.input.Input.{Input}
use Rattle.pool_journal.specs.declared.input.Input.TheVariants as inputs
use Rattle.pool_journal.specs.declared.input.When.TheVariants as times
use Rattle.pool_core.specs.Reply.{reply_from}
use Rattle.pool_calls.specs.Operations.{began_of, is_over, step_at}
use Rattle.pool_calls.specs.Waiting.{IsSettled, Signals, most_overtaken}
use Rattle.pool_calls.specs.declared.operation.Operation.{Operation}
use Rattle.pool_host.specs.Hosting.{HostedModel, Begins, available_in, detaches, fits_report}
use Rattle.pool_host.specs.Going.{WentOn}
use Rattle.pool_host.specs.declared.call.Call.{Call}
use Rattle.pool_host.specs.declared.effects.Effects.{Effects}
use Rattle.pool_host.specs.declared.report.Report.{Report}
use Rattle.pool_host.specs.declared.report.Report.TheVariants as reports
use Rattle.zuphinka.specs.CallCodes.{action_code, action_end, action_number, kind_at, report_of}
use Rattle.zuphinka.specs.Opening.{OpenModel}
use Rattle.zuphinka.specs.HostCalls.{Holds, HoldsNone, Keeps}
use Rattle.zuphinka.specs.Status.{status_code}
use Rattle.zuphinka.specs.declared.call_effects.CallEffects.{CallEffects}
use Rattle.zuphinka.specs.declared.event.CallEvent.{CallEvent}
use Rattle.zuphinka.specs.declared.host_call.HostCall.{HostCall}
use Rattle.zuphinka.specs.declared.pool_state.PoolState.{PoolState}
use Rattle.zuphinka.specs.declared.starting.CallStart.{CallStart}
use Rattle.zuphinka.specs.declared.starting.Kind.{Kind}
use Rattle.zuphinka.specs.declared.starting.Kind.TheVariants as kinds
use Rattle.zuphinka.specs.declared.status.Status.{Status}
use Rattle.zuphinka.specs.declared.status.Status.TheVariants.{Done, NotOpen, BadRequest, NoCall, Misfit, NoWake, AtOnce}

-- ---- what the host is told
-- C reads these effects of a call, and the ticket to wake
pub record IsReadAs (e : Effects) (op : Operation) (woken : Option ℕ) (out : CallEffects) : Type 0 where
  pub number : out.number ≡ action_number e.action
  pub object : out.object ≡ e.token
  pub ticket : out.ticket ≡ unwrap_or e.ticket 0
  pub until : out.until ≡ unwrap_or e.until 0
  pub wake : out.wake ≡ unwrap_or woken 0
  pub count : out.count ≡ op.counts.objects
  pub freed : out.freed ≡ op.counts.freed
  pub action : out.action ≡ action_code e.action
  pub end : out.end ≡ action_end e.action
  pub has_ticket : out.has_ticket ≡ is_some e.ticket
  pub has_until : out.has_until ≡ is_some e.until
  pub has_wake : out.has_wake ≡ is_some woken

-- the next ticket to wake is signalled, or none is to be
abbrev pub Wakes : HostedModel → HostedModel → Option ℕ → Type 0
Wakes old new None = (new ≡ record old { queue = record old.queue { signalled = new.queue.signalled } }) × IsSettled (available_in old.core) new.queue
Wakes old new (Some ticket) =
    (new ≡ record old { queue = record old.queue { signalled = new.queue.signalled } }) × Signals (available_in old.core) old.queue new.queue ticket

-- a call goes on after a report that fits what the host was asked to do, and C reads what it does next
pub record GoesOn (caller at : ℕ) (report : Report) (old new : HostedModel) (before after : Call) (out : CallEffects) : Type 0 where
  pub effects : Effects
  pub between : HostedModel  -- before a call is woken
  pub wake : Option ℕ
  pub went : WentOn report caller (max at old.last) old between before after effects
  pub wakes : Wakes between new wake
  pub read : IsReadAs effects after.operation wake out

-- its object is lent or idle, and no call is to be woken
abbrev pub is_quiet : CallEffects → Bool
is_quiet e = (e.end == 1 || e.end == 10) && not e.has_wake

-- of a call that is over so C reads the object and the end alone
abbrev pub read_of : Bool → CallEffects → CallEffects → CallEffects
read_of true told before = record before { number = told.number; object = told.object; end = told.end }
read_of false told before = told

abbrev pub status_told : Bool → Status
status_told true = AtOnce
status_told false = Done

-- ---- begin
-- it begins with this step, and has this token
abbrev pub Asks : Call → Input → ℕ → Type 0
Asks c input token = (step_at c.operation ≡ Some input) × (c.token ≡ token)

-- the call is what its start says
abbrev pub IsKind : CallStart → ℕ → Kind → Call → Type 0
IsKind s last kinds.Borrow c = (began_of c.operation ≡ Some (max s.at last)) × (c.longer ≡ s.id)
IsKind s last kinds.Return c = Asks c (inputs.GiveBack s.id) s.object
IsKind s last kinds.Invalidate c = Asks c (inputs.Invalidate s.id) s.object × (detaches c.operation ≡ false)
IsKind s last kinds.Detach c = Asks c (inputs.Invalidate s.id) s.object × (detaches c.operation ≡ true)
IsKind s last kinds.Touch c = step_at c.operation ≡ Some (inputs.Use s.id)
IsKind s last kinds.Add c = step_at c.operation ≡ Some inputs.Add
IsKind s last kinds.Fill c = step_at c.operation ≡ Some inputs.Fill
IsKind s last kinds.Evict c = step_at c.operation ≡ Some inputs.Evict
IsKind s last kinds.Reclaim c = step_at c.operation ≡ Some (inputs.Reclaim times.Maintain)
IsKind s last kinds.Clear c = step_at c.operation ≡ Some inputs.Clear
IsKind s last kinds.Close c = step_at c.operation ≡ Some inputs.Close

-- the number of calls in progress after one began, up to 2^64 - 1
abbrev pub running_with : Bool → ℕ → ℕ
running_with is n = if is then min (n + 1) (2 ^ 64 - 1) else n

-- the number of calls in progress after one of them went on
abbrev pub running_after : Bool → ℕ → ℕ
running_after is n = if is then n else n - 1

-- a call of this kind has begun
pub record Began (start : CallStart) (old new : OpenModel) (host : HostCall) (out : CallEffects) (kind : Kind) : Type 0 where
  pub first : Call
  pub begins : Begins old.hosted.plan first
  pub is : IsKind start old.hosted.last kind first
  pub call : Call
  pub goes : GoesOn start.caller start.at reports.GoOn old.hosted new.hosted first call out
  pub keeps : Keeps (is_over call.operation) old.number host call
  pub rest : new ≡ record old { hosted = new.hosted; running = running_with (not (is_over call.operation)) old.running }

-- the result of beginning a call of an open pool
abbrev pub BeginsTo : CallStart → OpenModel → OpenModel → HostCall → HostCall → CallEffects → CallEffects → Status → Type 0
BeginsTo start old new host host' out out' Done = IsSomeAnd (kind_at start.kind) (Began start old new host' out')
BeginsTo start old new host host' out out' AtOnce =
    (told : CallEffects) × IsSomeAnd (kind_at start.kind) (Began start old new host' told) × (is_quiet told ≡ true) × (out' ≡ read_of true told out)
BeginsTo start old new host host' out out' BadRequest = (kind_at start.kind ≡ None) × (new ≡ old) × (host' ≡ host) × (out' ≡ out)
BeginsTo start old new host host' out out' _ = ⊥

-- ---- advance
-- a call in progress went on after a report
pub record Advanced (event : CallEvent) (old new : OpenModel) (host : HostCall) (out : CallEffects) (before : Call) : Type 0 where
  pub report : Report
  pub reported : report_of event ≡ Some report
  pub call : Call
  pub goes : GoesOn event.caller event.at report old.hosted new.hosted before call out
  pub keeps : Keeps (is_over call.operation) old.number host call
  pub rest : new ≡ record old { hosted = new.hosted; running = running_after (not (is_over call.operation)) old.running }

-- the result of a report to an open pool
abbrev pub AdvancesTo : CallEvent → OpenModel → OpenModel → HostCall → HostCall → CallEffects → CallEffects → Status → Type 0
AdvancesTo event old new host host' out out' Done = (c : Call) × Holds old.number host c × Advanced event old new host' out' c
AdvancesTo event old new host host' out out' AtOnce =
    (c : Call) × Holds old.number host c
    × (told : CallEffects) × Advanced event old new host' told c × (is_quiet told ≡ true) × (out' ≡ read_of true told out)
AdvancesTo event old new host host' out out' NoCall = HoldsNone old.number host × (new ≡ old) × (host' ≡ host) × (out' ≡ out)
AdvancesTo event old new host host' out out' BadRequest =
    (c : Call) × Holds old.number host c × (report_of event ≡ None) × (new ≡ old) × (host' ≡ host) × (out' ≡ out)
AdvancesTo event old new host host' out out' Misfit =
    (c : Call) × Holds old.number host c × IsSomeAnd (report_of event) (λ r. fits_report r c.operation ≡ false) × (new ≡ old) × (host' ≡ host) × (out' ≡ out)
AdvancesTo event old new host host' out out' _ = ⊥

-- ---- wakes and the state
-- the result of asking an open pool for the next call to wake
abbrev pub WakesTo : OpenModel → OpenModel → ℕ → ℕ → Status → Type 0
WakesTo old new ticket ticket' Done = Wakes old.hosted new.hosted (Some ticket') × (new ≡ record old { hosted = new.hosted })
WakesTo old new ticket ticket' NoWake = Wakes old.hosted new.hosted None × (new ≡ record old { hosted = new.hosted }) × (ticket' ≡ ticket)
WakesTo old new ticket ticket' _ = ⊥

-- the numbers of calls, and whether the pool is closed
pub record ReportsState (p : OpenModel) (reported : PoolState) : Type 0 where
  pub waiting : reported.waiting ≡ length p.hosted.queue.waiting
  pub running : reported.running ≡ p.running
  pub closed : reported.is_closed ≡ closed_from p.hosted.core.base p.hosted.core.journal

-- each call that has waited for so long is overtaken at most so often from now on, or as often as the oldest one was
pub record LimitsOvertakes (millis most : ℕ) (old new : OpenModel) (bound : ℕ) : Type 0 where
  pub is : bound ≡ max most (most_overtaken old.hosted.queue.waiting)
  pub rest : new ≡ record old { hosted = record old.hosted { queue = record old.hosted.queue { millis = millis; most = bound } } }

-- the object is lent, by what is expected of its return
abbrev pub ends_loan : Answer → Bool
ends_loan (answers.Refused cause) = false
ends_loan answers.Gone = false
ends_loan _ = true

-- the object with this id is lent
abbrev pub is_lent_in : OpenModel → ℕ → Bool
is_lent_in p id = ends_loan (reply_from p.hosted.core.settings p.hosted.core.base p.hosted.core.journal 0 (inputs.GiveBack id))

-- ---- handles
-- the result of beginning a call of the pool in a handle
abbrev pub BeginsIn : CallStart → Option OpenModel → Option OpenModel → HostCall → HostCall → CallEffects → CallEffects → Status → Type 0
BeginsIn start None new host host' out out' s = (s ≡ NotOpen) × (new ≡ None) × (host' ≡ host) × (out' ≡ out)
BeginsIn start (Some old) new host host' out out' s = IsSomeAnd new (λ p. BeginsTo start old p host host' out out' s)

-- the result of a report to the pool in a handle
abbrev pub AdvancesIn : CallEvent → Option OpenModel → Option OpenModel → HostCall → HostCall → CallEffects → CallEffects → Status → Type 0
AdvancesIn event None new host host' out out' s = (s ≡ NotOpen) × (new ≡ None) × (host' ≡ host) × (out' ≡ out)
AdvancesIn event (Some old) new host host' out out' s = IsSomeAnd new (λ p. AdvancesTo event old p host host' out out' s)

-- the result of asking the pool in a handle for the next call to wake
abbrev pub WakesIn : Option OpenModel → Option OpenModel → ℕ → ℕ → Status → Type 0
WakesIn None new ticket ticket' s = (s ≡ NotOpen) × (new ≡ None) × (ticket' ≡ ticket)
WakesIn (Some old) new ticket ticket' s = IsSomeAnd new (λ p. WakesTo old p ticket ticket' s)

-- the result of asking the pool in a handle for its state
abbrev pub ReadsState : Option OpenModel → Option OpenModel → PoolState → PoolState → ℕ → Type 0
ReadsState None new before after code = (code ≡ status_code NotOpen) × (new ≡ None) × (after ≡ before)
ReadsState (Some old) new before after code = (code ≡ status_code Done) × (new ≡ Some old) × ReportsState old after

-- the result of a bound on overtakes for the pool in a handle
abbrev pub LimitsIn : ℕ → ℕ → Option OpenModel → Option OpenModel → ℕ → ℕ → ℕ → Type 0
LimitsIn millis most None new before after code = (code ≡ status_code NotOpen) × (new ≡ None) × (after ≡ before)
LimitsIn millis most (Some old) new before after code = (code ≡ status_code Done) × IsSomeAnd new (λ p. LimitsOvertakes millis most old p after)

-- the result of asking the pool in a handle whether an object is lent
abbrev pub TellsLent : ℕ → Option OpenModel → Option OpenModel → Bool → Bool → ℕ → Type 0
TellsLent id None new before after code = (code ≡ status_code NotOpen) × (new ≡ None) × (after ≡ before)
TellsLent id (Some old) new before after code = (code ≡ status_code Done) × (new ≡ Some old) × (after ≡ is_lent_in old id)
