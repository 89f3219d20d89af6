-- How calls overtake those that wait.
use Rattle.std.specs.Prelude.{◌≡◌, ◌≤◌, ℕ, max, ◌&&◌, ◌||◌, not, Bool, true, false, List, [], ◌∷◌, ◌++◌, Option, Some, None}
use Rattle.std.specs.Option.{is_some}
use Rattle.pool_journal.specs.declared.answer.Answer.{Answer}
use Rattle.pool_journal.specs.declared.answer.Answer.TheVariants as answers
use Rattle.pool_journal.specs.declared.input.Input.{Input}
use Rattle.pool_journal.specs.declared.input.Input.TheVariants as inputs
use Rattle.pool_calls.specs.Operations.{is_waiting, step_at}
use Rattle.pool_calls.specs.Turns.{Turn}
use Rattle.pool_calls.specs.Waiting.{Queue, Waiter, counts_overtake, may_lend, newest, without}
use Rattle.pool_host.specs.Hosting.{HostedModel, Forgets, Takes, available_in, handed, passed}
use Rattle.pool_host.specs.declared.call.Call.{Call}

-- the waiters without the ticket of a call, if it has one
abbrev pub others : Option ℕ → List Waiter → List Waiter
others None ws = ws
others (Some t) ws = without t ws

-- a call that doesn't wait, and has found nothing before
abbrev pub is_newcomer : Call → Bool
is_newcomer c = not (is_some c.ticket || c.was_served)

abbrev pub is_borrow : Input → Bool
is_borrow (inputs.Borrow began) = true
is_borrow _ = false

-- an object to lend, or a place for one
abbrev pub is_found : Answer → Bool
is_found (answers.Take i) = true
is_found (answers.Make i) = true
is_found _ = false

-- a borrow asks, and finds something
abbrev pub finds : Input → Answer → Bool
finds input answer = is_borrow input && is_found answer

-- a call that hears a report finds nothing, overtakes nobody, and draws no ticket
pub record Hears (old new : HostedModel) (before after : Call) : Type 0 where
  pub core : Forgets old.drops old.core new.core
  pub drops : new.drops ≡ old.drops
  pub served : after.was_served ≡ before.was_served
  pub others : others after.ticket new.queue.waiting ≡ others before.ticket old.queue.waiting
  pub draws_none : is_some after.ticket ≡ true → after.ticket ≡ before.ticket
  pub latest : new.queue.latest ≡ old.queue.latest

-- a call that has drawn a ticket waits behind all others, from this time on, or from the latest so far at which one began to wait
pub record Draws (at : ℕ) (old new : Queue) (call : Call) : Type 0 where
  pub waits : is_waiting call.operation ≡ true
  pub last : (t : ℕ) → call.ticket ≡ Some t → new.waiting ≡ old.waiting ++ newest t (max at old.latest) ∷ []

-- a call that takes no step finds nothing, and overtakes nobody. One that draws a ticket waits, and asks for no step while it has it
pub record Rests (at : ℕ) (old new : HostedModel) (before after : Call) : Type 0 where
  pub core : Forgets old.drops old.core new.core
  pub drops : new.drops ≡ old.drops
  pub served : after.was_served ≡ before.was_served
  pub others : others after.ticket new.queue.waiting ≡ others before.ticket old.queue.waiting
  pub draws : is_some after.ticket ≡ true → before.ticket ≡ None → Draws at old.queue new.queue after
  pub latest : new.queue.latest ≤ max at old.queue.latest
  pub waits : is_some after.ticket ≡ true → is_waiting before.operation ≡ true → is_waiting after.operation ≡ true

-- a call takes the step that it asks for. A newcomer finds something only if it may overtake those that wait, or leaves them enough, or none of
-- them has waited for long enough. It has overtaken each of them once more if that counts. No other step overtakes anybody
pub record Passes (caller at : ℕ) (turn : Turn) (old new : HostedModel) (before after : Call) : Type 0 where
  pub asked : step_at before.operation ≡ Some turn.input
  pub out : Option ℕ
  pub takes : Takes caller at turn.input (handed turn.input before.token) old.drops old.core new.core turn.answer out
  pub drops : new.drops ≡ old.drops
  pub served : after.was_served ≡ (finds turn.input turn.answer || before.was_served)
  pub draws : is_some after.ticket ≡ true → before.ticket ≡ None → Draws at old.queue new.queue after
  pub latest : new.queue.latest ≤ max at old.queue.latest
  pub may : finds turn.input turn.answer ≡ true → is_newcomer before ≡ true → may_lend (available_in old.core) at old.queue ≡ true
  pub others :
      others after.ticket new.queue.waiting
      ≡ passed (finds turn.input turn.answer && is_newcomer before && counts_overtake (available_in old.core) at old.queue) (others before.ticket old.queue.waiting)

-- what a call does, one thing after the other: with a step, or without one
abbrev pub Course : ℕ → ℕ → List (Option Turn) → HostedModel → HostedModel → Call → Call → Type 0
Course caller at [] old new before after = (new ≡ old) × (after ≡ before)
Course caller at (None ∷ ts) old new before after =
    (mid : HostedModel) × (call : Call) × Rests at old mid before call × Course caller at ts mid new call after
Course caller at (Some t ∷ ts) old new before after =
    (mid : HostedModel) × (call : Call) × Passes caller at t old mid before call × Course caller at ts mid new call after

-- all that a call does counts whom it overtakes
pub record CountsOvertakes (caller at : ℕ) (old new : HostedModel) (before after : Call) : Type 0 where
  pub turns : List (Option Turn)
  pub course : Course caller at turns old new before after
