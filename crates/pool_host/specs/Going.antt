-- How a call goes on after a report.
use Rattle.std.specs.Prelude.{◌≡◌, ℕ, true, false, List, [], None}
use Rattle.pool_journal.specs.declared.input.Input.{Input}
use Rattle.pool_calls.specs.Operations.{HasCome, IsRight, is_over, lacks_room, step_at}
use Rattle.pool_calls.specs.Turns.{Turn, asks_room, is_done}
use Rattle.pool_calls.specs.declared.action.Action.{Action}
use Rattle.pool_calls.specs.declared.operation.Operation.{Operation}
use Rattle.pool_host.specs.Hosting.{Accepts, HostedModel, GoesFrom, IsNext, IsTold, LacksRoomOnlyEmpty, Moves, TakesFirst, fits_report, told, until_of}
use Rattle.pool_host.specs.Overtaking.{CountsOvertakes, Hears}
use Rattle.pool_host.specs.declared.call.Call.{Call}
use Rattle.pool_host.specs.declared.effects.Effects.{Effects}
use Rattle.pool_host.specs.declared.report.Report.{Report}

-- a call was told a report that fits, and no step was taken
pub record Heard (report : Report) (at : ℕ) (old new : HostedModel) (before after : Call) : Type 0 where
  pub fits : fits_report report before.operation ≡ true
  pub told : IsTold report old at before after.operation
  pub accepts : Accepts report old new before after
  pub hears : Hears old new before after
  pub longer : after.longer ≡ before.longer

-- a call took this step, and others that followed at once, and does not lack room
pub record Stepped (input : Input) (caller at : ℕ) (old new : HostedModel) (before after : Call) : Type 0 where
  pub takes : TakesFirst input true caller at old new before after
  pub overtakes : CountsOvertakes caller at old new before after
  pub room : lacks_room after.operation ≡ false
  pub longer : after.longer ≡ before.longer

-- a call took the steps that it asked for, and has come to this action
pub record Ran (caller at : ℕ) (old new : HostedModel) (before after : Call) (action : Action) : Type 0 where
  pub goes : GoesFrom (step_at before.operation) caller at old new before after
  pub overtakes : CountsOvertakes caller at old new before after
  pub room : LacksRoomOnlyEmpty old.drops new.core after.operation
  pub next : IsNext after.operation action
  pub longer : after.longer ≡ before.longer

-- a call, as it is once it was told a report by which it came to this operation
abbrev pub as_told : Report → Call → Operation → Call
as_told report c op = record c { operation = op; token = (told report c).token }

-- a call went on after a report, and its host is told so. A pool that drops its journal asks for room only while no entry is
-- stored
pub record WentOn (report : Report) (caller at : ℕ) (old new : HostedModel) (before after : Call) (e : Effects) : Type 0 where
  pub fits : fits_report report before.operation ≡ true
  pub moves : Moves caller at old new (told report before) after
  pub tells : (mid : Operation) × IsTold report old at before mid × GoesFrom (step_at mid) caller at old new (as_told report before mid) after × CountsOvertakes caller at old new (as_told report before mid) after
  pub last : new.last ≡ at
  pub longer : after.longer ≡ before.longer
  pub action : (turns : List Turn) → HasCome after.operation turns → IsRight after.operation turns e.action
  pub over : is_done e.action ≡ is_over after.operation
  pub ended : is_done e.action ≡ true → after.ticket ≡ None
  pub room : asks_room e.action ≡ true → old.drops ≡ true → new.core.journal ≡ []
  pub token : e.token ≡ after.token
  pub ticket : e.ticket ≡ after.ticket
  pub until : e.until ≡ until_of new.core.settings after
