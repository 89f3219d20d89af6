-- What a host reads of a call that began or went on: all, or of one that is over at once its object alone.
use Rattle.std.proofs.Common.{◌≡◌, Bool, true, false, IsSomeAnd, refl}
use Rattle.pool_host.specs.declared.call.Call.{Call}
use Rattle.zuphinka.specs.CallCodes.{kind_at}
use Rattle.zuphinka.specs.Calling.{Advanced, AdvancesTo, Began, BeginsTo, is_quiet, read_of, status_told}
use Rattle.zuphinka.specs.HostCalls.{Holds}
use Rattle.zuphinka.specs.Opening.{OpenModel}
use Rattle.zuphinka.specs.declared.call_effects.CallEffects.{CallEffects}
use Rattle.zuphinka.specs.declared.event.CallEvent.{CallEvent}
use Rattle.zuphinka.specs.declared.host_call.HostCall.{HostCall}
use Rattle.zuphinka.specs.declared.starting.CallStart.{CallStart}

pub begins_told : (start : CallStart) (old new : OpenModel) (host host' : HostCall) (told read : CallEffects) (quiet : Bool) → is_quiet told ≡ quiet
    → IsSomeAnd (kind_at start.kind) (Began start old new host' told) → BeginsTo start old new host host' read (read_of quiet told read) (status_told quiet)
begins_told start old new host host' told read true is began = (told, began, is, refl)
begins_told start old new host host' told read false is began = began

pub advances_told : (event : CallEvent) (old new : OpenModel) (host host' : HostCall) (told read : CallEffects) (quiet : Bool) → is_quiet told ≡ quiet
    → (c : Call) → Holds old.number host c → Advanced event old new host' told c → AdvancesTo event old new host host' read (read_of quiet told read) (status_told quiet)
advances_told event old new host host' told read true is c holds went = (c, holds, told, went, is, refl)
advances_told event old new host host' told read false is c holds went = (c, holds, went)
