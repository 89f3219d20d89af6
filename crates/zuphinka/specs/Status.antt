-- The codes of statuses.
use Rattle.std.specs.Prelude.{ℕ}
use Rattle.pool_settings.specs.declared.fault.SettingsFault.{SettingsFault}
use Rattle.pool_settings.specs.declared.fault.SettingsFault.TheVariants as faults
use Rattle.zuphinka.specs.declared.status.Status.{Status}
use Rattle.zuphinka.specs.declared.status.Status.TheVariants.{Done, NotOpen, AlreadyOpen, OutOfMemory, JournalFull, BadRequest, NoEntry, NoRoom, NotText, NotToml, UnknownKey, WrongType, OutOfRange, NoCall, Misfit, NoWake, AtOnce}

abbrev pub status_code : Status → ℕ
status_code Done = 0
status_code NotOpen = 1
status_code AlreadyOpen = 2
status_code OutOfMemory = 3
status_code JournalFull = 4
status_code BadRequest = 5
status_code NoEntry = 6
status_code NoRoom = 7
status_code NotText = 8
status_code NotToml = 9
status_code UnknownKey = 10
status_code WrongType = 11
status_code OutOfRange = 12
status_code NoCall = 13
status_code Misfit = 14
status_code NoWake = 15
status_code AtOnce = 16

-- the status of an error in settings
abbrev pub fault_status : SettingsFault → Status
fault_status faults.NotToml = NotToml
fault_status (faults.UnknownKey key) = UnknownKey
fault_status (faults.WrongType key) = WrongType
fault_status (faults.OutOfRange key) = OutOfRange
fault_status faults.OutOfMemory = OutOfMemory
