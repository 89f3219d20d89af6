-- The errors of a settings text, with the names of keys as bytes.
use Rattle.std.specs.Prelude.{◌≡◌, ◌≢◌, ⊤, ℕ, List, Result, Ok, Err, IsErr}
use Rattle.pool_settings.specs.declared.fault.SettingsFault.{SettingsFault}
use Rattle.pool_settings.specs.declared.fault.SettingsFault.TheVariants as errors

pub data Fault : Type 0 where
  not_toml : Fault
  unknown_key : List ℕ → Fault
  wrong_type : List ℕ → Fault
  out_of_range : List ℕ → Fault
  out_of_memory : Fault

abbrev pub fault_of : SettingsFault → Fault
fault_of errors.NotToml = not_toml
fault_of (errors.UnknownKey key) = unknown_key key
fault_of (errors.WrongType key) = wrong_type key.now
fault_of (errors.OutOfRange key) = out_of_range key.now
fault_of errors.OutOfMemory = out_of_memory

-- The result of a function is the given one.
abbrev pub ReturnsReading : {A : Type 0} → Result A SettingsFault → Result A Fault → Type 0
ReturnsReading (Ok x) given = given ≡ Ok x
ReturnsReading (Err fault) given = given ≡ Err (fault_of fault)

-- The same, but an allocation failure may replace the given result.
abbrev pub GivesInMemory : {A : Type 0} → Result A SettingsFault → Result A Fault → Type 0
GivesInMemory (Ok x) given = given ≡ Ok x
GivesInMemory (Err fault) given = fault_of fault ≢ out_of_memory → given ≡ Err (fault_of fault)

-- The same of the settings after a call. An allocation failure replaces only an error.
abbrev pub LeavesSettings : {A : Type 0} → Result ⊤ SettingsFault → A → Result A Fault → Type 0
LeavesSettings (Ok _) left given = given ≡ Ok left
LeavesSettings (Err fault) left given = IsErr given × (fault_of fault ≢ out_of_memory → given ≡ Err (fault_of fault))

-- The same of one setting, which has the given value after the call.
abbrev pub Puts : {A B : Type 0} → (A → B) → Result ⊤ SettingsFault → B → Result A Fault → Type 0
Puts {A} put (Ok _) left given = (x : A) × (given ≡ Ok x) × (left ≡ put x)
Puts put (Err fault) left given = given ≡ Err (fault_of fault)
