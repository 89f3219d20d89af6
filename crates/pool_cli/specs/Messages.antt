-- The line of an error, and the exit status of the program.
use Rattle.std.specs.List.{slice_get}
use Rattle.std.specs.Prelude.{ℕ, List, ◌++◌, codes, Option, None, Some, option_map}
use Rattle.pool_settings.specs.Escaped.{escaped}
use Rattle.pool_engines.specs.Messages.{file_text}
use Rattle.pool_engines.specs.declared.check_fault.CheckFault.{CheckFault}
use Rattle.pool_engines.specs.declared.engine_fault.EngineFault.{EngineFault}
use Rattle.pool_engines.specs.declared.check_fault.CheckFault.TheVariants as checks
use Rattle.pool_cli.specs.declared.fault.Fault.{Fault}
use Rattle.pool_cli.specs.declared.fault.Fault.TheVariants.{WrongArguments, Asked, WrongNumbers, Unopened, OutOfMemory, Settings, NoRoom, Engine, Load}

-- The line without its line feed. Those of engines and loads have no key and no path, and are not defined here.
abbrev pub text_of : Fault → Option (List ℕ)
text_of WrongArguments = Some (codes "pool: wrong arguments")
text_of Asked = Some (codes "pool: wrong arguments")
text_of WrongNumbers = Some (codes "pool: wrong arguments")
text_of (Unopened path) = Some (codes "pool: cannot open " ++ escaped path.now)
text_of OutOfMemory = Some (codes "pool: out of memory")
text_of (Settings _ fault) = Some (file_text fault)
text_of (NoRoom _) = Some (codes "pool: base: no room")
text_of (Engine _ _) = None
text_of (Load _) = None

abbrev pub status_of : Fault → ℕ
status_of WrongArguments = 2
status_of Asked = 2
status_of WrongNumbers = 2
status_of _ = 3

-- the path of the file that could not be opened, whose settings have no room, or that was not read to its end
abbrev pub file_of : Fault → Option (List ℕ)
file_of (Unopened path) = Some path.now
file_of (NoRoom path) = Some path.now
file_of (Engine path _) = option_map (λ text. text.now) path
file_of _ = None

-- the path of the file that an error of a check has the number of
abbrev pub numbered_file : List (List ℕ) → CheckFault → Option (List ℕ)
numbered_file paths (checks.Unopened number) = slice_get paths number
numbered_file paths (checks.NoRoom number) = slice_get paths number
numbered_file paths (checks.File number _) = slice_get paths number
numbered_file paths (checks.Untold _) = None

-- the error of the engine
abbrev pub cause_of : Fault → Option EngineFault
cause_of (Engine _ fault) = Some fault
cause_of _ = None

-- the error of the engine that stopped a check
abbrev pub check_cause : CheckFault → Option EngineFault
check_cause (checks.Unopened _) = None
check_cause (checks.NoRoom _) = None
check_cause (checks.File _ fault) = Some fault
check_cause (checks.Untold fault) = Some fault
