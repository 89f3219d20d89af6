-- The lines of help after the line of an error, for a person at a terminal.
use Rattle.std.specs.Prelude.{ℕ, ◌-◌, ◌==◌, nat_lt, Bool, true, false, ◌&&◌, if◌then◌else◌, List, [], ◌∷◌, ◌++◌, length, slice_index, codes, decimal, Option, None, Some, option_map, is_ok}
use Rattle.pool_settings.specs.Escaped.{escaped}
use Rattle.pool_settings.specs.declared.fault.SettingsFault.TheVariants as settings
use Rattle.pool_journal.specs.Reading.{entry_at, request_at}
use Rattle.pool_journal.specs.BaseReading.{head_at}
use Rattle.pool_journal.specs.declared.fault.LineFault.{LineFault}
use Rattle.pool_journal.specs.declared.fault.LineFault.TheVariants as lines
use Rattle.pool_engines.specs.declared.file_fault.FileFault.{FileFault}
use Rattle.pool_engines.specs.declared.file_fault.FileFault.TheVariants as files
use Rattle.pool_engines.specs.declared.engine_fault.EngineFault.{EngineFault}
use Rattle.pool_engines.specs.declared.engine_fault.EngineFault.TheVariants as engines
use Rattle.pool_engines.specs.declared.load_fault.LoadFault.TheVariants as loads
use Rattle.pool_cli.specs.declared.fault.Fault.{Fault}
use Rattle.pool_cli.specs.declared.fault.Fault.TheVariants as faults
use Rattle.pool_cli.specs.declared.found.Found.{Found}
use Rattle.pool_cli.specs.declared.hint.Hint.{Hint}
use Rattle.pool_cli.specs.declared.line_kind.LineKind.{LineKind}
use Rattle.pool_cli.specs.declared.line_kind.LineKind.TheVariants.{Head, Request, Entry, CarriageReturn}

abbrev pub ends_with_return : List ℕ → Bool
ends_with_return line =
    nat_lt 1 (length line) && slice_index line (length line - 2) == 13 && slice_index line (length line - 1) == 10

-- the kind of a line that would be valid elsewhere
abbrev pub kind_of : List ℕ → Option LineKind
kind_of line =
    if is_ok (head_at line) then Some Head
    else if is_ok (request_at line) then Some Request
    else if is_ok (entry_at line) then Some Entry
    else if ends_with_return line then Some CarriageReturn
    else None

-- an error of the settings file, and not of memory
abbrev pub is_of_file : FileFault → Bool
is_of_file files.OutOfMemory = false
is_of_file (files.Text settings.OutOfMemory) = false
is_of_file _ = true

-- an error of the file that is read, and not of memory or of the output
abbrev pub is_of_journal : EngineFault → Bool
is_of_journal engines.OutOfMemory = false
is_of_journal engines.Write = false
is_of_journal _ = true

-- the file with the error, unless the line of the error names it
abbrev pub path_of : Fault → Option (List ℕ)
path_of (faults.Settings path fault) = if is_of_file fault then Some path.now else None
path_of (faults.NoRoom path) = Some path.now
path_of (faults.Engine path fault) = if is_of_journal fault then option_map (λ text. text.now) path else None
path_of _ = None

abbrev pub kind_advice : Option LineKind → Option (List ℕ)
kind_advice (Some Head) = Some (codes "a segment begins here: pool check takes each segment as a file of its own")
kind_advice (Some Request) = Some (codes "this line of a script has no answer: pool run plays a script")
kind_advice (Some Entry) = Some (codes "this line of a journal has an answer: pool check and pool stats take a journal")
kind_advice (Some CarriageReturn) = Some (codes "this line ends with a carriage return and a line feed, and not with a line feed alone")
kind_advice None = None

abbrev pub line_advice : LineFault → Option LineKind → Option (List ℕ)
line_advice lines.LineTooLong _ = Some (codes "a line has at most 256 bytes")
line_advice lines.NotALine kind = kind_advice kind
line_advice lines.BadNumber _ = Some (codes "a number has no leading zero, and a caller is at most 4294967295")
line_advice lines.Truncated _ = Some (codes "the file ends within a line, or within its base")
line_advice lines.OutOfMemory _ = None

-- A settings file that begins with a line of a script or a journal was taken for the other argument.
abbrev pub settings_advice : FileFault → Option LineKind → Option (List ℕ)
settings_advice files.NotUtf8 _ = Some (codes "settings are UTF-8")
settings_advice (files.Text settings.NotToml) (Some CarriageReturn) = None
settings_advice (files.Text settings.NotToml) (Some _) = Some (codes "this is a script or a journal: SETTINGS comes first")
settings_advice _ _ = None

-- the advice for an error and the kind of the line with it
abbrev pub advice_of : Fault → Option LineKind → Option (List ℕ)
advice_of faults.WrongArguments _ = Some (codes "try pool --help")
advice_of faults.WrongNumbers _ = Some (codes "WORKERS is 1 to 1023, and ROUNDS is 1 to 1000000")
advice_of (faults.Settings _ fault) kind = settings_advice fault kind
advice_of (faults.Engine _ (engines.Line _ fault)) kind = line_advice fault kind
advice_of (faults.Engine _ (engines.Full _)) _ = Some (codes "a larger journalLimit in the settings makes room")
advice_of (faults.NoRoom _) _ = Some (codes "a larger journalLimit in the settings makes room")
advice_of (faults.Load loads.JournalFull) _ = Some (codes "a larger journalLimit in the settings makes room")
advice_of _ _ = None

abbrev pub place_lines : Option (List ℕ) → Option ℕ → List ℕ
place_lines None _ = []
place_lines (Some path) None = codes "  in " ++ escaped path ++ 10 ∷ []
place_lines (Some path) (Some line) = codes "  in " ++ escaped path ++ codes ", line " ++ decimal line ++ 10 ∷ []

abbrev pub advice_lines : Option (List ℕ) → List ℕ
advice_lines None = []
advice_lines (Some advice) = codes "  " ++ advice ++ 10 ∷ []

-- the lines, each with its line feed
abbrev pub shown : Hint → List ℕ
shown hint = place_lines (option_map (λ text. text.now) hint.path) hint.line ++ advice_lines (option_map (λ text. text.now) hint.advice)

-- No help is printed unless standard error is a terminal.
abbrev pub hint_of : Bool → Fault → Found → List ℕ
hint_of false _ _ = []
hint_of true fault found = place_lines (path_of fault) found.line ++ advice_lines (advice_of fault found.kind)

-- the file of a verdict
abbrev pub file_hint : Bool → List ℕ → List ℕ
file_hint false _ = []
file_hint true path = place_lines (Some path) None
