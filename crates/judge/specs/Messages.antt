-- The line that is printed for an error, and the exit status of the program.
use Rattle.std.specs.Prelude.{ℕ, List, [], ◌++◌, codes, decimal}
use Rattle.pool_settings.specs.Escaped.{escaped}
use Rattle.pool_settings.specs.Faults.{fault_of}
use Rattle.pool_settings.specs.Messages as settings
use Rattle.pool_journal.specs.declared.fault.LineFault.{LineFault}
use Rattle.pool_journal.specs.declared.fault.LineFault.TheVariants as lines
use Rattle.pool_core.specs.declared.base_fault.BaseFault.{BaseFault}
use Rattle.pool_core.specs.declared.base_fault.BaseFault.TheVariants as bases
use Rattle.pool_engines.specs.declared.file_fault.FileFault.{FileFault}
use Rattle.pool_engines.specs.declared.file_fault.FileFault.TheVariants as files
use Rattle.pool_engines.specs.declared.engine_fault.EngineFault.{EngineFault}
use Rattle.pool_engines.specs.declared.engine_fault.EngineFault.TheVariants as engines
use Rattle.pool_engines.specs.declared.segment_fault.SegmentFault.{SegmentFault}
use Rattle.pool_engines.specs.declared.segment_fault.SegmentFault.TheVariants as segments
use Rattle.judge.specs.declared.error.JudgeError.{JudgeError}
use Rattle.judge.specs.declared.error.JudgeError.TheVariants.{WrongArguments, Unopened, Settings, Segment, NoSettings, NoSegments, NoStart, NoPosition, NotABase, Damaged, NoZero, NotLegal, NotWritten, OutOfMemory}

abbrev pub line_text : LineFault → List ℕ
line_text lines.LineTooLong = codes "line too long"
line_text lines.NotALine = codes "not a line"
line_text lines.BadNumber = codes "bad number"
line_text lines.Truncated = codes "truncated"
line_text lines.OutOfMemory = codes "out of memory"

-- Lines are counted from 1.
abbrev pub engine_text : EngineFault → List ℕ
engine_text (engines.Line number fault) = codes "line " ++ decimal number ++ codes ": " ++ line_text fault
engine_text (engines.Full number) = codes "line " ++ decimal number ++ codes ": journal full"
engine_text engines.OutOfMemory = codes "out of memory"
engine_text engines.Read = codes "read failed"
engine_text engines.Write = codes "write failed"

abbrev pub base_text : BaseFault → List ℕ
base_text bases.NotABase = codes "not a base"
base_text bases.WrongValues = codes "wrong values"
base_text bases.NoRoom = codes "no room"
base_text bases.OutOfMemory = codes "out of memory"

-- The position of an entry with a wrong answer is counted from 0 in the whole history.
abbrev pub segment_text : SegmentFault → List ℕ
segment_text (segments.Base fault) = codes "base: " ++ base_text fault
segment_text (segments.Illegal position) = codes "illegal " ++ decimal position
segment_text segments.Unopened = codes "cannot open"
segment_text (segments.Engine fault) = engine_text fault

abbrev pub settings_text : FileFault → List ℕ
settings_text files.Read = codes "read failed"
settings_text files.OutOfMemory = codes "out of memory"
settings_text files.TooLong = codes "settings: too long"
settings_text files.NotUtf8 = codes "settings: not TOML"
settings_text (files.Text fault) = settings.text_of (fault_of fault)

-- what a file or a folder lacks
abbrev pub lack_of : JudgeError → List ℕ
lack_of (NoSettings _) = codes "no settings.toml"
lack_of (NoSegments _) = codes "no segments"
lack_of (NoStart _) = codes "no settings.toml, and no folder with one"
lack_of (NoPosition _) = codes "no position in the name"
lack_of (NotABase _) = codes "not a base"
lack_of (Damaged _) = codes "what it reached is not one base"
lack_of (NoZero _) = codes "no time of day in start.toml"
lack_of _ = []

-- the line without its line feed
abbrev pub text_of : JudgeError → List ℕ
text_of WrongArguments = codes "judge: wrong arguments, try judge --help"
text_of (Unopened path) = codes "judge: cannot open " ++ escaped path.now
text_of (Settings path fault) = codes "judge: " ++ escaped path.now ++ codes ": " ++ settings_text fault
text_of (Segment path fault) = codes "judge: " ++ escaped path.now ++ codes ": " ++ segment_text fault
text_of (NotLegal path verdict) = codes "judge: " ++ escaped path.now ++ codes ": " ++ verdict.now
text_of NotWritten = codes "judge: write failed"
text_of OutOfMemory = codes "judge: out of memory"
text_of (NoSettings path) = codes "judge: " ++ escaped path.now ++ codes ": " ++ lack_of (NoSettings path)
text_of (NoSegments path) = codes "judge: " ++ escaped path.now ++ codes ": " ++ lack_of (NoSegments path)
text_of (NoStart path) = codes "judge: " ++ escaped path.now ++ codes ": " ++ lack_of (NoStart path)
text_of (NoPosition path) = codes "judge: " ++ escaped path.now ++ codes ": " ++ lack_of (NoPosition path)
text_of (NotABase path) = codes "judge: " ++ escaped path.now ++ codes ": " ++ lack_of (NotABase path)
text_of (Damaged path) = codes "judge: " ++ escaped path.now ++ codes ": " ++ lack_of (Damaged path)
text_of (NoZero path) = codes "judge: " ++ escaped path.now ++ codes ": " ++ lack_of (NoZero path)

-- 1 if the segment is not legal, 2 for wrong arguments, and 3 for every other error
abbrev pub status_of : JudgeError → ℕ
status_of WrongArguments = 2
status_of (NotLegal _ _) = 1
status_of (Segment _ (segments.Illegal _)) = 1
status_of (Segment _ (segments.Base bases.NotABase)) = 1
status_of _ = 3
