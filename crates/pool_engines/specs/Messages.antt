-- The message for a settings file without settings.
use Rattle.std.specs.Prelude.{ℕ, List, ◌++◌, codes}
use Rattle.pool_settings.specs.Faults.{fault_of}
use Rattle.pool_settings.specs.Messages.{text_of}
use Rattle.pool_engines.specs.declared.file_fault.FileFault.{FileFault}
use Rattle.pool_engines.specs.declared.file_fault.FileFault.TheVariants.{Read, OutOfMemory, TooLong, NotUtf8, Text}

abbrev pub file_text : FileFault → List ℕ
file_text Read = codes "pool: read failed"
file_text OutOfMemory = codes "pool: out of memory"
file_text TooLong = codes "pool: settings: too long"
file_text NotUtf8 = codes "pool: settings: not TOML"
file_text (Text fault) = codes "pool: " ++ text_of (fault_of fault)
