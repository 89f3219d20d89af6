-- The line of an error has no control character.
use Rattle.std.proofs.Common.{refl}
use Rattle.std.specs.Prelude.{IfSome}
use Rattle.pool_settings.specs.Escaped.{IsOnOneLine}
use Rattle.pool_settings.specs.Faults as read
use Rattle.pool_settings.specs.Messages as read_texts
use Rattle.pool_settings.proofs.Escapes.{escaped_on_one_line}
use Rattle.pool_engines.specs.Messages.{file_text}
use Rattle.pool_engines.specs.declared.file_fault.FileFault.{FileFault}
use Rattle.pool_engines.specs.declared.file_fault.FileFault.TheVariants as files
use Rattle.pool_cli.specs.Messages.{text_of}
use Rattle.pool_cli.specs.declared.fault.Fault.{Fault}
use Rattle.pool_cli.specs.declared.fault.Fault.TheVariants as faults

settings_line : (fault : read.Fault) → IsOnOneLine (read_texts.text_of fault)
settings_line read.not_toml = refl
settings_line (read.unknown_key key) = escaped_on_one_line key
settings_line (read.wrong_type key) = escaped_on_one_line key
settings_line (read.out_of_range key) = escaped_on_one_line key
settings_line read.out_of_memory = refl

file_line : (fault : FileFault) → IsOnOneLine (file_text fault)
file_line files.Read = refl
file_line files.OutOfMemory = refl
file_line files.TooLong = refl
file_line files.NotUtf8 = refl
file_line (files.Text fault) = settings_line (read.fault_of fault)

pub fault_line : (fault : Fault) → IfSome (text_of fault) IsOnOneLine
fault_line faults.WrongArguments = refl
fault_line faults.Asked = refl
fault_line faults.WrongNumbers = refl
fault_line (faults.Unopened path) = escaped_on_one_line path.now
fault_line faults.OutOfMemory = refl
fault_line (faults.Settings _ fault) = file_line fault
fault_line (faults.NoRoom _) = refl
fault_line (faults.Engine _ _) = tt
fault_line (faults.Load _) = tt
