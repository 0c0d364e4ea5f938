-- When names can't be read.
use Rattle.pesp_check.specs.Devices.{Device, HasFailed}
use Rattle.pesp_runs.specs.declared.fault.Fault.{Fault}
use Rattle.pesp_runs.specs.declared.fault.Fault.TheVariants.{Names, Memory, Read}

-- why there are no names: their text, of which nothing is said, memory, or the reader's device
abbrev pub NamesCause : Fault → Device → Type 0
NamesCause (Names refusal) reader = Unit {0}
NamesCause Memory reader = Unit {0}
NamesCause Read reader = HasFailed reader
NamesCause fault reader = ⊥
