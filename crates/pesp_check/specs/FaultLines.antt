-- The lines of faults of the checker's run, and the exit statuses.
use Rattle.std.specs.Prelude.{ℕ, List, ◌++◌, codes}
use Rattle.pesp_instance.specs.declared.refusal.ReadRefusal.{ReadRefusal}
use Rattle.pesp_instance.specs.declared.refusal.ReadRefusal.TheVariants.{Memory as NoMemory}
use Rattle.pesp_instance.specs.RefusalLines.{instance_line}
use Rattle.pesp_cert.specs.RefusalLines.{certificate_line}
use Rattle.pesp_check.specs.declared.check_fault.CheckFault.{CheckFault}
use Rattle.pesp_check.specs.declared.check_fault.CheckFault.TheVariants.{Text, Read as CheckRead, Memory as CheckMemory}
use Rattle.pesp_stream.specs.declared.read_loop.ReadFault.{ReadFault}
use Rattle.pesp_stream.specs.declared.read_loop.ReadFault.TheVariants.{Memory as ReadMemory, Device}
use Rattle.pesp_check.specs.declared.fault.VerdictFault.{VerdictFault}
use Rattle.pesp_check.specs.declared.fault.VerdictFault.TheVariants.{Instance, Certificate, Memory, Read, Write, NoFile}

-- a refusal of memory is told as such
abbrev pub instance_fault : ReadRefusal → VerdictFault
instance_fault NoMemory = Memory
instance_fault refusal = Instance refusal

-- why a text has no verdict, as a fault of the checker's run
abbrev pub check_fault : CheckFault → VerdictFault
check_fault (Text refusal) = Certificate refusal
check_fault CheckRead = Read
check_fault CheckMemory = Memory

-- why a text isn't read to its end, as such a fault
abbrev pub read_fault : ReadFault → VerdictFault
read_fault ReadMemory = Memory
read_fault Device = Read

-- the line of a fault, without its line feed
abbrev pub verdict_fault_line : VerdictFault → List ℕ
verdict_fault_line (Instance refusal) = codes "instance: " ++ instance_line refusal
verdict_fault_line (Certificate refusal) = codes "certificate: " ++ certificate_line refusal
verdict_fault_line Memory = codes "memory"
verdict_fault_line Read = codes "device: read"
verdict_fault_line Write = codes "device: write"
verdict_fault_line NoFile = codes "device: no file"

-- 3 for a text that is refused, 4 for memory and devices
abbrev pub verdict_exit_status : VerdictFault → ℕ
verdict_exit_status (Instance refusal) = 3
verdict_exit_status (Certificate refusal) = 3
verdict_exit_status Memory = 4
verdict_exit_status Read = 4
verdict_exit_status Write = 4
verdict_exit_status NoFile = 4
