-- Each fault's line and exit status.
use Rattle.std.specs.Prelude.{ℕ, List, ◌++◌, codes}
use Rattle.pesp_stream.specs.declared.read_loop.ReadFault.{ReadFault}
use Rattle.pesp_stream.specs.declared.read_loop.ReadFault.TheVariants.{Memory as ReadMemory, Device}
use Rattle.pesp_cert.specs.declared.refusal.CertRefusal.{CertRefusal}
use Rattle.pesp_cert.specs.declared.refusal.CertRefusal.TheVariants.{Memory as CertMemory}
use Rattle.pesp_search.specs.declared.refusal.SolveRefusal.{SolveRefusal}
use Rattle.pesp_search.specs.declared.refusal.SolveRefusal.TheVariants.{Memory as SearchMemory, TableTooLarge, PairsTooMany}
use Rattle.pesp_report.specs.declared.names_refusal.NamesRefusal.{NamesRefusal}
use Rattle.pesp_report.specs.declared.names_refusal.NamesRefusal.TheVariants.{Memory as NamesMemory}
use Rattle.pesp_report.specs.declared.refusal.TimesRefusal.{TimesRefusal}
use Rattle.pesp_report.specs.declared.refusal.TimesRefusal.TheVariants.{Memory as TimesMemory}
use Rattle.pesp_report.specs.declared.refusal.ReportRefusal.{ReportRefusal}
use Rattle.pesp_report.specs.declared.refusal.ReportRefusal.TheVariants.{NotTimes, Memory as ReportMemory, Write as ReportWrite}
use Rattle.pesp_check.specs.Verdicts.{refusal_text}
use Rattle.pesp_instance.specs.RefusalLines.{instance_line}
use Rattle.pesp_cert.specs.RefusalLines.{certificate_line}
use Rattle.pesp_report.specs.NamesRefusalLines.{names_line}
use Rattle.pesp_report.specs.RefusalLines.{times_line, report_line}
use Rattle.pesp_check.specs.declared.fault.VerdictFault.{VerdictFault}
use Rattle.pesp_check.specs.declared.fault.VerdictFault.TheVariants.{Instance as OfInstance, Certificate as OfCertificate, Memory as OfMemory, Read as OfRead, Write as OfWrite, NoFile as OfNoFile}
use Rattle.pesp_report.specs.declared.refusal.ViolationsRefusal.{ViolationsRefusal}
use Rattle.pesp_report.specs.declared.refusal.ViolationsRefusal.TheVariants.{NotTimes as NoTimes, Memory as ViolationsMemory, Write as ViolationsWrite}
use Rattle.pesp_runs.specs.declared.fault.Fault.{Fault}
use Rattle.pesp_runs.specs.declared.fault.Fault.TheVariants.{Instance, Certificate, Times, Names, Search, Report, Base, Works, NoJob, Memory, Read, Write, NoFile}

-- a fault of the checker's run, as a fault of the runs
abbrev pub verdict_fault : VerdictFault → Fault
verdict_fault (OfInstance refusal) = Instance refusal
verdict_fault (OfCertificate refusal) = Certificate refusal
verdict_fault OfMemory = Memory
verdict_fault OfRead = Read
verdict_fault OfWrite = Write
verdict_fault OfNoFile = NoFile

-- a refusal of memory is told as such
abbrev pub certificate_fault : CertRefusal → Fault
certificate_fault CertMemory = Memory
certificate_fault refusal = Certificate refusal

-- why times are refused; memory is told as such
abbrev pub times_fault : TimesRefusal → Fault
times_fault TimesMemory = Memory
times_fault refusal = Times refusal

-- why names are refused; memory is told as such
abbrev pub names_fault : NamesRefusal → Fault
names_fault NamesMemory = Memory
names_fault refusal = Names refusal

-- why a search is refused; memory is told as such
abbrev pub search_fault : SolveRefusal → Fault
search_fault SearchMemory = Memory
search_fault refusal = Search refusal

-- and a writer's fault too
abbrev pub report_fault : ReportRefusal → Fault
report_fault ReportMemory = Memory
report_fault ReportWrite = Write
report_fault refusal = Report refusal

-- why violated activities aren't listed; memory and a writer's fault are told as such
abbrev pub violations_fault : ViolationsRefusal → Fault
violations_fault NoTimes = Report NotTimes
violations_fault ViolationsMemory = Memory
violations_fault ViolationsWrite = Write

-- why a text isn't read to its end, as a fault
abbrev pub read_fault : ReadFault → Fault
read_fault ReadMemory = Memory
read_fault Device = Read

-- number and name of a refusal of the search
abbrev pub search_line : SolveRefusal → List ℕ
search_line SearchMemory = codes "1 Memory"
search_line TableTooLarge = codes "2 TableTooLarge"
search_line PairsTooMany = codes "3 PairsTooMany"

-- the line of a fault, without its line feed
abbrev pub fault_line : Fault → List ℕ
fault_line (Instance refusal) = codes "instance: " ++ instance_line refusal
fault_line (Certificate refusal) = codes "certificate: " ++ certificate_line refusal
fault_line (Times refusal) = codes "times: " ++ times_line refusal
fault_line (Names refusal) = codes "names: " ++ names_line refusal
fault_line (Search refusal) = codes "search: " ++ search_line refusal
fault_line (Report refusal) = codes "report: " ++ report_line refusal
fault_line (Base refusal) = codes "base: " ++ refusal_text refusal
fault_line (Works refusal) = codes "works: " ++ certificate_line refusal
fault_line NoJob = codes "job: none"
fault_line Memory = codes "memory"
fault_line Read = codes "device: read"
fault_line Write = codes "device: write"
fault_line NoFile = codes "device: no file"

-- 1 for times that violate a row and a certificate that is not valid, 3 for a text that is refused and a job that is
-- not there, 4 for memory, devices and a search that passes its limits
abbrev pub exit_status : Fault → ℕ
exit_status (Instance refusal) = 3
exit_status (Certificate refusal) = 3
exit_status (Times refusal) = 3
exit_status (Names refusal) = 3
exit_status (Search refusal) = 4
exit_status (Report refusal) = 1
exit_status (Base refusal) = 1
exit_status (Works refusal) = 3
exit_status NoJob = 3
exit_status Memory = 4
exit_status Read = 4
exit_status Write = 4
exit_status NoFile = 4
