-- What was told as another fault.
use Rattle.std.proofs.Common.{◌≡◌, ◌⊎◌, inl, inr, ℕ, List, Err}
use Rattle.std.specs.Prelude.{Option}
use Rattle.pesp_stream.specs.Counts.{Calls}
use Rattle.pesp_stream.specs.Reading.{ReadsText}
use Rattle.pesp_problem.specs.Timetables.{Pesp}
use Rattle.pesp_search.specs.Refusals.{MeetsLimit}
use Rattle.pesp_search.specs.Solving.{IsSearchRefusal}
use Rattle.pesp_search.specs.declared.refusal.SolveRefusal.{SolveRefusal}
use Rattle.pesp_search.specs.declared.refusal.SolveRefusal.TheVariants.{Memory as SearchMemory, TableTooLarge, PairsTooMany}
use Rattle.pesp_report.specs.TimesText.{times_from_text}
use Rattle.pesp_report.specs.declared.refusal.TimesRefusal.{TimesRefusal}
use Rattle.pesp_report.specs.declared.refusal.TimesRefusal.TheVariants.{BadLine, WrongCount, Memory as TimesMemory}
use Rattle.pesp_check.specs.declared.fault.VerdictFault.{VerdictFault}
use Rattle.pesp_check.specs.declared.fault.VerdictFault.TheVariants.{Instance, Certificate, Memory, Read, Write, NoFile}
use Rattle.pesp_check.specs.Devices.{Device, over}
use Rattle.pesp_check.specs.Checking as checking
use Rattle.pesp_runs.specs.FaultLines.{verdict_fault, search_fault, times_fault}
use Rattle.pesp_runs.specs.Causes.{InstanceCause, TimesCause, SearchCause, LimitCause}

-- why there is no instance, told as a fault of the runs
pub instance_cause : (fault : VerdictFault) (reader : Device) (period : ℕ)
    → checking.InstanceCause fault reader period → InstanceCause (verdict_fault fault) reader period
instance_cause (Instance refusal) reader period cause = cause
instance_cause (Certificate refusal) reader period cause = cause
instance_cause Memory reader period cause = cause
instance_cause Read reader period cause = cause
instance_cause Write reader period cause = cause
instance_cause NoFile reader period cause = cause

-- a limit that the search passes, or a refusal of memory
pub search_cause : (refusal : SolveRefusal) (p : Pesp) (steps : ℕ) → IsSearchRefusal p steps refusal
    → SearchCause (search_fault refusal) p steps
search_cause SearchMemory p steps refused = tt
search_cause TableTooLarge p steps refused = refused
search_cause PairsTooMany p steps refused = refused

pub limit_cause : (refusal : SolveRefusal) (p : Pesp) (steps : ℕ) → MeetsLimit p steps refusal → LimitCause (search_fault refusal) p steps
limit_cause SearchMemory p steps met = tt
limit_cause TableTooLarge p steps met = met
limit_cause PairsTooMany p steps met = met

-- a refusal of the times' text, or of memory
pub times_cause : (refusal : TimesRefusal) (told left : Option (List ℕ)) (calls after : Calls) (bytes : List ℕ)
    (p : Pesp) → ReadsText told left 1073741824 bytes → (refusal ≡ TimesMemory) ⊎ (times_from_text p bytes ≡ Err refusal)
    → TimesCause (times_fault refusal) (over told left calls after) p
times_cause TimesMemory told left calls after bytes p read first = tt
times_cause (BadLine n) told left calls after bytes p read first =
    elim first [ inl e ↦ cc | inr e ↦ record { text = bytes; read = read; holds = e } ]
times_cause WrongCount told left calls after bytes p read first =
    elim first [ inl e ↦ cc | inr e ↦ record { text = bytes; read = read; holds = e } ]
