-- Why a run has no answer, from what the call that failed says of it, and what it wrote.
use Rattle.std.proofs.Common.{◌≡◌, ◌⊎◌, inl, inr, ℕ, ℤ, List, length, sym, subst}
use Rattle.std.specs.Prelude.{Option}
use Rattle.std.specs.Io.KnownBytes.{Appends}
use Rattle.pesp_stream.specs.Counts.{Calls}
use Rattle.pesp_stream.specs.Writing.{AppendsFront}
use Rattle.pesp_problem.specs.Timetables.{Pesp, AreTimes, IsTimetable}
use Rattle.pesp_report.specs.declared.names_refusal.NamesRefusal.{NamesRefusal}
use Rattle.pesp_report.specs.declared.names_refusal.NamesRefusal.TheVariants.{TextTooLong as NamesTooLong, FieldCount as NamesFieldCount, NotANumber as NamesNotANumber, NotText, Memory as NamesMemory}
use Rattle.pesp_report.specs.Reporting.{Refuses, IfBlamed}
use Rattle.pesp_report.specs.declared.refusal.ReportRefusal.{ReportRefusal}
use Rattle.pesp_report.specs.declared.refusal.ReportRefusal.TheVariants.{Violates, NotTimes, Memory as ReportMemory, Write as ReportWrite}
use Rattle.pesp_report.specs.Violations.{RefusesViolations, IfWriteFailed, violations_of, violations_text}
use Rattle.pesp_report.specs.declared.refusal.ViolationsRefusal.{ViolationsRefusal}
use Rattle.pesp_report.specs.declared.refusal.ViolationsRefusal.TheVariants.{NotTimes as NoTimes, Memory as ViolationsMemory, Write as ViolationsWrite}
use Rattle.pesp_check.specs.Devices.{over}
use Rattle.pesp_runs.specs.FaultLines.{names_fault, report_fault, violations_fault}
use Rattle.pesp_runs.specs.Causes.{RowCause, OutCause}
use Rattle.pesp_report_run.specs.Naming.{NamesCause}
use Rattle.pesp_report_run.specs.Violating.{WritesViolations}

-- a fact that follows from another one, where the writer is blamed
pub blamed : (refusal : ReportRefusal) (A B : Type 0) → (A → B) → IfBlamed refusal A → IfBlamed refusal B
blamed (Violates row) A B follows fact = tt
blamed NotTimes A B follows fact = tt
blamed ReportMemory A B follows fact = tt
blamed ReportWrite A B follows fact = follows fact

-- a refusal of the names' text, or of memory
pub names_cause : (refusal : NamesRefusal) (told left : Option (List ℕ)) (calls after : Calls)
    → NamesCause (names_fault refusal) (over told left calls after)
names_cause NamesTooLong told left calls after = tt
names_cause (NamesFieldCount at) told left calls after = tt
names_cause (NamesNotANumber at) told left calls after = tt
names_cause (NotText at) told left calls after = tt
names_cause NamesMemory told left calls after = tt

-- times that are no timetable, or of which nothing went out whole, for memory or because the writer failed
pub timetable_cause : (refusal : ReportRefusal) (p : Pesp) (times : List ℕ) (Failed Front : Type 0)
    → AreTimes p times → Refuses p times refusal → IfBlamed refusal Failed → IfBlamed refusal Front
    → RowCause (report_fault refusal) p times ⊎ OutCause (report_fault refusal)
    (IsTimetable p times × (Failed × Front))
timetable_cause (Violates row) p times Failed Front are refused failed front = inl refused.1
timetable_cause NotTimes p times Failed Front are refused failed front = absurd (refused are)
timetable_cause ReportMemory p times Failed Front are refused failed front = inr tt
timetable_cause ReportWrite p times Failed Front are refused failed front = inr (refused, (failed, front))

-- violated activities of which nothing went out whole, for memory or because the writer failed
violations_out : (refusal : ViolationsRefusal) (p : Pesp) (times : List ℕ) (Failed Front : Type 0)
    → AreTimes p times → RefusesViolations p times refusal → IfWriteFailed refusal Failed
    → IfWriteFailed refusal Front → OutCause (violations_fault refusal) (AreTimes p times × (Failed × Front))
violations_out NoTimes p times Failed Front are refused failed front = absurd (refused are)
violations_out ViolationsMemory p times Failed Front are refused failed front = tt
violations_out ViolationsWrite p times Failed Front are refused failed front = (are, (failed, front))

-- the same of times that are these ones
pub violations_cause : (refusal : ViolationsRefusal) (p : Pesp) (told times : List ℕ) (naming : Option (ℤ → List ℕ))
    (old new : Option (List ℕ)) (Failed : Type 0) → told ≡ times → AreTimes p times → RefusesViolations p told refusal
    → IfWriteFailed refusal Failed → IfWriteFailed refusal
    (AppendsFront old new (violations_text naming (violations_of p told)))
    → OutCause (violations_fault refusal) (AreTimes p times × (Failed × AppendsFront old new (violations_text naming (violations_of p times))))
violations_cause refusal p told times naming old new Failed same are refused failed front =
    subst (λ (ts : List ℕ). OutCause (violations_fault refusal)
    (AreTimes p ts × (Failed × AppendsFront old new (violations_text naming (violations_of p ts))))) same
    (violations_out refusal p told Failed (AppendsFront old new (violations_text naming (violations_of p told)))
    (subst (λ (ts : List ℕ). AreTimes p ts) (sym same) are) refused failed front)

-- violated activities of times that are these ones were counted and written
pub violations_told : (p : Pesp) (told times : List ℕ) (naming : Option (ℤ → List ℕ)) (count : ℕ) (old new : Option (List ℕ)) → told ≡ times
    → count ≡ length (violations_of p told) → Appends old new (violations_text naming (violations_of p told))
    → WritesViolations p times naming count (Appends old new)
violations_told p told times naming count old new same counted written =
    subst (λ (ts : List ℕ). WritesViolations p ts naming count (Appends old new)) same (counted, written)
