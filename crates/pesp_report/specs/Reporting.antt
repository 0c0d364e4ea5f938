-- What a call that writes a report may answer.
use Rattle.std.specs.Prelude.{ℕ, List}
use Rattle.pesp_problem.specs.Timetables.{Pesp, AreTimes, IsTimetable}
use Rattle.pesp_problem.specs.Scores.{IsFirstViolated}
use Rattle.pesp_report.specs.declared.refusal.ReportRefusal.{ReportRefusal}
use Rattle.pesp_report.specs.declared.refusal.ReportRefusal.TheVariants.{Violates, NotTimes, Memory, Write}

-- what a refusal says of the times: there is a report of a timetable alone
abbrev pub Refuses : Pesp → List ℕ → ReportRefusal → Type 0
Refuses p times (Violates row) = AreTimes p times × IsFirstViolated p times row
Refuses p times NotTimes = AreTimes p times → ⊥
Refuses p times Memory = IsTimetable p times
Refuses p times Write = IsTimetable p times

-- what a refusal says of the times where neither memory nor a writer is asked for
abbrev pub RefusesTimes : Pesp → List ℕ → ReportRefusal → Type 0
RefusesTimes p times (Violates row) = AreTimes p times × IsFirstViolated p times row
RefusesTimes p times NotTimes = AreTimes p times → ⊥
RefusesTimes p times Memory = ⊥
RefusesTimes p times Write = ⊥

-- a fact that holds where the writer is blamed
abbrev pub IfBlamed : ReportRefusal → Type 0 → Type 0
IfBlamed (Violates row) fact = Unit {0}
IfBlamed NotTimes fact = Unit {0}
IfBlamed Memory fact = Unit {0}
IfBlamed Write fact = fact

-- a fact that holds at every other refusal
abbrev pub UnlessBlamed : ReportRefusal → Type 0 → Type 0
UnlessBlamed (Violates row) fact = fact
UnlessBlamed NotTimes fact = fact
UnlessBlamed Memory fact = fact
UnlessBlamed Write fact = Unit {0}
