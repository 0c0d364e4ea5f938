-- What is known while rows are left out.
use Rattle.std.specs.Prelude.{◌≡◌, ⊤, ℕ, ◌<◌, List, All, Contains, filter, eqb, not, true, None}
use Rattle.std.specs.List.{list_any}
use Rattle.pesp_problem.specs.Timetables.{Pesp, IsTimetable}
use Rattle.pesp_truth.specs.declared.answer.Answer.TheVariants.{Bounded}
use Rattle.pesp_truth.specs.Certificates.{Content, IsValid}
use Rattle.pesp_truth.specs.Conflicts.{KeepsRows, AreInConflict, IsNeeded, only_rows}
use Rattle.pesp_conflict.specs.Findings.{IsConflict, IsUndecided, AreFit}
use Rattle.pesp_conflict.specs.declared.finding.Conflict.{Conflict}
use Rattle.pesp_conflict.specs.declared.decision.Decision.{Decision}
use Rattle.pesp_conflict.specs.declared.decision.Decision.TheVariants as decisions
use Rattle.pesp_conflict.specs.declared.attempts.Trial.{Trial}
use Rattle.pesp_conflict.specs.declared.attempts.Trial.TheVariants as trials
use Rattle.pesp_conflict.specs.declared.known.Known.{Known}

-- the certificate is valid for the instance that has the listed rows alone
pub record IsToldBy (p : Pesp) (listed : List ℕ) (content : Content) : Type 0 where
  pub some_period : 0 < p.period
  pub fit : AreFit p listed
  pub valid : IsValid None (only_rows p listed) content

-- some of the listed rows, which are in conflict
abbrev pub IsPart : Pesp → List ℕ → List ℕ → Type 0
IsPart p listed rows = AreInConflict p rows × All (Contains listed) rows

-- the answer is open without a cost
abbrev pub IsOpenWithout : Content → Type 0
IsOpenWithout content = (least : ℕ) × (content.answer ≡ Bounded least None)

-- some of the listed rows that are in conflict, or times that keep the listed rows; else this is said
abbrev pub IsDecision : Pesp → List ℕ → Type 0 → Decision → Type 0
IsDecision p listed unknown (decisions.Conflict rows) = IsConflict p rows.items × All (Contains listed) rows.items
IsDecision p listed unknown decisions.Timetable = (times : List ℕ) × KeepsRows p listed times
IsDecision p listed unknown decisions.Undecided = unknown

-- a listed row that is needed, or some of the listed rows that are in conflict
abbrev pub IsTrial : Pesp → List ℕ → Trial → Type 0
IsTrial p listed (trials.Needed row) = IsNeeded p listed row
IsTrial p listed (trials.Fewer rows) = IsConflict p rows.items × All (Contains listed) rows.items
IsTrial p listed trials.Unknown = ⊤

-- a conflict, and rows that are needed in it
abbrev pub ConflictIsKnown : Pesp → Known → Type 0
ConflictIsKnown p known = IsConflict p known.listed.items × All (IsNeeded p known.listed.items) known.needed.items

-- a conflict that is said to be needed whole only where it is
abbrev pub IsShown : Pesp → Conflict → Type 0
IsShown p found = IsConflict p found.rows.items × (found.each_needed ≡ true → All (IsNeeded p found.rows.items) found.rows.items)

-- rows that are in conflict, or a timetable of the instance, or a search that used all its steps
abbrev pub IsFirstDecision : Pesp → ℕ → Decision → Type 0
IsFirstDecision p steps (decisions.Conflict rows) = IsConflict p rows.items
IsFirstDecision p steps decisions.Timetable = (times : List ℕ) × IsTimetable p times
IsFirstDecision p steps decisions.Undecided = IsUndecided p steps

-- the listed numbers that aren't among some others
abbrev pub rest_of : List ℕ → List ℕ → List ℕ
rest_of listed others = filter (λ row. not (list_any (λ other. eqb other row) others)) listed
