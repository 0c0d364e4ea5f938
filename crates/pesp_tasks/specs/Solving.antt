-- What a search writes, and when it tells which fault.
use Rattle.std.specs.Prelude.{◌⊎◌, ℕ, List, [], Option, None}
use Rattle.pesp_problem.specs.Timetables.{Pesp}
use Rattle.pesp_truth.specs.Truth.{IsTrueAnswer}
use Rattle.pesp_truth.specs.Certificates.{Content, shown_times}
use Rattle.pesp_cert.specs.Texts.{spelling, HasText}
use Rattle.pesp_search.specs.Solving.{IsSolved, CostsNoMore}
use Rattle.pesp_check.specs.Devices.{Device, HasFailed, GetsFront}
use Rattle.pesp_runs.specs.Reading.{ReadsInstance}
use Rattle.pesp_runs.specs.Causes.{InstanceCause, SolutionStops}
use Rattle.pesp_runs.specs.declared.fault.Fault.{Fault}

-- the writer got what the relation says of the text of a certificate that solves the instance within so many steps,
-- from these times where there are some; its answer is true, and it costs no more than they do where they are a
-- timetable
pub record WritesSolution (p : Pesp) (times : List ℕ) (steps : ℕ) (Gets : List ℕ → Type 0) : Type 0 where
  pub used : ℕ
  pub certificate : Content
  pub solved : IsSolved p steps used certificate
  pub improved : CostsNoMore p times certificate
  pub is_true : IsTrueAnswer p certificate.answer (shown_times certificate)
  pub has_text : HasText None certificate
  pub written : Gets (spelling None certificate)

-- the reader's text has an instance, and a solution of it is written
abbrev pub Solves : Option (List ℕ) → Option (List ℕ) → ℕ → ℕ → (List ℕ → Type 0) → Type 0
Solves told left period steps Gets = (p : Pesp) × ReadsInstance told left period p × WritesSolution p [] steps Gets

-- each fault of `solve` and its cause, in the order of what is read, found and written
abbrev pub SolveCause : Fault → Device → Device → ℕ → ℕ → Type 0
SolveCause fault reader writer period steps =
    InstanceCause fault reader period
    ⊎ ((p : Pesp) × ReadsInstance reader.old reader.new period p
    × SolutionStops fault p steps (HasFailed writer × WritesSolution p [] steps (GetsFront writer)))
