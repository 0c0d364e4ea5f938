-- What searches write that sharpen leaves by marked walks.
use Rattle.std.specs.Prelude.{ℕ, List, Option}
use Rattle.pesp_problem.specs.Timetables.{Pesp}
use Rattle.pesp_truth.specs.Truth.{IsTrueAnswer}
use Rattle.pesp_truth.specs.Certificates.{shown_times}
use Rattle.pesp_cert.specs.Fronted.{Fronted, IsFrontedText, fronted_text}
use Rattle.pesp_search.specs.Solving.{CostsNoMore}
use Rattle.pesp_sharp_search.specs.Solving.{IsSharpSolved, IsSharpResumed}
use Rattle.pesp_runs.specs.Bases.{ReadsSharpBase}
use Rattle.pesp_runs.specs.Runs.{Alone, OverBase}
use Rattle.pesp_runs.specs.Fronts.{WritesFronted}

-- the writer got what the relation says of the text of a certificate with its front that solves the instance within so
-- many steps, from these times where there are some; its answer is true, and it costs no more than they do where they
-- are a timetable
pub record WritesSharpSolution (p : Pesp) (times : List ℕ) (steps : ℕ) (Gets : List ℕ → Type 0) : Type 0 where
  pub used : ℕ
  pub certificate : Fronted
  pub solved : IsSharpSolved p steps used certificate
  pub improved : CostsNoMore p times certificate.content
  pub is_true : IsTrueAnswer p certificate.content.answer (shown_times certificate.content)
  pub has_text : IsFrontedText (fronted_text certificate) certificate
  pub written : Gets (fronted_text certificate)

-- the reader's text has an instance, and a solution of it is written
abbrev pub SolvesSharp : Option (List ℕ) → Option (List ℕ) → ℕ → ℕ → (List ℕ → Type 0) → Type 0
SolvesSharp told left period steps Gets = Alone (λ p times Gets. WritesSharpSolution p times steps Gets) told left period Gets

-- a search leads to it from the base, within so many steps
abbrev pub WritesSharpResumed : Pesp → Fronted → ℕ → (List ℕ → Type 0) → Type 0
WritesSharpResumed p base steps Gets = WritesFronted p (IsSharpResumed p base steps) Gets

-- the first text has an instance, the second one a base of it, and what the search leads to from there is written
abbrev pub ResumesSharp : Option (List ℕ) → Option (List ℕ) → Option (List ℕ) → Option (List ℕ) → ℕ → ℕ → (List ℕ → Type 0) → Type 0
ResumesSharp told left told_base left_base period steps Gets =
    OverBase ReadsSharpBase told left told_base left_base period (λ p base. WritesSharpResumed p base steps Gets)
