-- What is written of a search.
use Rattle.std.proofs.Common.{ℕ, ◌≤◌, List, None}
use Rattle.pesp_problem.specs.Timetables.{Pesp}
use Rattle.pesp_truth.specs.Certificates.{Content}
use Rattle.pesp_truth.proofs.Certificates.{valid_is_true}
use Rattle.pesp_cert.specs.Texts.{spelling, HasText}
use Rattle.pesp_search.specs.Solving.{IsSolved, CostsNoMore}
use Rattle.pesp_tasks.specs.Solving.{WritesSolution}

-- a solution was found, and the writer got what is said of its text
pub solution : {p : Pesp} {times : List ℕ} {steps : ℕ} {certificate : Content} {Gets : List ℕ → Type 0} (used : ℕ)
    → 1 ≤ p.period → IsSolved p steps used certificate → CostsNoMore p times certificate → HasText None certificate
    → Gets (spelling None certificate) → WritesSolution p times steps Gets
solution {p} {certificate = certificate} used some solved improved has_text gets = record {
  used = used;
  certificate = certificate;
  solved = solved;
  improved = improved;
  is_true = valid_is_true None p certificate some solved.valid;
  has_text = has_text;
  written = gets;
}
