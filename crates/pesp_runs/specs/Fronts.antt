-- What is written of a certificate that may have a front.
use Rattle.std.specs.Prelude.{ℕ, List}
use Rattle.pesp_problem.specs.Timetables.{Pesp}
use Rattle.pesp_truth.specs.Truth.{IsTrueAnswer}
use Rattle.pesp_truth.specs.Certificates.{shown_times}
use Rattle.pesp_cert.specs.Fronted.{Fronted, IsFrontedText, fronted_text}

-- the writer got what the relation says of the text of a certificate with its front, of which this is said; its answer is true
pub record WritesFronted (p : Pesp) (Holds : Fronted → Type 0) (Gets : List ℕ → Type 0) : Type 0 where
  pub certificate : Fronted
  pub holds : Holds certificate
  pub is_true : IsTrueAnswer p certificate.content.answer (shown_times certificate.content)
  pub has_text : IsFrontedText (fronted_text certificate) certificate
  pub written : Gets (fronted_text certificate)
