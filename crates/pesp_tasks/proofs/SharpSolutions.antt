-- What is written of certificates that may have a front.
use Rattle.std.proofs.Common.{◌≡◌, ℕ, List, subst}
use Rattle.pesp_problem.specs.Timetables.{Pesp}
use Rattle.pesp_truth.specs.Truth.{IsTrueAnswer}
use Rattle.pesp_truth.specs.Certificates.{shown_times}
use Rattle.pesp_cert.specs.Fronted.{Fronted, IsFrontedText, fronted_text}
use Rattle.pesp_search.specs.Solving.{CostsNoMore}
use Rattle.pesp_sharp_search.specs.Solving.{IsSharpSolved}
use Rattle.pesp_sharp_work.specs.Grafts.{IsSharpGrafted}
use Rattle.pesp_sharp_work.specs.declared.sharp_graft.SharpReply.{SharpReply}
use Rattle.pesp_tasks.specs.Replies.{lines_from}
use Rattle.pesp_runs.specs.Fronts.{WritesFronted}
use Rattle.pesp_tasks.specs.SharpSolving.{WritesSharpSolution}
use Rattle.pesp_tasks.specs.SharpOutside.{WritesSharpGraft}

-- a solution was found, and the writer got what is said of its text
pub solution : {p : Pesp} {times : List ℕ} {steps : ℕ} {certificate : Fronted} {Gets : List ℕ → Type 0} (used : ℕ)
    → IsSharpSolved p steps used certificate → CostsNoMore p times certificate.content
    → IsTrueAnswer p certificate.content.answer (shown_times certificate.content)
    → IsFrontedText (fronted_text certificate) certificate → Gets (fronted_text certificate) → WritesSharpSolution p times steps Gets
solution {certificate = certificate} used solved improved is_true has_text gets = record {
  used = used;
  certificate = certificate;
  solved = solved;
  improved = improved;
  is_true = is_true;
  has_text = has_text;
  written = gets;
}

-- a certificate was found, and the writer got what is said of its text
pub written : {p : Pesp} {Holds : Fronted → Type 0} {certificate : Fronted} {Gets : List ℕ → Type 0}
    → Holds certificate → IsTrueAnswer p certificate.content.answer (shown_times certificate.content)
    → IsFrontedText (fronted_text certificate) certificate → Gets (fronted_text certificate) → WritesFronted p Holds Gets
written {certificate = certificate} holds is_true has_text gets = record {
  certificate = certificate;
  holds = holds;
  is_true = is_true;
  has_text = has_text;
  written = gets;
}

-- works were grafted, and the writers got what is said of the certificate's text and of the works' lines
pub graft : {p : Pesp} {base certificate : Fronted} {works : List ℕ} {Gets Tells : List ℕ → Type 0}
    (replies : List SharpReply) (lines : List ℕ) → lines ≡ lines_from 1 replies
    → IsSharpGrafted p base works replies certificate
    → IsTrueAnswer p certificate.content.answer (shown_times certificate.content)
    → IsFrontedText (fronted_text certificate) certificate → Gets (fronted_text certificate)
    → Tells lines → WritesSharpGraft p base works Gets Tells
graft {Tells = Tells} replies lines are grafted is_true has_text gets tells = record {
  replies = replies;
  grafted = written grafted is_true has_text gets;
  told = subst Tells are tells;
}
