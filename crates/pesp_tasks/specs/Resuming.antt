-- What a search writes that goes on from a certificate.
use Rattle.std.specs.Prelude.{ℕ, List, Option, None, Some}
use Rattle.pesp_problem.specs.Timetables.{Pesp}
use Rattle.pesp_truth.specs.Truth.{IsTrueAnswer}
use Rattle.pesp_truth.specs.Certificates.{Content, shown_times, Front as FrontOf}
use Rattle.pesp_cert.specs.Texts.{spelling, HasText}
use Rattle.pesp_cert.specs.Fronted.{Fronted}
use Rattle.pesp_turns.specs.declared.resume_ending.ResumeEnding.{ResumeEnding}
use Rattle.pesp_turns.specs.Resuming.{IsResumed}
use Rattle.pesp_tasks.specs.SharpSolving.{WritesSharpResumed}

-- the writer got what the relation says of the text of a certificate to which a search leads from the base, within so
-- many steps; its answer is true; the search ended before all were used only where nothing is left to split, a limit is
-- met, or it was stopped
pub record WritesResumed (p : Pesp) (base : Content) (steps : ℕ) (stopped : Type 0) (Gets : List ℕ → Type 0) : Type 0 where
  pub used : ℕ
  pub ending : ResumeEnding
  pub certificate : Content
  pub resumed : IsResumed p base steps stopped used ending certificate
  pub is_true : IsTrueAnswer p certificate.answer (shown_times certificate)
  pub has_text : HasText None certificate
  pub written : Gets (spelling None certificate)

-- the same of a base with this front: where it has one, what is written has one too, and a search leads to it within so many
-- steps
abbrev pub GoesOnBy : Option FrontOf → Pesp → Fronted → ℕ → Type 0 → (List ℕ → Type 0) → Type 0
GoesOnBy None p base steps stopped Gets = WritesResumed p base.content steps stopped Gets
GoesOnBy (Some marks) p base steps stopped Gets = WritesSharpResumed p base steps Gets

-- the same of a base that may have a front
abbrev pub WritesGoneOn : Pesp → Fronted → ℕ → Type 0 → (List ℕ → Type 0) → Type 0
WritesGoneOn p base steps stopped Gets = GoesOnBy base.front p base steps stopped Gets
