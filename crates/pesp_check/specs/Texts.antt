-- What a check of a text says of the bytes that a reader gives.
use Rattle.std.specs.Prelude.{◌≡◌, ◌↔◌, ℕ, true, List, Option}
use Rattle.pesp_problem.specs.declared.limits.TheConstants.{MOST_TEXT}
use Rattle.pesp_stream.specs.Reading.{ReadsText}
use Rattle.pesp_problem.specs.Timetables.{Pesp}
use Rattle.pesp_cert_lines.specs.declared.versions.Versions.{Versions}
use Rattle.pesp_truth.specs.declared.answer.Answer.{Answer}
use Rattle.pesp_truth.specs.Certificates.{Front, IsValid, Content, shown_times}
use Rattle.pesp_truth.specs.Truth.{IsTrueAnswer}
use Rattle.pesp_cert.specs.Texts.{takes}
use Rattle.pesp_cert.specs.Refusals.{IsTextOf}
use Rattle.pesp_cert_items.specs.Texts.{RefusesText}
use Rattle.pesp_judges.specs.declared.refusal.Verdict.{Verdict}
use Rattle.pesp_judges.specs.declared.refusal.Verdict.TheVariants.{Accepted}
use Rattle.pesp_judges.specs.Faults.{IsVerdict}
use Rattle.pesp_check.specs.declared.check_fault.CheckFault.{CheckFault}
use Rattle.pesp_check.specs.declared.check_fault.CheckFault.TheVariants.{Text, Read, Memory}

-- the bytes that were read are a certificate's text, with a front or without where these versions are taken, the answer is its
-- answer, and the verdict is the checker's: accepted is exactly what is valid, and its answer is true then
pub record ChecksText (versions : Versions) (told told' : Option (List ℕ)) (p : Pesp) (verdict : Verdict) (answer : Answer) : Type 0 where
  pub text : List ℕ
  pub front : Option Front
  pub content : Content
  pub read : ReadsText told told' MOST_TEXT text
  pub taken : takes versions front ≡ true
  pub spelt : IsTextOf front text content
  pub answer_is : answer ≡ content.answer
  pub said : IsVerdict front p content verdict
  pub exactly : (verdict ≡ Accepted) ↔ IsValid front p content
  pub truth : verdict ≡ Accepted → IsTrueAnswer p answer (shown_times content)

-- a text is refused by its first fault, whatever stands behind what was read of it; a device is blamed only where it failed
abbrev pub Faults : Versions → CheckFault → Option (List ℕ) → Option (List ℕ) → Type 0 → Type 0
Faults versions (Text r) told told' failed = RefusesText versions told told' MOST_TEXT r
Faults versions Read told told' failed = failed
Faults versions Memory told told' failed = Unit {0}
