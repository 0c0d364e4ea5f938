-- What runs read: an instance, and then times for its events or a certificate that is valid for it.
use Rattle.std.specs.Prelude.{◌≡◌, ℕ, List, Option, Ok, None}
use Rattle.pesp_problem.specs.declared.limits.TheConstants.{MOST_TEXT}
use Rattle.pesp_stream.specs.Reading.{ReadsText}
use Rattle.pesp_problem.specs.Timetables.{Pesp, IsTimetable}
use Rattle.pesp_truth.specs.Certificates.{Content, IsValid}
use Rattle.pesp_cert.specs.Refusals.{IsTextOf}
use Rattle.pesp_report.specs.TimesText.{times_from_text}
pub use Rattle.pesp_check.specs.Checking.{ReadsInstance, RefusesInstance}

-- the bytes that were read, at most MOST_TEXT, and what holds of them
pub record ReadsNext (told left : Option (List ℕ)) (Holds : List ℕ → Type 0) : Type 0 where
  pub text : List ℕ
  pub read : ReadsText told left MOST_TEXT text
  pub holds : Holds text

-- the first text has an instance, and the second one gives what a command begins with, of which this is said
abbrev pub OverBase : {B : Type 0} → (Option (List ℕ) → Option (List ℕ) → Pesp → B → Type 0)
    → Option (List ℕ) → Option (List ℕ) → Option (List ℕ) → Option (List ℕ) → ℕ → (Pesp → B → Type 0) → Type 0
OverBase {B} Reads told left told_base left_base period Holds =
    (p : Pesp) × ReadsInstance told left period p
    × ((base : B) × Reads told_base left_base p base × Holds p base)

-- ---- times

-- the bytes that were read give these times to the instance
abbrev pub ReadsTimes : Option (List ℕ) → Option (List ℕ) → Pesp → List ℕ → Type 0
ReadsTimes told left p times = ReadsNext told left (λ text. times_from_text p text ≡ Ok times)

-- and these are a timetable
abbrev pub GivesTimetable : Option (List ℕ) → Option (List ℕ) → Pesp → List ℕ → Type 0
GivesTimetable told left p times = ReadsTimes told left p times × IsTimetable p times

-- the first text has an instance and the second one a timetable of it, of which this is said
abbrev pub ReadsTimetable : Option (List ℕ) → Option (List ℕ) → Option (List ℕ) → Option (List ℕ) → ℕ → (Pesp → List ℕ → Type 0) → Type 0
ReadsTimetable told left told_times left_times period Holds = OverBase GivesTimetable told left told_times left_times period Holds

-- ---- a certificate

-- the bytes that were read are the text of this certificate
abbrev pub ReadsCertificate : Option (List ℕ) → Option (List ℕ) → Content → Type 0
ReadsCertificate told left certificate = ReadsNext told left (λ text. IsTextOf None text certificate)

-- they are, and it is valid for the instance
abbrev pub ReadsBase : Option (List ℕ) → Option (List ℕ) → Pesp → Content → Type 0
ReadsBase told left p base = ReadsCertificate told left base × IsValid None p base

-- the first text has an instance and the second one a base of it, of which this is said
abbrev pub HasBase : Option (List ℕ) → Option (List ℕ) → Option (List ℕ) → Option (List ℕ) → ℕ → (Pesp → Content → Type 0) → Type 0
HasBase told left told_base left_base period Holds = OverBase ReadsBase told left told_base left_base period Holds
