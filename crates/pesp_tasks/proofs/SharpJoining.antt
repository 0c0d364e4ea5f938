-- What is sharpened is accepted, and what is gone on from so.
use Rattle.std.proofs.Common.{◌≡◌, ℕ, List, ◌++◌, Some, None}
use Rattle.std.specs.Prelude.{Option, ⊤}
use Rattle.std.specs.Io.KnownBytes.{Appends}
use Rattle.pesp_problem.specs.Timetables.{Pesp}
use Rattle.pesp_judges.specs.declared.refusal.Verdict.{Verdict}
use Rattle.pesp_judges.specs.declared.refusal.Verdict.TheVariants.{Accepted}
use Rattle.pesp_truth.specs.Certificates.{IsValid, Front as FrontOf}
use Rattle.pesp_cert.specs.Fronted.{Fronted, IsFrontedText, fronted_text}
use Rattle.pesp_cert_lines.specs.declared.versions.Versions.TheVariants.{All}
use Rattle.pesp_check.specs.Checking.{Checks, ReadsInstance}
use Rattle.pesp_runs.specs.Reading.{ReadsTimetable}
use Rattle.pesp_runs.specs.Bases.{ReadsSharpBase}
use Rattle.pesp_runs.specs.Runs.{OverBase, OverWorks}
use Rattle.pesp_tasks.specs.Resuming.{GoesOnBy, WritesGoneOn}
use Rattle.pesp_tasks.specs.SharpSolving.{SolvesSharp, ResumesSharp, WritesSharpSolution}
use Rattle.pesp_tasks.specs.SharpOutside.{WritesSharpWork, WritesSharpGraft}
use Rattle.pesp_tasks.proofs.Joining.{accepts_written}

-- a certificate that is valid for the instance of a text with its marked walks is accepted for it, where its text was appended
accepts_fronted : (text before bytes : List ℕ) (left left_instance left_certificate old new : Option (List ℕ)) (period : ℕ)
    (verdict : Verdict) (p : Pesp) (c : Fronted) → ReadsInstance (Some text) left period p → IsValid c.front p c.content
    → IsFrontedText (fronted_text c) c → Appends (Some before) (Some (before ++ bytes)) (fronted_text c)
    → Checks All (Some text) left_instance (Some bytes) left_certificate period verdict (Appends old new)
    → verdict ≡ Accepted
accepts_fronted text before bytes left left_instance left_certificate old new period verdict p c read valid has_text gets checked =
    accepts_written All text before bytes left left_instance left_certificate old new period verdict p c.front c.content read valid
    has_text.has_text gets checked

pub accepts_what_is_sharpened : (text before bytes : List ℕ)
    (left left_instance left_certificate old new : Option (List ℕ)) (period steps : ℕ) (verdict : Verdict)
    → SolvesSharp (Some text) left period steps (Appends (Some before) (Some (before ++ bytes)))
    → Checks All (Some text) left_instance (Some bytes) left_certificate period verdict (Appends old new)
    → verdict ≡ Accepted
accepts_what_is_sharpened text before bytes left left_instance left_certificate old new period steps verdict (p, read, solved) =
    accepts_fronted text before bytes left left_instance left_certificate old new period verdict p solved.certificate read
    solved.solved.valid solved.has_text solved.written

pub accepts_from_times : (text before bytes : List ℕ)
    (left times left_times left_instance left_certificate old new : Option (List ℕ)) (period steps : ℕ) (verdict : Verdict)
    → ReadsTimetable (Some text) left times left_times period
    (λ p begun. WritesSharpSolution p begun steps (Appends (Some before) (Some (before ++ bytes))))
    → Checks All (Some text) left_instance (Some bytes) left_certificate period verdict (Appends old new)
    → verdict ≡ Accepted
accepts_from_times text before bytes left times left_times left_instance left_certificate old new period steps verdict
    (p, read, (begun, reads, solved)) =
    accepts_fronted text before bytes left left_instance left_certificate old new period verdict p solved.certificate read
    solved.solved.valid solved.has_text solved.written

pub accepts_what_is_resumed : (text before bytes : List ℕ)
    (left base left_base left_instance left_certificate old new : Option (List ℕ)) (period steps : ℕ)
    (verdict : Verdict)
    → ResumesSharp (Some text) left base left_base period steps (Appends (Some before) (Some (before ++ bytes)))
    → Checks All (Some text) left_instance (Some bytes) left_certificate period verdict (Appends old new)
    → verdict ≡ Accepted
accepts_what_is_resumed text before bytes left base left_base left_instance left_certificate old new period steps verdict
    (p, read, (begun, reads, resumed)) =
    accepts_fronted text before bytes left left_instance left_certificate old new period verdict p resumed.certificate read
    resumed.holds.valid resumed.has_text resumed.written

-- what goes on from a base with this front is accepted
accepts_gone_on : (front : Option FrontOf) (text before bytes : List ℕ)
    (left left_instance left_certificate old new : Option (List ℕ)) (period steps : ℕ) (verdict : Verdict) (p : Pesp) (begun : Fronted)
    → ReadsInstance (Some text) left period p
    → GoesOnBy front p begun steps ⊤ (Appends (Some before) (Some (before ++ bytes)))
    → Checks All (Some text) left_instance (Some bytes) left_certificate period verdict (Appends old new)
    → verdict ≡ Accepted
accepts_gone_on None text before bytes left left_instance left_certificate old new period steps verdict p begun read resumed =
    accepts_written All text before bytes left left_instance left_certificate old new period verdict p None resumed.certificate read
    resumed.resumed.valid resumed.has_text resumed.written
accepts_gone_on (Some marks) text before bytes left left_instance left_certificate old new period steps verdict p begun read resumed =
    accepts_fronted text before bytes left left_instance left_certificate old new period verdict p resumed.certificate read
    resumed.holds.valid resumed.has_text resumed.written

pub accepts_what_goes_on : (text before bytes : List ℕ)
    (left base left_base left_instance left_certificate old new : Option (List ℕ)) (period steps : ℕ) (verdict : Verdict)
    → OverBase ReadsSharpBase (Some text) left base left_base period
    (λ p begun. WritesGoneOn p begun steps ⊤ (Appends (Some before) (Some (before ++ bytes))))
    → Checks All (Some text) left_instance (Some bytes) left_certificate period verdict (Appends old new)
    → verdict ≡ Accepted
accepts_what_goes_on text before bytes left base left_base left_instance left_certificate old new period steps verdict
    (p, read, (begun, reads, gone_on)) =
    accepts_gone_on begun.front text before bytes left left_instance left_certificate old new period steps verdict p begun read gone_on

pub accepts_what_is_worked_on : (text before bytes : List ℕ)
    (left base left_base left_instance left_certificate old new : Option (List ℕ)) (period : ℕ) (jobs : List ℕ) (steps : ℕ) (until : Option ℕ)
    (verdict : Verdict)
    → OverBase ReadsSharpBase (Some text) left base left_base period
    (λ p begun. WritesSharpWork p begun jobs steps until (Appends (Some before) (Some (before ++ bytes))))
    → Checks All (Some text) left_instance (Some bytes) left_certificate period verdict (Appends old new)
    → verdict ≡ Accepted
accepts_what_is_worked_on text before bytes left base left_base left_instance left_certificate old new period jobs steps until verdict
    (p, read, (begun, reads, (are, worked))) =
    accepts_fronted text before bytes left left_instance left_certificate old new period verdict p worked.certificate read
    worked.holds.resumed.valid worked.has_text worked.written

pub accepts_what_is_grafted : (text before bytes : List ℕ)
    (left base left_base works left_works left_instance left_certificate told_old told_new old new : Option (List ℕ)) (period : ℕ)
    (verdict : Verdict)
    → OverWorks ReadsSharpBase (Some text) left base left_base works left_works period
    (λ p begun work. WritesSharpGraft p begun work (Appends (Some before) (Some (before ++ bytes))) (Appends told_old told_new))
    → Checks All (Some text) left_instance (Some bytes) left_certificate period verdict (Appends old new)
    → verdict ≡ Accepted
accepts_what_is_grafted text before bytes left base left_base works left_works left_instance left_certificate told_old told_new old
    new period verdict (p, read, (begun, reads, grafts)) =
    let grafted = grafts.holds.grafted in
    accepts_fronted text before bytes left left_instance left_certificate old new period verdict p grafted.certificate read
    grafted.holds.valid grafted.has_text grafted.written
