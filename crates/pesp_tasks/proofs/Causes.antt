-- Why a run has no answer, from what the call that failed says of it, and what it wrote.
use Rattle.std.proofs.Common.{inl, inr, ℕ, ◌≤◌, List, None}
use Rattle.std.specs.List.{flat_map}
use Rattle.pesp_problem.specs.Timetables.{Pesp}
use Rattle.pesp_truth.specs.Certificates.{Content}
use Rattle.pesp_truth.proofs.Certificates.{valid_is_true}
use Rattle.pesp_cert.specs.declared.refusal.CertRefusal.{CertRefusal}
use Rattle.pesp_cert.specs.declared.refusal.CertRefusal.TheVariants.{Header, Line, Number, Limit, Truncated, Trailing, Memory as CertMemory}
use Rattle.pesp_cert.specs.Texts.{spelling, HasText}
use Rattle.pesp_cert_items.specs.Works.{WorkValue}
use Rattle.pesp_cert_items.specs.Refusals.{IsTextOfWorks, RefusesFirstWork}
use Rattle.pesp_worker.specs.declared.grafted.Reply.{Reply}
use Rattle.pesp_worker.specs.Grafts.{IsGrafted}
use Rattle.pesp_worker.specs.Texts.{reply_line}
use Rattle.pesp_worker.specs.declared.refusal.WorkRefusal.{WorkRefusal}
use Rattle.pesp_worker.specs.declared.refusal.WorkRefusal.TheVariants.{Memory as WorkMemory, NoSuchJob}
use Rattle.pesp_worker.specs.HandingIn.{AreWorkRefusal}
use Rattle.pesp_tasks.specs.Outside.{works_fault, work_fault, WorksCause, JobCause, WritesGraft, Grafts}

-- a refusal of the works' text, or of memory
pub works_cause : (refusal : CertRefusal) (text : List ℕ) → RefusesFirstWork text refusal → WorksCause (works_fault refusal) text
works_cause CertMemory text first = tt
works_cause Header text first = elim first [ inl e ↦ cc | inr e ↦ e ]
works_cause (Line n) text first = elim first [ inl e ↦ cc | inr e ↦ e ]
works_cause (Number n) text first = elim first [ inl e ↦ cc | inr e ↦ e ]
works_cause (Limit n) text first = elim first [ inl e ↦ cc | inr e ↦ e ]
works_cause Truncated text first = elim first [ inl e ↦ cc | inr e ↦ e ]
works_cause (Trailing n) text first = elim first [ inl e ↦ cc | inr e ↦ e ]

-- a job that isn't there, or a refusal of memory
pub job_cause : (refusal : WorkRefusal) (p : Pesp) (base : Content) (jobs : List ℕ)
    → AreWorkRefusal p base jobs refusal → JobCause (work_fault refusal) p base jobs
job_cause WorkMemory p base jobs refused = tt
job_cause NoSuchJob p base jobs refused = refused

-- works were grafted, and the writers got what is said of the certificate's text and of the replies' lines
pub graft : {p : Pesp} {base certificate : Content} {text : List ℕ} {Gets Tells : List ℕ → Type 0} (replies : List Reply)
    → 1 ≤ p.period → (works : List WorkValue) × IsTextOfWorks text works × IsGrafted p base works replies certificate
    → HasText None certificate → Gets (spelling None certificate)
    → Tells (flat_map reply_line replies) → Grafts p base text Gets Tells
graft {p} {base} {certificate} {Gets = Gets} {Tells = Tells} replies some (works, is_text, grafted) has_text gets tells =
    let writes : WritesGraft p base works Gets Tells = record {
      replies = replies;
      certificate = certificate;
      grafted = grafted;
      is_true = valid_is_true None p certificate some grafted.valid;
      has_text = has_text;
      told_replies = tells;
      written = gets;
    } in
    (works, is_text, writes)
