-- What the runs for work from outside read and write, and when they tell which fault.
use Rattle.std.specs.Prelude.{◌≡◌, ◌⊎◌, ℕ, List, Option, Err, None}
use Rattle.std.specs.List.{flat_map}
use Rattle.pesp_problem.specs.Timetables.{Pesp}
use Rattle.pesp_truth.specs.Truth.{IsTrueAnswer}
use Rattle.pesp_truth.specs.Certificates.{Content, shown_times}
use Rattle.pesp_cert.specs.Texts.{spelling, HasText}
use Rattle.pesp_cert.specs.declared.refusal.CertRefusal.{CertRefusal}
use Rattle.pesp_cert.specs.declared.refusal.CertRefusal.TheVariants.{Memory as CertMemory}
use Rattle.pesp_cert_items.specs.Works.{WorkValue, spellings}
use Rattle.pesp_cert_items.specs.Refusals.{works_of_text}
use Rattle.pesp_cert_items.specs.Refusals as works_texts
use Rattle.pesp_turns.specs.declared.open_job.OpenJob.{OpenJob}
use Rattle.pesp_worker.specs.declared.grafted.Reply.{Reply}
use Rattle.pesp_worker.specs.Jobs.{AreOpenJobs}
use Rattle.pesp_worker.specs.Grafts.{IsGrafted}
use Rattle.pesp_turns.specs.JobsTexts.{jobs_text}
use Rattle.pesp_worker.specs.Texts.{reply_line}
use Rattle.pesp_worker.specs.HandingIn.{AreWorksOn, AreWorkRefusal}
use Rattle.pesp_worker.specs.declared.refusal.WorkRefusal.{WorkRefusal}
use Rattle.pesp_worker.specs.declared.refusal.WorkRefusal.TheVariants.{Memory as WorkMemory, NoSuchJob}
use Rattle.pesp_check.specs.Devices.{Device}
use Rattle.pesp_runs.specs.Reading.{ReadsBase}
use Rattle.pesp_runs.specs.Causes.{BaseCause, OutCause}
use Rattle.pesp_runs.specs.Runs.{OverBaseCause, OverWorksCause}
use Rattle.pesp_runs.specs.declared.fault.Fault.{Fault}
use Rattle.pesp_runs.specs.declared.fault.Fault.TheVariants.{Works, NoJob, Memory}

-- ---- faults of these runs alone

-- a refusal of memory is told as such
abbrev pub works_fault : CertRefusal → Fault
works_fault CertMemory = Memory
works_fault refusal = Works refusal

-- why there is no work for a job, as a fault
abbrev pub work_fault : WorkRefusal → Fault
work_fault WorkMemory = Memory
work_fault NoSuchJob = NoJob

-- ---- split

-- the writer got what the relation says of the text of the open leaves of the base as jobs
pub record WritesJobs (p : Pesp) (base : Content) (Gets : List ℕ → Type 0) : Type 0 where
  pub jobs : List OpenJob
  pub are_open : AreOpenJobs p base jobs
  pub written : Gets (jobs_text jobs)

-- each fault of `split` and its cause
abbrev pub SplitCause : Fault → Device → Device → Device → ℕ → Type 0 → Type 0
SplitCause fault reader base_reader writer period uncalled =
    OverBaseCause ReadsBase BaseCause fault reader base_reader writer period uncalled (λ p base fault cut. OutCause fault cut)
    (λ p base Gets. WritesJobs p base Gets)

-- ---- work

-- the writer got what the relation says of the texts of works for these open leaves of the base, one behind the other
pub record WritesWorks (p : Pesp) (base : Content) (jobs : List ℕ) (steps : ℕ) (until : Option ℕ) (Gets : List ℕ → Type 0) : Type 0 where
  pub works : List WorkValue
  pub are_works : AreWorksOn p base jobs steps until works
  pub written : Gets (spellings works)

-- why there is no work for one of the jobs
abbrev pub JobCause : Fault → Pesp → Content → List ℕ → Type 0
JobCause NoJob p base jobs = AreWorkRefusal p base jobs NoSuchJob
JobCause Memory p base jobs = Unit {0}
JobCause fault p base jobs = ⊥

-- each fault of `work` and its cause
abbrev pub WorkCause : Fault → Device → Device → Device → ℕ → List ℕ → ℕ → Option ℕ → Type 0 → Type 0
WorkCause fault reader base_reader writer period jobs steps until uncalled =
    OverBaseCause ReadsBase BaseCause fault reader base_reader writer period uncalled
    (λ p base fault cut. JobCause fault p base jobs ⊎ OutCause fault cut)
    (λ p base Gets. WritesWorks p base jobs steps until Gets)

-- ---- graft

-- why a text isn't that of works
abbrev pub WorksCause : Fault → List ℕ → Type 0
WorksCause (Works refusal) text = works_of_text text ≡ Err refusal
WorksCause Memory text = Unit {0}
WorksCause fault text = ⊥

-- the first writer got what its relation says of the text of the certificate with these works grafted onto the base,
-- whose answer is true, and the second what its relation says of a line for each work
pub record WritesGraft (p : Pesp) (base : Content) (works : List WorkValue) (Gets Tells : List ℕ → Type 0) : Type 0 where
  pub replies : List Reply
  pub certificate : Content
  pub grafted : IsGrafted p base works replies certificate
  pub is_true : IsTrueAnswer p certificate.answer (shown_times certificate)
  pub has_text : HasText None certificate
  pub told_replies : Tells (flat_map reply_line replies)
  pub written : Gets (spelling None certificate)

-- the text is that of works, one behind the other, which are grafted and written
abbrev pub Grafts : Pesp → Content → List ℕ → (List ℕ → Type 0) → (List ℕ → Type 0) → Type 0
Grafts p base text Gets Tells =
    (works : List WorkValue) × works_texts.IsTextOfWorks text works × WritesGraft p base works Gets Tells

-- each fault of `graft` and its cause
abbrev pub GraftCause : Fault → Device → Device → Device → Device → Device → ℕ → Type 0 → Type 0 → Type 0
GraftCause fault reader base_reader works_reader writer teller period uncalled works_uncalled =
    OverWorksCause ReadsBase BaseCause fault reader base_reader works_reader writer teller period uncalled works_uncalled
    (λ p base text fault cut. WorksCause fault text ⊎ OutCause fault cut)
    (λ p base text Gets Tells. Grafts p base text Gets Tells)
