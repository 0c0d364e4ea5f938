-- What is written of a search that went on.
use Rattle.std.proofs.Common.{inl, inr, ℕ, ◌≤◌, List, None, Some}
use Rattle.std.specs.Prelude.{Option}
use Rattle.pesp_problem.specs.Timetables.{Pesp}
use Rattle.pesp_truth.specs.Certificates.{Content, Front as FrontOf}
use Rattle.pesp_truth.proofs.Certificates.{valid_is_true}
use Rattle.pesp_cert.specs.Texts.{spelling, HasText}
use Rattle.pesp_cert.specs.Fronted.{Fronted}
use Rattle.pesp_turns.specs.declared.resume_ending.ResumeEnding.{ResumeEnding}
use Rattle.pesp_turns.specs.Resuming.{IsResumed}
use Rattle.pesp_turns.proofs.Resumptions.{resumed_weaker}
use Rattle.pesp_check.specs.Devices.{Device, GetsFront}
use Rattle.pesp_runs.specs.Causes.{OutCause}
use Rattle.pesp_runs.specs.declared.fault.Fault.{Fault}
use Rattle.pesp_runs.specs.declared.fault.Fault.TheVariants.{Instance, Certificate, Times, Names, Search, Report, Base, Works, NoJob, Memory, Read, Write, NoFile}
use Rattle.pesp_runs.specs.Bases.{ReadsSharpBase, SharpBaseCause}
use Rattle.pesp_runs.specs.Runs.{OverBaseCause}
use Rattle.pesp_tasks.specs.Resuming.{WritesResumed, GoesOnBy, WritesGoneOn}

-- the writer got what is said of the certificate's text
pub writes : {p : Pesp} {base certificate : Content} {steps : ℕ} {stopped : Type 0} {Gets : List ℕ → Type 0}
    (used : ℕ) (ending : ResumeEnding) → 1 ≤ p.period → IsResumed p base steps stopped used ending certificate → HasText None certificate
    → Gets (spelling None certificate) → WritesResumed p base steps stopped Gets
writes {p} {certificate = certificate} used ending some resumed has_text gets = record {
  used = used;
  ending = ending;
  certificate = certificate;
  resumed = resumed;
  is_true = valid_is_true None p certificate some resumed.valid;
  has_text = has_text;
  written = gets;
}

-- where less is said of a stop
written_weaker : {A B : Type 0} (p : Pesp) (base : Content) (steps : ℕ) (Gets : List ℕ → Type 0) → (A → B)
    → WritesResumed p base steps A Gets → WritesResumed p base steps B Gets
written_weaker p base steps Gets f w = record {
  used = w.used;
  ending = w.ending;
  certificate = w.certificate;
  resumed = resumed_weaker p base steps w.used w.ending w.certificate f w.resumed;
  is_true = w.is_true;
  has_text = w.has_text;
  written = w.written;
}

pub gone_on_weaker : {A B : Type 0} (front : Option FrontOf) (p : Pesp) (base : Fronted) (steps : ℕ) (Gets : List ℕ → Type 0)
    → (A → B) → GoesOnBy front p base steps A Gets → GoesOnBy front p base steps B Gets
gone_on_weaker None p base steps Gets f w = written_weaker p base.content steps Gets f w
gone_on_weaker (Some marks) p base steps Gets f w = w

out_weaker : (fault : Fault) (A B : Type 0) → (A → B) → OutCause fault A → OutCause fault B
out_weaker (Instance r) A B f h = h
out_weaker (Certificate r) A B f h = h
out_weaker (Times r) A B f h = h
out_weaker (Names r) A B f h = h
out_weaker (Search r) A B f h = h
out_weaker (Report r) A B f h = h
out_weaker (Base r) A B f h = h
out_weaker (Works r) A B f h = h
out_weaker NoJob A B f h = h
out_weaker Memory A B f h = h
out_weaker Read A B f h = h
out_weaker Write A B f h = f h
out_weaker NoFile A B f h = h

-- a cause too
pub cause_weaker : {A B : Type 0} (fault : Fault) (reader base_reader writer : Device) (period steps : ℕ) (uncalled : Type 0) → (A → B)
    → OverBaseCause ReadsSharpBase SharpBaseCause fault reader base_reader writer period uncalled
    (λ p base fault cut. OutCause fault cut) (λ p base Gets. WritesGoneOn p base steps A Gets)
    → OverBaseCause ReadsSharpBase SharpBaseCause fault reader base_reader writer period uncalled
    (λ p base fault cut. OutCause fault cut) (λ p base Gets. WritesGoneOn p base steps B Gets)
cause_weaker fault reader base_reader writer period steps uncalled f (inl h) = inl h
cause_weaker fault reader base_reader writer period steps uncalled f (inr (p, reads, inl h)) = inr (p, reads, inl h)
cause_weaker fault reader base_reader writer period steps uncalled f (inr (p, reads, inr (base, is_base, out))) =
    inr (
      p,
      reads,
      inr (
        base,
        is_base,
        out_weaker fault _ _
            (λ cut. (cut.0, gone_on_weaker base.front p base steps (GetsFront writer) f cut.1)) out,
      ),
    )
