-- What the run of the checker reads and writes, and when it tells which fault.
use Rattle.std.specs.Prelude.{◌≡◌, ◌⊎◌, ℕ, List, Option, Ok, Err, IfSome}
use Rattle.std.specs.Io.KnownBytes.{Consumes, IsAtEnd}
use Rattle.pesp_problem.specs.declared.limits.TheConstants.{MOST_TEXT}
use Rattle.pesp_stream.specs.Reading.{ReadsText}
use Rattle.pesp_problem.specs.Timetables.{Pesp}
use Rattle.pesp_instance.specs.Instance.{instance_of}
use Rattle.pesp_instance.specs.declared.refusal.ReadRefusal.{ReadRefusal}
use Rattle.pesp_cert_lines.specs.declared.versions.Versions.{Versions}
use Rattle.pesp_truth.specs.declared.answer.Answer.{Answer}
use Rattle.pesp_cert_items.specs.Texts.{RefusesText}
use Rattle.pesp_judges.specs.declared.refusal.Verdict.{Verdict}
use Rattle.pesp_check.specs.Texts.{ChecksText}
use Rattle.pesp_check.specs.Verdicts.{verdict_line}
use Rattle.pesp_check.specs.Devices.{Device, HasFailed, GetsFront}
use Rattle.pesp_check.specs.declared.fault.VerdictFault.{VerdictFault}
use Rattle.pesp_check.specs.declared.fault.VerdictFault.TheVariants.{Instance, Certificate, Memory, Read, Write}

-- ---- the instance, which is read first

-- the text is all that the reader had, and it has no more; where it tells its bytes, they are the text
pub record ReadsAll (told left : Option (List ℕ)) (text : List ℕ) : Type 0 where
  pub consumed : Consumes told left text
  pub ended : IsAtEnd left
  pub whole : IfSome told (λ bytes. bytes ≡ text)

-- the reader's text is this instance with the period
pub record ReadsInstance (told left : Option (List ℕ)) (period : ℕ) (p : Pesp) : Type 0 where
  pub text : List ℕ
  pub read : ReadsAll told left text
  pub is_instance : instance_of text period ≡ Ok p

-- the bytes that were read are no instance for this reason, and where the reader tells its bytes, all of them aren't either
pub record RefusesInstance (told left : Option (List ℕ)) (period : ℕ) (refusal : ReadRefusal) : Type 0 where
  pub bytes : List ℕ
  pub read : ReadsText told left 16777217 bytes
  pub refused : instance_of bytes period ≡ Err refusal
  pub whole : IfSome told (λ text. instance_of text period ≡ Err refusal)

-- why there is no instance: its text, or the reader's device; what memory is refused is the runtime's matter
abbrev pub InstanceCause : VerdictFault → Device → ℕ → Type 0
InstanceCause (Instance refusal) reader period = RefusesInstance reader.old reader.new period refusal
InstanceCause Memory reader period = Unit {0}
InstanceCause Read reader period = HasFailed reader
InstanceCause fault reader period = ⊥

-- ---- what is written

-- why nothing went out whole, once all was read: memory, or a writer of which this is said
abbrev pub OutCause : VerdictFault → Type 0 → Type 0
OutCause Memory cut = Unit {0}
OutCause Write cut = cut
OutCause fault cut = ⊥

-- ---- check

-- the reader's text is a certificate's whose version is taken, which is judged so, and the writer got what the relation says of
-- the verdict's line
pub record WritesVerdict (versions : Versions) (told left : Option (List ℕ)) (p : Pesp) (verdict : Verdict) (Gets : List ℕ → Type 0) : Type 0 where
  pub answer : Answer
  pub judged : ChecksText versions told left p verdict answer
  pub written : Gets (verdict_line answer verdict)

-- the first text has an instance, and the verdict on the second one is written
abbrev pub Checks : Versions → Option (List ℕ) → Option (List ℕ) → Option (List ℕ) → Option (List ℕ) → ℕ → Verdict → (List ℕ → Type 0) → Type 0
Checks versions told left told_certificate left_certificate period verdict Gets =
    (p : Pesp) × ReadsInstance told left period p × WritesVerdict versions told_certificate left_certificate p verdict Gets

-- why there is no verdict: the certificate's text, whatever stands behind what was read of it, or the reader's device
abbrev pub CertificateCause : Versions → VerdictFault → Device → Type 0
CertificateCause versions (Certificate refusal) reader = RefusesText versions reader.old reader.new MOST_TEXT refusal
CertificateCause versions Memory reader = Unit {0}
CertificateCause versions Read reader = HasFailed reader
CertificateCause versions fault reader = ⊥

-- each fault of `check` and its cause; the second reader is called only where the first text has an instance
abbrev pub CheckCause : Versions → VerdictFault → Device → Device → Device → ℕ → Type 0 → Type 0
CheckCause versions fault reader certificate_reader writer period uncalled =
    (InstanceCause fault reader period × uncalled)
    ⊎ ((p : Pesp) × ReadsInstance reader.old reader.new period p
    × (CertificateCause versions fault certificate_reader
    ⊎ OutCause fault (HasFailed writer
    × ((verdict : Verdict) × WritesVerdict versions certificate_reader.old certificate_reader.new p verdict (GetsFront writer)))))
