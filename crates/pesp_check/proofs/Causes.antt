-- Why there is no verdict, from what the call that failed says of it.
use Rattle.std.proofs.Common.{◌≡◌, ◌⊎◌, inl, inr, ℕ, List, sym, subst}
use Rattle.std.specs.Prelude.{Option}
use Rattle.pesp_stream.specs.Counts.{Calls, DeviceFailed}
use Rattle.pesp_cert_lines.specs.declared.versions.Versions.{Versions}
use Rattle.pesp_check.specs.Texts.{Faults}
use Rattle.pesp_check.specs.declared.check_fault.CheckFault.{CheckFault}
use Rattle.pesp_check.specs.declared.check_fault.CheckFault.TheVariants.{Text, Read as CheckRead, Memory as CheckMemory}
use Rattle.pesp_check.specs.declared.fault.VerdictFault.{VerdictFault}
use Rattle.pesp_check.specs.declared.fault.VerdictFault.TheVariants.{Memory, Write}
use Rattle.pesp_check.specs.FaultLines.{check_fault}
use Rattle.pesp_check.specs.Devices.{over}
use Rattle.pesp_check.specs.Checking.{CertificateCause, OutCause}

-- a fault of the certificate's text, of its reader, or of memory
pub certificate_cause : (versions : Versions) (fault : CheckFault) (told left : Option (List ℕ)) (calls after : Calls)
    → Faults versions fault told left (DeviceFailed calls after)
    → CertificateCause versions (check_fault fault) (over told left calls after)
certificate_cause versions (Text refusal) told left calls after cause = cause
certificate_cause versions CheckRead told left calls after cause = cause
certificate_cause versions CheckMemory told left calls after cause = tt

-- a line that didn't go out: for memory, or because the writer failed behind a front of it
pub line_cause : (fault : VerdictFault) (Same Failed Front Cut : Type 0)
    → ((fault ≡ Memory) × Same) ⊎ ((fault ≡ Write) × Failed × Front) → (Failed → Front → Cut) → OutCause fault Cut
line_cause fault Same Failed Front Cut (inl (is, same)) made = subst (λ (f : VerdictFault). OutCause f Cut) (sym is) tt
line_cause fault Same Failed Front Cut (inr (is, failed, front)) made =
    subst (λ (f : VerdictFault). OutCause f Cut) (sym is) (made failed front)
