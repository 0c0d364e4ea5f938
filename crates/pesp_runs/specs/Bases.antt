-- What is read of a certificate that may have a front.
use Rattle.std.specs.Prelude.{◌≡◌, ℕ, List, Option, Err}
use Rattle.pesp_problem.specs.Timetables.{Pesp}
use Rattle.pesp_judges.specs.declared.refusal.Verdict.TheVariants.{Refused}
use Rattle.pesp_cert_lines.specs.declared.versions.Versions.TheVariants.{All}
use Rattle.pesp_cert.specs.Fronted.{Fronted, IsFrontedText}
use Rattle.pesp_cert.specs.Refusals.{items_of_text}
use Rattle.pesp_judges.specs.Faults.{IsVerdict}
use Rattle.pesp_truth.specs.Certificates.{IsValid}
use Rattle.pesp_check.specs.Devices.{Device, HasFailed}
use Rattle.pesp_runs.specs.Reading.{ReadsNext}
use Rattle.pesp_runs.specs.declared.fault.Fault.{Fault}
use Rattle.pesp_runs.specs.declared.fault.Fault.TheVariants.{Certificate, Base, Memory, Read}

-- the bytes that were read are the text of this certificate, with a front or without
abbrev pub ReadsFronted : Option (List ℕ) → Option (List ℕ) → Fronted → Type 0
ReadsFronted told left base = ReadsNext told left (λ text. IsFrontedText text base)

-- it is valid for the instance with its marked walks
abbrev pub IsSharpBase : Pesp → Fronted → Type 0
IsSharpBase p base = IsValid base.front p base.content

-- both
abbrev pub ReadsSharpBase : Option (List ℕ) → Option (List ℕ) → Pesp → Fronted → Type 0
ReadsSharpBase told left p base = ReadsFronted told left base × IsSharpBase p base

-- why there is no base: its text, its verdict, or the reader's device
abbrev pub SharpBaseCause : Fault → Device → Pesp → Type 0
SharpBaseCause (Certificate refusal) reader p = ReadsNext reader.old reader.new (λ bytes. items_of_text All bytes ≡ Err refusal)
SharpBaseCause (Base refusal) reader p =
    (base : Fronted) × ReadsFronted reader.old reader.new base × IsVerdict base.front p base.content (Refused refusal)
SharpBaseCause Memory reader p = Unit {0}
SharpBaseCause Read reader p = HasFailed reader
SharpBaseCause fault reader p = ⊥
