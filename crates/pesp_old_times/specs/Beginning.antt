-- What runs read that begin with old times, and why they stop.
use Rattle.std.specs.Prelude.{◌≡◌, ◌≢◌, ◌⊎◌, ℕ, List, [], Option, Some, None, Ok, Err}
use Rattle.std.specs.Global.{Vec}
use Rattle.pesp_problem.specs.Timetables.{Pesp, IsTimetable}
use Rattle.pesp_report.specs.TimesText.{times_from_text}
use Rattle.pesp_old_times.specs.OldTimes.{entries_from_text}
use Rattle.pesp_cert_lines.specs.declared.versions.Versions.TheVariants.{All}
use Rattle.pesp_cert.specs.Fronted.{Fronted, IsFrontedText}
use Rattle.pesp_cert.specs.Refusals.{items_of_text}
use Rattle.pesp_check.specs.Devices.{Device, HasFailed}
use Rattle.pesp_runs.specs.Reading.{ReadsInstance, ReadsNext}
use Rattle.pesp_runs.specs.Causes.{InstanceCause}
use Rattle.pesp_runs.specs.declared.fault.Fault.{Fault}
use Rattle.pesp_runs.specs.declared.fault.Fault.TheVariants.{Times, Certificate, Base, Memory, Read}
use Rattle.pesp_judges.specs.declared.refusal.Refusal.TheVariants.{OtherPeriod}
use Rattle.pesp_runs.specs.Bases.{IsSharpBase}

-- what a text gives to begin with: a timetable or no times; the times that it tells the events in order where they are a
-- timetable
pub record BeginsWith (p : Pesp) (text times : List ℕ) : Type 0 where
  pub sound : (times ≡ []) ⊎ IsTimetable p times
  pub kept : (told : List ℕ) → times_from_text p text ≡ Ok told → IsTimetable p told → times ≡ told

-- the times that a text tells the events in their order, where they are a timetable
abbrev pub TellsTimetable : Pesp → List ℕ → Option (Vec ℕ) → Type 0
TellsTimetable p text (Some times) = (times_from_text p text ≡ Ok times.items) × IsTimetable p times.items
TellsTimetable p text None = (told : List ℕ) → times_from_text p text ≡ Ok told → IsTimetable p told → ⊥

-- why a text gives nothing to begin with: a `time` line
abbrev pub RefusesOld : Fault → Pesp → List ℕ → Type 0
RefusesOld (Times refusal) p text = entries_from_text p.period text ≡ Err refusal
RefusesOld Memory p text = Unit {0}
RefusesOld fault p text = ⊥

-- ---- from times in any order

-- the bytes that were read give these times to begin with
abbrev pub ReadsOld : Option (List ℕ) → Option (List ℕ) → Pesp → List ℕ → Type 0
ReadsOld told left p times = ReadsNext told left (λ text. BeginsWith p text times)

-- why there are no times to begin with: a `time` line of the text, or the reader's device
abbrev pub OldCause : Fault → Device → Pesp → Type 0
OldCause (Times refusal) reader p = ReadsNext reader.old reader.new (λ text. entries_from_text p.period text ≡ Err refusal)
OldCause Memory reader p = Unit {0}
OldCause Read reader p = HasFailed reader
OldCause fault reader p = ⊥

-- ---- from what stands in a file

-- the text is a certificate's, with a front or without, of which this is said
abbrev pub IsOf : List ℕ → (Fronted → Type 0) → Type 0
IsOf text Holds = (base : Fronted) × IsFrontedText text base × Holds base

-- the first text has an instance, and the second one is a certificate's: one that is valid for it, of which the first is said,
-- or another one whose text gives times to begin with, of which the second is said
abbrev pub FromStanding : (Pesp → Fronted → Type 0) → (Pesp → List ℕ → Type 0)
    → Option (List ℕ) → Option (List ℕ) → Option (List ℕ) → Option (List ℕ) → ℕ → Type 0
FromStanding OfBase OfTimes told left told_base left_base period =
    (p : Pesp) × ReadsInstance told left period p
    × ReadsNext told_base left_base (λ text. IsOf text (λ base. (IsSharpBase p base × OfBase p base)
    ⊎ ((times : List ℕ) × BeginsWith p text times × OfTimes p times)))

-- why nothing of the second text is taken: it is no certificate's, one of another period, or one whose times are refused; or the
-- reader's device
abbrev pub StandingCause : Fault → Device → Pesp → Type 0
StandingCause (Certificate refusal) reader p = ReadsNext reader.old reader.new (λ text. items_of_text All text ≡ Err refusal)
StandingCause (Base OtherPeriod) reader p =
    ReadsNext reader.old reader.new (λ text. IsOf text (λ base. base.content.period ≢ p.period))
StandingCause (Times refusal) reader p = ReadsNext reader.old reader.new (λ text. entries_from_text p.period text ≡ Err refusal)
StandingCause Memory reader p = Unit {0}
StandingCause Read reader p = HasFailed reader
StandingCause fault reader p = ⊥

-- each fault and its cause; `OfBase` and `OfTimes` say why a plan stops that began with the one or the other
abbrev pub FromStandingCause : (Pesp → Fronted → Type 0) → (Pesp → List ℕ → Type 0) → Fault → Device → Device → ℕ → Type 0
FromStandingCause OfBase OfTimes fault reader base_reader period =
    InstanceCause fault reader period
    ⊎ ((p : Pesp) × ReadsInstance reader.old reader.new period p
    × (StandingCause fault base_reader p
    ⊎ ReadsNext base_reader.old base_reader.new (λ text. IsOf text (λ base. (IsSharpBase p base × OfBase p base)
    ⊎ ((times : List ℕ) × BeginsWith p text times × OfTimes p times)))))
