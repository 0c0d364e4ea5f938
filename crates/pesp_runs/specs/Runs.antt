-- What the runs read and write, and when they tell which fault, over any task: `Writes` says what it writes where the writer
-- got what a relation says of the text, and `Stops` why nothing went out whole, where its last argument says that the writer
-- failed behind a front.
use Rattle.std.specs.Prelude.{◌≡◌, ◌⊎◌, ⊤, ℕ, List, [], Option}
use Rattle.std.specs.Io.KnownBytes.{Appends}
use Rattle.pesp_problem.specs.Timetables.{Pesp}
use Rattle.pesp_check.specs.Devices.{Device, HasFailed, GetsFront}
use Rattle.pesp_runs.specs.Reading.{ReadsInstance, ReadsNext}
use Rattle.pesp_runs.specs.Causes.{InstanceCause, TextCause}
pub use Rattle.pesp_runs.specs.Reading.{OverBase}
use Rattle.pesp_runs.specs.declared.fault.Fault.{Fault}

-- ---- from a certificate, or from times

-- each fault and its cause, in the order of what is read and written; the second reader is called only where the first text
-- has an instance
abbrev pub OverBaseCause : {B : Type 0} → (Option (List ℕ) → Option (List ℕ) → Pesp → B → Type 0)
    → (Fault → Device → Pesp → Type 0) → Fault → Device → Device → Device → ℕ → Type 0
    → (Pesp → B → Fault → Type 0 → Type 0) → (Pesp → B → (List ℕ → Type 0) → Type 0) → Type 0
OverBaseCause {B} Reads Refused fault reader base_reader writer period uncalled Stops Writes =
    (InstanceCause fault reader period × uncalled)
    ⊎ ((p : Pesp) × ReadsInstance reader.old reader.new period p
    × (Refused fault base_reader p
    ⊎ ((base : B) × Reads base_reader.old base_reader.new p base
    × Stops p base fault (HasFailed writer × Writes p base (GetsFront writer)))))

-- ---- from works for a certificate

-- the third text is read too, and this is said of it
abbrev pub OverWorks : {B : Type 0} → (Option (List ℕ) → Option (List ℕ) → Pesp → B → Type 0)
    → Option (List ℕ) → Option (List ℕ) → Option (List ℕ) → Option (List ℕ) → Option (List ℕ) → Option (List ℕ) → ℕ
    → (Pesp → B → List ℕ → Type 0) → Type 0
OverWorks Reads told left told_base left_base told_works left_works period Holds =
    OverBase Reads told left told_base left_base period (λ p base. ReadsNext told_works left_works (Holds p base))

-- the writer or the reader wasn't called
abbrev pub IsUncalled : Device → Type 0
IsUncalled device = (device.new ≡ device.old) × (device.calls_new ≡ device.calls_old)

-- the writer failed behind a front, and nothing was told; or the writer has all, and the teller failed
abbrev pub EitherFailed : ((List ℕ → Type 0) → (List ℕ → Type 0) → Type 0) → Device → Device → Type 0
EitherFailed Writes writer teller =
    (HasFailed writer × IsUncalled teller × Writes (GetsFront writer) (λ told. ⊤))
    ⊎ (HasFailed teller × Writes (Appends writer.old writer.new) (GetsFront teller))

-- each fault and its cause; the second reader is called only where the first text has an instance, and the third only where the
-- second has a base of it
abbrev pub OverWorksCause : {B : Type 0} → (Option (List ℕ) → Option (List ℕ) → Pesp → B → Type 0)
    → (Fault → Device → Pesp → Type 0) → Fault → Device → Device → Device → Device → Device → ℕ → Type 0 → Type 0
    → (Pesp → B → List ℕ → Fault → Type 0 → Type 0)
    → (Pesp → B → List ℕ → (List ℕ → Type 0) → (List ℕ → Type 0) → Type 0) → Type 0
OverWorksCause {B} Reads Refused fault reader base_reader works_reader writer teller period uncalled works_uncalled Stops Writes =
    (InstanceCause fault reader period × uncalled × works_uncalled)
    ⊎ ((p : Pesp) × ReadsInstance reader.old reader.new period p
    × ((Refused fault base_reader p × works_uncalled)
    ⊎ ((base : B) × Reads base_reader.old base_reader.new p base
    × (TextCause fault works_reader
    ⊎ ReadsNext works_reader.old works_reader.new (λ works. Stops p base works fault
    (EitherFailed (Writes p base works) writer teller))))))

-- ---- from nothing

-- the reader's text has an instance, and what is found for it is written
abbrev pub Alone : (Pesp → List ℕ → (List ℕ → Type 0) → Type 0) → Option (List ℕ) → Option (List ℕ) → ℕ → (List ℕ → Type 0) → Type 0
Alone Writes told left period Gets = (p : Pesp) × ReadsInstance told left period p × Writes p [] Gets

-- each fault and its cause, in the order of what is read, found and written
abbrev pub AloneCause : (Pesp → List ℕ → Fault → Type 0 → Type 0) → (Pesp → List ℕ → (List ℕ → Type 0) → Type 0)
    → Fault → Device → Device → ℕ → Type 0
AloneCause Stops Writes fault reader writer period =
    InstanceCause fault reader period
    ⊎ ((p : Pesp) × ReadsInstance reader.old reader.new period p
    × Stops p [] fault (HasFailed writer × Writes p [] (GetsFront writer)))
