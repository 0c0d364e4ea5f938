-- What is known of a plan that is kept, of whatever stands for it.
use Rattle.std.proofs.Common.{◌≡◌, ◌⊎◌, inl, inr, ℕ, List, refl, Ok, Err, None, Some}
use Rattle.std.specs.Prelude.{Result, Option, MatchResult, OnOk, IfOk, IfErr, ⊤}
use Rattle.pesp_problem.specs.Timetables.{Pesp}
use Rattle.pesp_truth.specs.declared.answer.Answer.{Answer}
use Rattle.pesp_check.specs.Devices.{Device}
use Rattle.pesp_check.specs.Lines.{Gets}
use Rattle.pesp_runs.specs.Causes.{OutCause, SolutionStops}
use Rattle.pesp_runs.specs.declared.fault.Fault.{Fault}
use Rattle.pesp_runs.specs.declared.fault.Fault.TheVariants.{NoFile, Memory}
use Rattle.pesp_cert.specs.Fronted.{Fronted}
use Rattle.pesp_runs.specs.Bases.{IsSharpBase}
use Rattle.pesp_plan.specs.Planning.{KeepsAndWrites, KeepsOn, KeepsSome, KeepsSomeOn}
use Rattle.pesp_old_times.specs.Beginning.{BeginsWith, ReadsOld, OldCause, FromStanding, FromStandingCause}
use Rattle.pesp_cli.specs.Answers.{AnswersSearch, AnswersKept}
use Rattle.pesp_cli.specs.Stops.{StopsSearch, StopsKept}

-- a plan from old times that is kept
answers_some : {A : Type 0} (from : Option A) (period : ℕ) (reader writer : Device) (stands : Option Answer) (status : ℕ)
    → AnswersSearch ReadsOld (λ p times Gets. KeepsAndWrites p times stands Gets) from period reader writer status
    → AnswersSearch ReadsOld KeepsSome from period reader writer status
answers_some None period reader writer stands status ((p, reads, keeps), is) = ((p, reads, (stands, keeps)), is)
answers_some (Some file) period reader writer stands status ((times, (p, reads, (list, reads_times, keeps))), is) =
    ((times, (p, reads, (list, reads_times, (stands, keeps)))), is)

pub kept : {A : Type 0} (r : Result ℕ Fault) (from : Option A) (period : ℕ) (reader writer : Device) (stands : Option Answer)
    → IfOk r (AnswersSearch ReadsOld (λ p times Gets. KeepsAndWrites p times stands Gets) from period reader writer)
    → IfOk r (AnswersKept from period reader writer)
kept (Ok status) from period reader writer stands holds = inl (answers_some from period reader writer stands status holds)
kept (Err e) from period reader writer stands holds = tt

-- a plan from what stands in the file
some_of : (p : Pesp) (text : List ℕ) (base : Fronted) (Gets : List ℕ → Type 0) (stands : Option Answer)
    → (IsSharpBase p base × KeepsOn base stands Gets) ⊎ ((times : List ℕ) × BeginsWith p text times × KeepsAndWrites p times stands Gets)
    → (IsSharpBase p base × KeepsSomeOn base Gets) ⊎ ((times : List ℕ) × BeginsWith p text times × KeepsSome p times Gets)
some_of p text base Gets stands (inl (valid, keeps)) = inl (valid, (stands, keeps))
some_of p text base Gets stands (inr (times, begins, keeps)) = inr (times, begins, (stands, keeps))

some_standing : (told left told_base left_base : Option (List ℕ)) (period : ℕ) (Gets : List ℕ → Type 0) (stands : Option Answer)
    → FromStanding (λ p base. KeepsOn base stands Gets) (λ p times. KeepsAndWrites p times stands Gets) told left told_base left_base period
    → FromStanding (λ p base. KeepsSomeOn base Gets) (λ p times. KeepsSome p times Gets) told left told_base left_base period
some_standing told left told_base left_base period Gets stands (p, reads, next) =
    let (base, is_text, how) = next.holds in
    (p, reads, record { text = next.text; read = next.read; holds = (base, is_text, some_of p next.text base Gets stands how) })

pub kept_on : {A B : Type 0} (run : Result A Fault) (r : Result ℕ Fault) (from : Option B) (period : ℕ) (reader base writer : Device)
    (stands : Option Answer)
    → OnOk run (FromStanding (λ p base. KeepsOn base stands (Gets writer)) (λ p times. KeepsAndWrites p times stands (Gets writer))
    reader.old reader.new base.old base.new period)
    → MatchResult run (λ _. r ≡ Ok 0) (λ fault. r ≡ Err fault)
    → IfOk r (AnswersKept from period reader writer)
kept_on (Ok a) r from period reader base writer stands holds is =
    rw is (inr ((base, some_standing reader.old reader.new base.old base.new period (Gets writer) stands holds), refl))
kept_on (Err e) r from period reader base writer stands holds is = rw is tt

-- ---- why it stops

stops_some : {A : Type 0} (from : Option A) (fault : Fault) (period : ℕ) (reader writer : Device) (stands : Option Answer)
    → StopsSearch ReadsOld OldCause (λ p times fault cut. SolutionStops fault p 0 ⊤) (λ p times Gets. KeepsAndWrites p times stands Gets) from fault
    period reader writer
    → StopsSearch ReadsOld OldCause (λ p times fault cut. SolutionStops fault p 0 ⊤) KeepsSome from fault period reader writer
stops_some None fault period reader writer stands h = h
stops_some (Some file) fault period reader writer stands h = h

pub stopped_kept : {A : Type 0} (r : Result ℕ Fault) (from : Option A) (period : ℕ) (reader writer : Device)
    (stands : Option Answer)
    → IfErr r (λ fault. StopsSearch ReadsOld OldCause (λ p times fault cut. SolutionStops fault p 0 ⊤)
    (λ p times Gets. KeepsAndWrites p times stands Gets) from fault period reader writer)
    → IfErr r (λ fault. StopsKept from fault period reader writer)
stopped_kept (Ok status) from period reader writer stands holds = tt
stopped_kept (Err fault) from period reader writer stands holds =
    inr (inl (stops_some from fault period reader writer stands holds))

pub stopped_kept_on : {A B : Type 0} (run : Result A Fault) (r : Result ℕ Fault) (from : Option B) (period : ℕ)
    (reader base writer : Device)
    → IfErr run (λ fault. FromStandingCause (λ p base. OutCause fault ⊤) (λ p times. SolutionStops fault p 0 ⊤)
    fault reader base period)
    → MatchResult run (λ _. r ≡ Ok 0) (λ fault. r ≡ Err fault)
    → IfErr r (λ fault. StopsKept from fault period reader writer)
stopped_kept_on (Ok a) r from period reader base writer holds is = rw is tt
stopped_kept_on (Err fault) r from period reader base writer holds is = rw is (inr (inr (base, holds)))

-- memory may always be lacking
memory_stops : {A : Type 0} (from : Option A) (period : ℕ) (reader writer : Device)
    → StopsSearch ReadsOld OldCause (λ p times fault cut. SolutionStops fault p 0 ⊤) KeepsSome from Memory period reader writer
memory_stops None period reader writer = inl tt
memory_stops (Some file) period reader writer = inr (reader, inl (tt, tt))

-- a file that can't be had
pub refused_kept : {A : Type 0} (fault : Fault) (from : Option A) (period : ℕ) (reader writer : Device)
    → (fault ≡ NoFile) ⊎ (fault ≡ Memory) → StopsKept from fault period reader writer
refused_kept fault from period reader writer (inl is) = inl is
refused_kept fault from period reader writer (inr is) = rw is (inr (inl (memory_stops from period reader writer)))
