-- How a run without a status of its own ends.
use Rattle.std.proofs.Common.{◌≡◌, ◌⊎◌, inl, inr, ℕ, List, refl, ap, Ok, Err, Some, None}
use Rattle.std.specs.Prelude.{Result, Option, MatchResult, OnOk, IfOk, IfErr, ⊤, ◌≢◌}
use Rattle.pesp_check.specs.Devices.{Device}
use Rattle.pesp_runs.specs.declared.fault.Fault.{Fault}
use Rattle.pesp_runs.specs.declared.fault.Fault.TheVariants.{Write}
use Rattle.pesp_runs.specs.Bases.{ReadsSharpBase}
use Rattle.pesp_runs.specs.Runs.{OverBase}
use Rattle.pesp_tasks.specs.Resuming.{WritesGoneOn}
use Rattle.pesp_tasks.proofs.Resumptions.{gone_on_weaker}
use Rattle.pesp_judges.specs.declared.refusal.Verdict.{Verdict}
use Rattle.pesp_check.specs.Verdicts.{verdict_status}
use Rattle.pesp_check.specs.declared.fault.VerdictFault.{VerdictFault}
use Rattle.pesp_check.specs.declared.fault.VerdictFault.TheVariants.{Write as OfWrite}
use Rattle.pesp_runs.specs.FaultLines.{verdict_fault}
use Rattle.pesp_report_run.specs.Naming.{NamesCause}
use Rattle.pesp_request.specs.declared.request.OfWorks.{OfWorks}
use Rattle.pesp_request.specs.declared.request.OfWorks.TheVariants.{Graft, GraftSharp}
use Rattle.pesp_cli.specs.Stops.{OrNoNames, OrNamesOf, StopsWorks}

-- the run's clause, and the status 0
pub finished : {A E : Type 0} (run : Result A E) (r : Result ℕ E) (P : Type 0) → OnOk run P
    → MatchResult run (λ _. r ≡ Ok 0) (λ fault. r ≡ Err fault) → IfOk r (λ status. P × (status ≡ 0))
finished (Ok a) r P holds is = rw is (holds, refl)
finished (Err e) r P holds is = rw is tt

-- what holds of the run's fault holds of what is told
pub stopped : {A : Type 0} (run : Result A Fault) (r : Result ℕ Fault) (P : Fault → Type 0) → IfErr run P
    → MatchResult run (λ _. r ≡ Ok 0) (λ fault. r ≡ Err fault) → IfErr r P
stopped (Ok a) r P holds is = rw is tt
stopped (Err e) r P holds is = rw is holds

-- the same of some device that the claim speaks of
pub stopped_from : {A : Type 0} (run : Result A Fault) (r : Result ℕ Fault) (P Q : Fault → Type 0) → IfErr run P
    → ((fault : Fault) → P fault → Q fault) → MatchResult run (λ _. r ≡ Ok 0) (λ fault. r ≡ Err fault) → IfErr r Q
stopped_from (Ok a) r P Q holds f is = rw is tt
stopped_from (Err e) r P Q holds f is = rw is (f e holds)

-- a reader of which nothing is said any more
pub reader_left : {A B C : Type 0} → (A × B) ⊎ C → (A × ⊤) ⊎ C
reader_left (inl h) = inl (h.0, tt)
reader_left (inr h) = inr h

-- the same where a second reader is behind it
pub reader_left_before : {A B C D : Type 0} → (A × B × C) ⊎ D → (A × ⊤ × C) ⊎ D
reader_left_before (inl h) = inl (h.0, tt, h.2)
reader_left_before (inr h) = inr h

pub works_stopped : (asked : OfWorks) (fault : Fault) (period : ℕ) (instance base reader writer teller : Device) (A B : Type 0)
    → StopsWorks asked fault period instance base reader writer teller A B
    → StopsWorks asked fault period instance base reader writer teller ⊤ B
works_stopped Graft fault period instance base reader writer teller A B h = reader_left_before h
works_stopped GraftSharp fault period instance base reader writer teller A B h = reader_left_before h

-- ---- names

pub names_stopped : {A : Type 0} (run : Result A Fault) (names : Device) → IfErr run (λ fault. NamesCause fault names)
    → IfErr run (λ fault. OrNoNames fault ⊥)
names_stopped (Ok a) names holds = tt
names_stopped (Err e) names holds = inr (inl (names, holds))

pub without_names : (fault : Fault) (C : Type 0) → OrNoNames fault ⊥ → OrNoNames fault C
without_names fault C (inl h) = inl h
without_names fault C (inr (inl h)) = inr (inl h)
without_names fault C (inr (inr h)) = absurd h

-- the same where a file with some may be named
pub unless_named : {A : Type 0} (names : Option A) (fault : Fault) (C : Type 0) → OrNamesOf names fault ⊥ → OrNamesOf names fault C
unless_named None fault C h = absurd h
unless_named (Some file) fault C h = without_names fault C h

-- what holds without names
pub with_names : {A : Type 0} (names : Option A) (fault : Fault) (C : Type 0) → C → OrNamesOf names fault C
with_names None fault C h = h
with_names (Some file) fault C h = inr (inr h)

-- ---- verdicts

-- a verdict's fault that isn't told as one of writing isn't one
pub verdict_writes : (found : VerdictFault) (A : Type 0) → (found ≢ OfWrite → A) → verdict_fault found ≢ Write → A
verdict_writes found A f told = f (λ is. told (ap verdict_fault is))

-- what is told of a run that judges a certificate
pub verdict_told : (run : Result Verdict VerdictFault) (r : Result ℕ Fault) (P : Verdict → Type 0) → IfOk run P
    → MatchResult run (λ verdict. r ≡ Ok (verdict_status verdict)) (λ found. r ≡ Err (verdict_fault found))
    → IfOk r (λ status. (verdict : Verdict) × P verdict × (status ≡ verdict_status verdict))
verdict_told (Ok verdict) r P holds is = rw is (verdict, holds, refl)
verdict_told (Err found) r P holds is = rw is tt

-- and of one that stops
pub verdict_stopped : (run : Result Verdict VerdictFault) (r : Result ℕ Fault) (P : VerdictFault → Type 0) → IfErr run P
    → MatchResult run (λ verdict. r ≡ Ok (verdict_status verdict)) (λ found. r ≡ Err (verdict_fault found))
    → IfErr r (λ fault. (found : VerdictFault) × (fault ≡ verdict_fault found) × P found)
verdict_stopped (Ok verdict) r P holds is = rw is tt
verdict_stopped (Err found) r P holds is = rw is (found, refl, holds)

-- which has written nothing before, where writing isn't its fault
pub verdict_silent : (run : Result Verdict VerdictFault) (r : Result ℕ Fault) (A : Type 0)
    → IfErr run (λ found. found ≢ OfWrite → A)
    → MatchResult run (λ verdict. r ≡ Ok (verdict_status verdict)) (λ found. r ≡ Err (verdict_fault found))
    → IfErr r (λ fault. fault ≢ Write → A)
verdict_silent (Ok verdict) r A silent is = rw is tt
verdict_silent (Err found) r A silent is = rw is (verdict_writes found A silent)

-- ---- what holds of some device

-- what holds of a run over the times of a file holds of some times
pub from_some_times : {A : Type 0} (run : Result A Fault) (r : Result ℕ Fault) (P : Device → Type 0)
    (times : Device) → OnOk run (P times) → MatchResult run (λ _. r ≡ Ok 0) (λ fault. r ≡ Err fault)
    → IfOk r (λ status. ((times : Device) × P times) × (status ≡ 0))
from_some_times (Ok a) r P times holds is = rw is ((times, holds), refl)
from_some_times (Err e) r P times holds is = rw is tt

-- where less is said of a stop of a search that goes on
stopped_base : {A B : Type 0} (told left told_base left_base : Option (List ℕ)) (period steps : ℕ)
    (Gets : List ℕ → Type 0) → (A → B)
    → OverBase ReadsSharpBase told left told_base left_base period (λ p base. WritesGoneOn p base steps A Gets)
    → OverBase ReadsSharpBase told left told_base left_base period (λ p base. WritesGoneOn p base steps B Gets)
stopped_base told left told_base left_base period steps Gets f h =
    let (p, reads, (base, reads_base, writes)) = h in
    (p, reads, (base, reads_base, gone_on_weaker base.front p base steps Gets f writes))

pub stopped_less : {A B : Type 0} (r : Result ℕ Fault) (told left told_base left_base : Option (List ℕ))
    (period steps : ℕ) (Gets : List ℕ → Type 0) → (A → B)
    → IfOk r (λ status. OverBase ReadsSharpBase told left told_base left_base period
    (λ p base. WritesGoneOn p base steps A Gets) × (status ≡ 0))
    → IfOk r (λ status. OverBase ReadsSharpBase told left told_base left_base period
    (λ p base. WritesGoneOn p base steps B Gets) × (status ≡ 0))
stopped_less (Ok status) told left told_base left_base period steps Gets f holds =
    (stopped_base told left told_base left_base period steps Gets f holds.0, holds.1)
stopped_less (Err e) told left told_base left_base period steps Gets f holds = tt
