-- What trials show.
use Rattle.std.proofs.Common.{◌≢◌, ℕ, ◌+◌, ◌<◌, List, [], ◌∷◌, ◌++◌, length, get_or, subst, arith, Ok, Err}
use Rattle.std.specs.Prelude.{All, Contains, Result, IfOk}
use Rattle.std.proofs.lemmas.List.{get_or_default}
use Rattle.std.proofs.lemmas.List.Elements.{All-contains, All-append, All-cons, All-nil}
use Rattle.pesp_problem.specs.declared.row.Row.{Row}
use Rattle.pesp_problem.specs.Timetables.{Pesp, no_row, row_at, IsSatisfied, IsTimetable}
use Rattle.pesp_truth.specs.Conflicts.{KeepsRow, KeepsRows, IsNeeded}
use Rattle.pesp_conflict.specs.Findings.{AreAll, IsOpenOver}
use Rattle.pesp_conflict.specs.Insides.{IsDecision, IsFirstDecision}
use Rattle.pesp_conflict.specs.declared.decision.Decision.{Decision}
use Rattle.pesp_conflict.specs.declared.decision.Decision.TheVariants as decisions
use Rattle.pesp_conflict.proofs.Numbers.{HasFirst}

-- times that keep all others show that a row is needed
pub shown_needed : (p : Pesp) (listed rest times : List ℕ) (row : ℕ) → KeepsRows p rest times
    → All (λ (other : ℕ). other ≢ row → Contains rest other) listed → IsNeeded p listed row
shown_needed p listed rest times row kept others = (
  times,
  kept.0,
  λ i d l apart. All-contains (KeepsRow p times) rest (get_or listed i d) kept.1
      (others i d l apart),
)

-- a row that is needed stays so among fewer rows
pub still_needed : (p : Pesp) (listed fewer : List ℕ) (row : ℕ) → All (Contains listed) fewer → IsNeeded p listed row → IsNeeded p fewer row
still_needed p listed fewer row among needed = (
  needed.0,
  needed.1,
  λ i d l apart. All-contains
      (λ (other : ℕ). other ≢ row → KeepsRow p needed.0 other) listed (get_or fewer i d) needed.2 (among i d l) apart,
)

pub each_still_needed : (p : Pesp) (listed fewer needed : List ℕ) → All (Contains listed) fewer
    → All (IsNeeded p listed) needed → All (IsNeeded p fewer) needed
each_still_needed p listed fewer needed among all i d l = still_needed p listed fewer (get_or needed i d) among (all i d l)

-- rows that are all among the needed ones are needed
pub all_needed : (p : Pesp) (listed needed : List ℕ) → All (Contains needed) listed
    → All (IsNeeded p listed) needed → All (IsNeeded p listed) listed
all_needed p listed needed among all i d l = All-contains (IsNeeded p listed) needed (get_or listed i d) all (among i d l)

-- times that keep all rows are a timetable
pub keeps_all : (p : Pesp) (rows times : List ℕ) → HasFirst rows (length p.rows) → KeepsRows p rows times → IsTimetable p times
keeps_all p rows times has kept = (kept.0, λ i d l. at i d l)
  where
    at : (i : ℕ) (d : Row) → i < length p.rows → IsSatisfied p times (get_or p.rows i d)
    at i d l =
        (let satisfied = All-contains (KeepsRow p times) rows (i + 1) kept.1 (has (i + 1) (omega arith, omega (arith, l))) in
        let here = subst (λ (k : ℕ). IsSatisfied p times (row_at p.rows k)) (omega arith) satisfied in
        subst (λ (row : Row). IsSatisfied p times row) (get_or_default p.rows i no_row d l) here)

pub one_more_needed : (p : Pesp) (listed needed : List ℕ) (row : ℕ) → All (IsNeeded p listed) needed
    → IsNeeded p listed row → All (IsNeeded p listed) (needed ++ row ∷ [])
one_more_needed p listed needed row all one = All-append (IsNeeded p listed) needed (row ∷ []) all
    (All-cons (IsNeeded p listed) row [] one (All-nil (IsNeeded p listed)))

-- what is decided of all rows is decided of the instance
pub first_is : (p : Pesp) (steps : ℕ) (rows : List ℕ) (d : Decision) → AreAll (length p.rows) rows
    → IsDecision p rows (IsOpenOver p steps rows) d → IsFirstDecision p steps d
first_is p steps rows (decisions.Conflict listed) all is = is.0
first_is p steps rows decisions.Timetable all is = (is.0, keeps_all p rows is.0 all.all is.1)
first_is p steps rows decisions.Undecided all is = record { rows = rows; all = all; searched = is }

pub if_ok : {A E : Type 0} (r : Result A E) (P Q : A → Type 0) → IfOk r P → ((a : A) → P a → Q a) → IfOk r Q
if_ok (Ok a) P Q h f = f a h
if_ok (Err e) P Q h f = tt
