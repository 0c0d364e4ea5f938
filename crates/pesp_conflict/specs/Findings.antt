-- What is found of an instance that may have no timetable.
use Rattle.std.specs.Prelude.{◌≡◌, ℕ, List, length, All, Contains, true, None}
use Rattle.std.specs.List.Sorted.{IsStrictlyIncreasing}
use Rattle.pesp_problem.specs.Timetables.{Pesp, IsTimetable}
use Rattle.pesp_problem.specs.Walks.{Names}
use Rattle.pesp_truth.specs.Certificates.{Content}
use Rattle.pesp_truth.specs.declared.answer.Answer.TheVariants.{Bounded}
use Rattle.pesp_search.specs.Solving.{IsSolved}
use Rattle.pesp_truth.specs.Conflicts.{AreInConflict, IsNeeded, only_rows}
use Rattle.pesp_conflict.specs.declared.finding.Finding.{Finding}
use Rattle.pesp_conflict.specs.declared.finding.Finding.TheVariants.{Conflict, Timetable, Undecided}

-- numbers of rows, by rising number, such that no times keep all of these rows
pub record IsConflict (p : Pesp) (rows : List ℕ) : Type 0 where
  pub exist : All (Names (length p.rows)) rows
  pub rising : IsStrictlyIncreasing rows
  pub none_keep : AreInConflict p rows

-- the numbers rise and name rows
abbrev pub AreFit : Pesp → List ℕ → Type 0
AreFit p listed = IsStrictlyIncreasing listed × All (Names (length p.rows)) listed

-- the numbers from 1 to n, which rise
pub record AreAll (n : ℕ) (rows : List ℕ) : Type 0 where
  pub rising : IsStrictlyIncreasing rows
  pub named : All (Names n) rows
  pub all : (row : ℕ) → Names n row → Contains rows row

-- a search over the listed rows alone used all its steps, and its answer is open without a cost
pub record IsOpenOver (p : Pesp) (steps : ℕ) (listed : List ℕ) : Type 0 where
  pub content : Content
  pub solved : IsSolved (only_rows p listed) steps steps content
  pub least : ℕ
  pub answer : content.answer ≡ Bounded least None

-- such a search over all rows
pub record IsUndecided (p : Pesp) (steps : ℕ) : Type 0 where
  pub rows : List ℕ
  pub all : AreAll (length p.rows) rows
  pub searched : IsOpenOver p steps rows

-- a conflict, and where it is said that each row is needed, times for each one that keep all others; or some timetable;
-- or a search over all rows that used all its steps
abbrev pub IsFinding : Pesp → ℕ → Finding → Type 0
IsFinding p steps (Conflict found) = IsConflict p found.rows.items
    × (found.each_needed ≡ true → All (IsNeeded p found.rows.items) found.rows.items)
IsFinding p steps Timetable = (times : List ℕ) × IsTimetable p times
IsFinding p steps Undecided = IsUndecided p steps
