-- What a score says of times.
use Rattle.std.specs.Prelude.{◌≡◌, ℕ, ◌-◌, ◌<◌, List, length}
use Rattle.pesp_problem.specs.declared.grade.Score.{Score}
use Rattle.pesp_problem.specs.declared.grade.Score.TheVariants.{NotTimes, Violates, Feasible}
use Rattle.pesp_problem.specs.Timetables.{Pesp, row_at, slack, AreTimes, IsSatisfied, IsTimetableOfCost}
use Rattle.pesp_problem.specs.Walks.{Names}

-- the row of this number, from 1, isn't satisfied, and each row before it is
pub record IsFirstViolated (p : Pesp) (times : List ℕ) (row : ℕ) : Type 0 where
  pub exists : Names (length p.rows) row
  pub before : (i : ℕ) → i < row - 1 → IsSatisfied p times (row_at p.rows i)
  pub violated : IsSatisfied p times (row_at p.rows (row - 1)) → ⊥

-- no times; times with their first unsatisfied row and its slack; or a timetable of a cost
abbrev pub IsScore : Pesp → List ℕ → Score → Type 0
IsScore p times NotTimes = AreTimes p times → ⊥
IsScore p times (Violates row y) = AreTimes p times × IsFirstViolated p times row × (y ≡ slack p.period times (row_at p.rows (row - 1)))
IsScore p times (Feasible c) = IsTimetableOfCost p times c
