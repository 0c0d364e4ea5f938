-- Shifts of one side of a cut: what becomes of the slack of a row that crosses it, and of the cost.
use Rattle.std.specs.Prelude.{◌≡◌, ℕ, ◌<◌, ◌≤◌, List, length, slice_index_or, ℤ, pos, neg_ℤ, ◌+ℤ◌, ◌-ℤ◌, ◌*ℤ◌, if◌then◌else◌, nat_le, false, ◌≤ℤ◌, ◌<ℤ◌}
use Rattle.pesp_problem.specs.declared.limits.TheConstants.{MOST_WEIGHT}
use Rattle.pesp_problem.specs.Sums.{sum_below}
use Rattle.pesp_problem.specs.Timetables.{remainder}
use Rattle.pesp_propagate.specs.declared.crossing.Crossing.{Crossing}

-- what a place past the end is read as
abbrev pub no_crossing : Crossing
no_crossing = record { slack = 0; span = 0; weight = 0; inward = false }

-- the row at a place among those that cross, from 0
abbrev pub crossing_at : List Crossing → ℕ → Crossing
crossing_at rows i = slice_index_or rows i no_crossing

-- the number at a place, 0 past the end
abbrev pub number_at : List ℤ → ℕ → ℤ
number_at xs i = slice_index_or xs i (pos 0)

-- by how much the difference of times of the row's ends grows, when the side is shifted by d: its head is on the side, or its tail is
abbrev pub growth : Crossing → ℕ → ℤ
growth row d = if row.inward then pos d else neg_ℤ (pos d)

-- the slack of the row when the side is shifted by d
abbrev pub moved : ℕ → Crossing → ℕ → ℕ
moved period row d = remainder period (pos row.slack +ℤ growth row d)

-- each row that crosses is satisfied when the side is shifted by d
abbrev pub AllFit : ℕ → List Crossing → ℕ → Type 0
AllFit period rows d = (i : ℕ) → i < length rows → moved period (crossing_at rows i) d ≤ (crossing_at rows i).span

-- how much dearer the row becomes
abbrev pub row_change : ℕ → Crossing → ℕ → ℤ
row_change period row d = pos row.weight *ℤ (pos (moved period row d) -ℤ pos row.slack)

-- how much dearer all rows become
abbrev pub change : ℕ → List Crossing → ℕ → ℤ
change period rows d = sum_below (length rows) (λ i. row_change period (crossing_at rows i) d)

-- 1 for a row that isn't satisfied when the side is shifted by d
abbrev pub barred : ℕ → Crossing → ℕ → ℤ
barred period row d = if nat_le (moved period row d) row.span then pos 0 else pos 1

-- how many rows aren't satisfied then
abbrev pub bars_of : ℕ → List Crossing → ℕ → ℤ
bars_of period rows d = sum_below (length rows) (λ i. barred period (crossing_at rows i) d)

-- the slack is within the span, the span below the period, and the weight within its limit
pub record IsCrossing (period : ℕ) (row : Crossing) : Type 0 where
  pub slack : row.slack ≤ row.span
  pub span : row.span < period
  pub weight : row.weight ≤ MOST_WEIGHT

-- the first n numbers are what the function says
abbrev pub Became : ℕ → (ℕ → ℤ) → List ℤ → Type 0
Became n f xs = (d : ℕ) → d < n → number_at xs d ≡ f d

-- an amount below the period under which each row is satisfied, and no such amount is cheaper; 0 exactly where none is
-- cheaper than no shift
pub record IsBestShift (period : ℕ) (rows : List Crossing) (amount : ℕ) : Type 0 where
  pub small : amount < period
  pub fits : AllFit period rows amount
  pub least : (d : ℕ) → d < period → AllFit period rows d → change period rows amount ≤ℤ change period rows d
  pub none : (d : ℕ) → d < period → AllFit period rows d → amount ≡ 0 → pos 0 ≤ℤ change period rows d
  pub cheaper : 0 < amount → change period rows amount <ℤ pos 0
