-- Durations along a way, and times that fit a forest.
use Rattle.std.specs.Prelude.{◌≡◌, ℕ, ◌-◌, ◌<◌, ◌≤◌, List, [], ◌∷◌, ℤ, pos, neg_ℤ, ◌+ℤ◌, ◌-ℤ◌, ◌*ℤ◌, if◌then◌else◌, length, slice_index, unsigned_abs}
use Rattle.pesp_problem.specs.declared.limits.TheConstants.{MOST_LOWER, MOST_PERIOD}
use Rattle.pesp_problem.specs.declared.row.SignedRow.{SignedRow}
use Rattle.pesp_problem.specs.declared.arc.Arc.{Arc}
use Rattle.pesp_problem.specs.Arcs.{arc_at, tail_of, head_of}
use Rattle.pesp_problem.specs.Congruences.{IsSame}
use Rattle.pesp_network.specs.declared.parts.Forest.{Forest}
use Rattle.pesp_network.specs.Networks.{HasOpenRow}
use Rattle.pesp_network.specs.Growing.{at}
use Rattle.pesp_network.specs.Rooted.{AreTreeRows}

-- the durations of the rows, with their signs
abbrev pub duration_of : (ℕ → ℤ) → List SignedRow → ℤ
duration_of d [] = pos 0
duration_of d (s ∷ way) = (if s.plus then d s.row else neg_ℤ (d s.row)) +ℤ duration_of d way

-- it is a multiple of the period
abbrev pub IsMultiple : ℕ → ℤ → Type 0
IsMultiple period sum = (z : ℤ) × (sum ≡ pos period *ℤ z)

-- the lower bound of a row and its slack
abbrev pub duration : List Arc → List ℕ → ℕ → ℤ
duration arcs slacks k = (arc_at arcs (k - 1)).lower +ℤ pos (slice_index slacks (k - 1))

-- one slack below the period for each row, in ranges in which no sum overflows
pub record AreSlacks (period : ℕ) (arcs : List Arc) (slacks : List ℕ) : Type 0 where
  pub period_some : 0 < period
  pub period_most : period ≤ MOST_PERIOD
  pub count : length slacks ≡ length arcs
  pub small : (i : ℕ) → i < length slacks → slice_index slacks i < period
  pub lowers : (i : ℕ) → unsigned_abs (arc_at arcs i).lower ≤ MOST_LOWER

-- each event up to a place that is joined upwards has its row's slack
abbrev pub FitsForest : ℕ → List Arc → Forest → List ℕ → List ℕ → ℕ → Type 0
FitsForest period arcs g slacks times i = (x : ℕ) → 0 < at g.by.items x → at g.place.items x ≤ i
    → IsSame period (pos (at times (head_of arcs (at g.by.items x))) -ℤ pos
    (at times (tail_of arcs (at g.by.items x)))) (duration arcs slacks (at g.by.items x))

-- with any list of the forest's rows, some row outside it is open
abbrev pub OpensRow : ℕ → ℕ → List Arc → Forest → List ℕ → Type 0
OpensRow period n arcs g slacks = (rows : List ℕ) → AreTreeRows n g rows
    → HasOpenRow (record { period = period; arcs = arcs }) rows (slice_index slacks)
