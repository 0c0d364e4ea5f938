-- Ranges of slacks and of offsets: their parts, and what they allow along a walk.
use Rattle.std.specs.Prelude.{ℕ, ◌+◌, ◌≤◌, min, max, List, ℤ, pos, ◌+ℤ◌, ◌*ℤ◌, unsigned_abs, All, Option}
use Rattle.std.specs.Int.{int_min, int_max}
use Rattle.pesp_problem.specs.declared.limits.TheConstants.{MOST_OFFSET, MOST_PERIOD, MOST_SLACK}
use Rattle.pesp_problem.specs.declared.arc.Arc.{Arc}
use Rattle.pesp_problem.specs.declared.row.SignedRow.{SignedRow}
use Rattle.pesp_problem.specs.declared.cut.Cut.{Cut}
use Rattle.pesp_problem.specs.declared.cut.Cut.TheVariants.{Slack, Offset}
use Rattle.pesp_problem.specs.declared.cut.Side.{Side}
use Rattle.pesp_problem.specs.declared.cut.Side.TheVariants.{Low, High}
use Rattle.pesp_problem.specs.Sums.{scaled}
use Rattle.pesp_problem.specs.Arcs.{Net, arc_at}
use Rattle.pesp_problem.specs.Walks.{Names}
use Rattle.pesp_problem.specs.Nodes.{slack_range, odijk_range, range_or_none}

-- slack ranges with ends that a cut can make
abbrev pub AreSlackEnds : List (ℕ × ℕ) → Type 0
AreSlackEnds slacks = All (λ range. (range.0 ≤ MOST_PERIOD) × (range.1 ≤ MOST_PERIOD)) slacks

-- the row or the cycle of the cut is one of so many, and the number keeps its limit
abbrev pub IsCut : ℕ → ℕ → Cut → Type 0
IsCut rows cycles (Slack row k) = Names rows row × (k ≤ MOST_SLACK)
IsCut rows cycles (Offset cycle k) = Names cycles cycle × (unsigned_abs k ≤ MOST_OFFSET)

-- a part of a slack range that is cut at k
abbrev pub cut_slack : ℕ × ℕ → ℕ → Side → ℕ × ℕ
cut_slack range k Low = (range.0, min range.1 k)
cut_slack range k High = (max range.0 (k + 1), range.1)

-- a part of an offset range that is cut at k
abbrev pub cut_offset : ℤ × ℤ → ℤ → Side → ℤ × ℤ
cut_offset range k Low = (range.0, int_min range.1 k)
cut_offset range k High = (int_max range.0 (k +ℤ pos 1), range.1)

-- the lesser of a factor times each end of a slack range
abbrev pub lesser : ℤ → ℕ × ℕ → ℤ
lesser factor range = int_min (factor *ℤ pos range.0) (factor *ℤ pos range.1)

-- a count times the least duration of the row at place i, or the greatest where the count is negative
abbrev pub least_term : List Arc → List (ℕ × ℕ) → ℕ → ℤ → ℤ
least_term arcs slacks i count = scaled count ((arc_at arcs i).lower +ℤ pos (slack_range slacks i).0)
    ((arc_at arcs i).lower +ℤ pos (slack_range slacks i).1)

-- a count times the greatest duration, or the least where the count is negative
abbrev pub greatest_term : List Arc → List (ℕ × ℕ) → ℕ → ℤ → ℤ
greatest_term arcs slacks i count = scaled count ((arc_at arcs i).lower +ℤ pos (slack_range slacks i).1)
    ((arc_at arcs i).lower +ℤ pos (slack_range slacks i).0)

-- the least and the greatest offset that an offset range and slack ranges leave to a walk
abbrev pub left_of : Net → List (ℕ × ℕ) → ℤ × ℤ → List SignedRow → Option (ℤ × ℤ)
left_of n slacks range walk =
    let bounds = odijk_range n slacks walk in range_or_none (int_max range.0 bounds.0) (int_min range.1 bounds.1)
