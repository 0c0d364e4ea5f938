-- What slack ranges allow of sums along a walk, by its net counts.
use Rattle.std.specs.Prelude.{ℕ, ◌≤◌, List, ℤ, pos, neg_ℤ, ◌+ℤ◌, ◌*ℤ◌, ◌≤ℤ◌, unsigned_abs, All}
use Rattle.pesp_problem.specs.declared.limits.TheConstants.{MOST_LOWER, MOST_OFFSET, MOST_SLACK, MOST_WEIGHT}
use Rattle.pesp_problem.specs.declared.arc.Arc.{Arc}
use Rattle.pesp_problem.specs.declared.row.SignedRow.{SignedRow}
use Rattle.pesp_problem.specs.Sums.{scaled}
use Rattle.pesp_problem.specs.Arcs.{arc_at}
use Rattle.pesp_problem.specs.Nodes.{slack_range, least_sum, greatest_sum}
use Rattle.pesp_nodes.specs.declared.ends.End.{End}
use Rattle.pesp_nodes.specs.declared.ends.End.TheVariants.{Low, High}

-- arcs of a network: bounds, spans and weights are within their limits
abbrev pub AreArcs : List Arc → Type 0
AreArcs arcs = All (λ arc. (unsigned_abs arc.lower ≤ MOST_LOWER) × (arc.span ≤ MOST_SLACK) × (arc.weight ≤ MOST_WEIGHT)) arcs

-- an offset range within the limits of the number of a cut
abbrev pub IsOffsetEnds : ℤ × ℤ → Type 0
IsOffsetEnds range = (neg_ℤ (pos MOST_OFFSET) ≤ℤ range.0) × (range.1 ≤ℤ pos MOST_OFFSET)

-- each offset range is within these limits
abbrev pub AreOffsetEnds : List (ℤ × ℤ) → Type 0
AreOffsetEnds offsets = All IsOffsetEnds offsets

-- the number at an end of a range
abbrev pub at_end : End → ℤ → ℤ → ℤ
at_end Low low high = low
at_end High low high = high

-- the least of a factor times a number of a range, or the greatest
abbrev pub extreme : End → ℤ → ℤ → ℤ → ℤ
extreme Low factor low high = scaled factor low high
extreme High factor low high = scaled factor high low

-- the least of a count times the durations of the row at place i, or the greatest
abbrev pub end_term : End → List Arc → List (ℕ × ℕ) → ℕ → ℤ → ℤ
end_term end arcs slacks i count = extreme end count ((arc_at arcs i).lower +ℤ pos (slack_range slacks i).0)
    ((arc_at arcs i).lower +ℤ pos (slack_range slacks i).1)

-- the least sum of net count times duration along a walk, or the greatest
abbrev pub end_sum : End → List Arc → List (ℕ × ℕ) → List SignedRow → ℤ
end_sum Low arcs slacks walk = least_sum arcs slacks walk
end_sum High arcs slacks walk = greatest_sum arcs slacks walk

-- the period times an offset is no more than a sum along a walk
abbrev pub IsSmallOffset : ℕ → ℤ → Type 0
IsSmallOffset period z = unsigned_abs (pos period *ℤ z) ≤ 10300000000000

-- each offset of a range is small
abbrev pub IsSmallRange : ℕ → ℤ × ℤ → Type 0
IsSmallRange period range = (z : ℤ) → range.0 ≤ℤ z → z ≤ℤ range.1 → IsSmallOffset period z
