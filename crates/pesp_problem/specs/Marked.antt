-- Marked walks: how far their rows are from the ends of a node's slack ranges, and what they gain there.
use Rattle.std.specs.Prelude.{ℕ, ◌+◌, ◌-◌, ◌*◌, List, [], ◌∷◌, map, ℤ, pos, neg_ℤ, ◌+ℤ◌, ◌-ℤ◌, ◌*ℤ◌, Bool, not, ◌&&◌, ◌==◌, if◌then◌else◌}
use Rattle.pesp_problem.specs.declared.arc.Arc.{Arc}
use Rattle.pesp_problem.specs.declared.row.SignedRow.{SignedRow}
use Rattle.pesp_problem.specs.Timetables.{remainder}
use Rattle.pesp_problem.specs.Arcs.{Net, arc_at}
use Rattle.pesp_problem.specs.Walks.{IsWalk, sign}
use Rattle.pesp_problem.specs.Nodes.{slack_range}
use Rattle.pesp_problem.specs.declared.marked.MarkedRow.{MarkedRow}

-- the rows of a marked walk with their signs, without their marks
abbrev pub signed_rows : List MarkedRow → List SignedRow
signed_rows walk = map (λ s. s.signed) walk

-- without its marks it is a closed walk
abbrev pub IsMarkedWalk : List Arc → List MarkedRow → Type 0
IsMarkedWalk arcs walk = IsWalk arcs (signed_rows walk)

-- the place of the row, from 0
abbrev pub place : MarkedRow → ℕ
place s = s.signed.row - 1

-- the sum of a term along a marked walk
abbrev pub walk_sum : List MarkedRow → (MarkedRow → ℤ) → ℤ
walk_sum [] term = pos 0
walk_sum (s ∷ walk) term = term s +ℤ walk_sum walk term

-- ---- distances

-- the end of a slack range from which a row is measured: the low end, or the high end where it is flipped
abbrev pub end_of : Bool → ℕ × ℕ → ℕ
end_of flipped range = if flipped then range.1 else range.0

-- how far a slack is from that end
abbrev pub distance : Bool → ℕ × ℕ → ℕ → ℤ
distance flipped range y = if flipped then pos range.1 -ℤ pos y else pos y -ℤ pos range.0

-- whether the direction of a row is plus: its sign where it is plain, the opposite sign where it is flipped
abbrev pub rises : MarkedRow → Bool
rises s = if s.flipped then not s.signed.plus else s.signed.plus

-- the duration of a row at distance 0
abbrev pub base : List Arc → List (ℕ × ℕ) → MarkedRow → ℤ
base arcs ranges s = (arc_at arcs (place s)).lower +ℤ pos (end_of s.flipped (slack_range ranges (place s)))

-- ---- the cycle inequality

-- the remainder by the period of what the bases lack along the walk
abbrev pub rest : Net → List (ℕ × ℕ) → List MarkedRow → ℕ
rest n ranges walk = remainder n.period (neg_ℤ (walk_sum walk (λ s. sign s.signed *ℤ base n.arcs ranges s)))

-- what a unit of distance counts: the period less the rest where the direction is plus, the rest where it is minus
abbrev pub rate : ℕ → ℕ → MarkedRow → ℕ
rate period alpha s = if rises s then period - alpha else alpha

-- the sum along the walk of rate times distance
abbrev pub gain : Net → List (ℕ × ℕ) → (ℕ → ℕ) → List MarkedRow → ℤ
gain n ranges slacks walk = walk_sum walk (λ s. pos (rate n.period (rest n ranges walk) s) *ℤ distance s.flipped
    (slack_range ranges (place s)) (slacks (place s)))

-- what the gain is at least (Nachtigall 1998; with flipped rows Lindner and others 2020)
abbrev pub least_gain : Net → List (ℕ × ℕ) → List MarkedRow → ℕ
least_gain n ranges walk = rest n ranges walk * (n.period - rest n ranges walk)

-- the part of the gain that the row at place i makes at slack y
abbrev pub gain_at : Net → List (ℕ × ℕ) → List MarkedRow → ℕ → ℕ → ℤ
gain_at n ranges walk i y = walk_sum walk (λ s. if s.signed.row
    == i + 1 then pos (rate n.period (rest n ranges walk) s) *ℤ distance s.flipped
    (slack_range ranges i) y else pos 0)

-- the rates of the plain or of the flipped passes of the row at place i, added up
abbrev pub rates_at : Net → List (ℕ × ℕ) → List MarkedRow → Bool → ℕ → ℤ
rates_at n ranges walk flipped i = walk_sum walk (λ s. if (s.signed.row == i + 1)
    && (if flipped then s.flipped else not s.flipped) then pos (rate n.period (rest n ranges walk) s) else pos 0)
