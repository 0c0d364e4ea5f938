-- Nodes: a slack range for each row and an offset range for each cycle. What is left there, and what a leaf is worth.
use Rattle.std.specs.Prelude.{ℕ, ◌+◌, ◌-◌, ◌<◌, ◌≤◌, min, max, List, [], ◌∷◌, map, length, slice_index_or, slice_set, ℤ, pos, ◌+ℤ◌, ◌-ℤ◌, ◌*ℤ◌, ◌≤ℤ◌, int_le, if◌then◌else◌, Bool, Option, Some, None, option_map, option_and_then}
use Rattle.std.specs.Int.{int_min, int_max}
use Rattle.pesp_problem.specs.declared.arc.Arc.{Arc}
use Rattle.pesp_problem.specs.declared.row.SignedRow.{SignedRow}
use Rattle.pesp_problem.specs.declared.pair.Pair.{Pair}
use Rattle.pesp_problem.specs.declared.cut.Cut.{Cut}
use Rattle.pesp_problem.specs.declared.cut.Cut.TheVariants.{Slack, Offset}
use Rattle.pesp_problem.specs.declared.cut.Side.{Side}
use Rattle.pesp_problem.specs.declared.cut.Side.TheVariants.{Low, High}
use Rattle.pesp_problem.specs.Sums.{scaled, floor_div, ceil_div}
use Rattle.pesp_problem.specs.Arcs.{Net, arc_at, over_arcs}
use Rattle.pesp_problem.specs.Walks.{net_count, HasOffset}

-- ranges with both ends in them; one whose low end is above its high end is empty
pub record Node : Type 0 where
  pub slacks : List (ℕ × ℕ)
  pub offsets : List (ℤ × ℤ)

-- the slack range of the row at place i
abbrev pub slack_range : List (ℕ × ℕ) → ℕ → ℕ × ℕ
slack_range slacks i = slice_index_or slacks i (0, 0)

-- the offset range of the cycle at place c
abbrev pub offset_range : List (ℤ × ℤ) → ℕ → ℤ × ℤ
offset_range offsets c = slice_index_or offsets c (pos 0, pos 0)

-- the cycle at a place, from 0
abbrev pub cycle_at : List (List SignedRow) → ℕ → List SignedRow
cycle_at table c = slice_index_or table c []

-- each slack is in its range
abbrev pub SlacksIn : Net → (ℕ → ℕ) → List (ℕ × ℕ) → Type 0
SlacksIn n slacks ranges = (i : ℕ) → i < length n.arcs → ((slack_range ranges i).0 ≤ slacks i) × (slacks i ≤ (slack_range ranges i).1)

-- each cycle has an offset, and it is in its range
abbrev pub OffsetsIn : Net → List (List SignedRow) → (ℕ → ℕ) → List (ℤ × ℤ) → Type 0
OffsetsIn n table slacks ranges = (c : ℕ) → c < length table
    → (z : ℤ) × HasOffset n slacks (cycle_at table c) z × ((offset_range ranges c).0 ≤ℤ z)
    × (z ≤ℤ (offset_range ranges c).1)

-- the slacks lie in the node
abbrev pub LieIn : Net → List (List SignedRow) → (ℕ → ℕ) → Node → Type 0
LieIn n table slacks node = SlacksIn n slacks node.slacks × OffsetsIn n table slacks node.offsets

-- ---- the offsets that are left

-- the least sum of net count times duration that the slack ranges allow, and the greatest
abbrev pub least_sum : List Arc → List (ℕ × ℕ) → List SignedRow → ℤ
least_sum arcs slacks walk = over_arcs arcs (λ i.
    scaled (net_count walk i) ((arc_at arcs i).lower +ℤ pos (slack_range slacks i).0)
    ((arc_at arcs i).lower +ℤ pos (slack_range slacks i).1))

-- the greatest sum of net count times duration that the slack ranges allow
abbrev pub greatest_sum : List Arc → List (ℕ × ℕ) → List SignedRow → ℤ
greatest_sum arcs slacks walk = over_arcs arcs
    (λ i. scaled (net_count walk i) ((arc_at arcs i).lower +ℤ pos (slack_range slacks i).1)
    ((arc_at arcs i).lower +ℤ pos (slack_range slacks i).0))

-- the offsets for which the period times the offset lies between these sums (Odijk 1996)
abbrev pub odijk_range : Net → List (ℕ × ℕ) → List SignedRow → ℤ × ℤ
odijk_range n slacks walk = (ceil_div (least_sum n.arcs slacks walk) n.period, floor_div (greatest_sum n.arcs slacks walk) n.period)

-- a range, or none where its low end is above its high end
abbrev pub range_or_none : ℤ → ℤ → Option (ℤ × ℤ)
range_or_none low high = if int_le low high then Some (low, high) else None

-- the least and the greatest offset of the cycle at place c that both ranges have
abbrev pub offsets_left : Net → List (List SignedRow) → Node → ℕ → Option (ℤ × ℤ)
offsets_left n table node c =
    let bounds = odijk_range n node.slacks (cycle_at table c) in
    range_or_none (int_max (offset_range node.offsets c).0 bounds.0) (int_min (offset_range node.offsets c).1 bounds.1)

-- an offset of the range for which the period times it lies between the two sums
abbrev pub IsOffsetLeft : Net → List (List SignedRow) → Node → ℕ → ℤ → Type 0
IsOffsetLeft n table node c z =
    ((offset_range node.offsets c).0 ≤ℤ z) × (z ≤ℤ (offset_range node.offsets c).1)
    × (least_sum n.arcs node.slacks (cycle_at table c) ≤ℤ (pos n.period *ℤ z))
    × ((pos n.period *ℤ z) ≤ℤ greatest_sum n.arcs node.slacks (cycle_at table c))

-- ---- the root and the parts of a branch

-- for each row the slacks from 0 to its span
abbrev pub root_slacks : Net → List (ℕ × ℕ)
root_slacks n = map (λ arc. (0, arc.span)) n.arcs

-- slack ranges from 0 to the span, offset ranges by Odijk's bounds
abbrev pub root : Net → List (List SignedRow) → Node
root n table = record { slacks = root_slacks n; offsets = map (odijk_range n (root_slacks n)) table }

-- the part in which the cut range is at most k
abbrev pub low_part : Node → Cut → Node
low_part node (Slack row k) = record node {
  slacks =
      slice_set node.slacks (row - 1) (
        (slack_range node.slacks (row - 1)).0,
        min (slack_range node.slacks (row - 1)).1 k,
      );
}
low_part node (Offset cycle k) = record node {
  offsets =
      slice_set node.offsets (cycle - 1) (
        (offset_range node.offsets (cycle - 1)).0,
        int_min (offset_range node.offsets (cycle - 1)).1 k,
      );
}

-- the part in which it is at least k + 1
abbrev pub high_part : Node → Cut → Node
high_part node (Slack row k) = record node {
  slacks =
      slice_set node.slacks (row - 1) (
        max (slack_range node.slacks (row - 1)).0 (k + 1),
        (slack_range node.slacks (row - 1)).1,
      );
}
high_part node (Offset cycle k) = record node {
  offsets =
      slice_set node.offsets (cycle - 1) (
        int_max (offset_range node.offsets (cycle - 1)).0 (k +ℤ pos 1),
        (offset_range node.offsets (cycle - 1)).1,
      );
}

-- the part of a node on one side of a cut
abbrev pub part : Node → Cut → Side → Node
part node cut Low = low_part node cut
part node cut High = high_part node cut

-- both sides of the cut have a value of the range that it cuts
abbrev pub LeavesBoth : Node → Cut → Type 0
LeavesBoth node (Slack row k) = let range = slack_range node.slacks (row - 1) in (range.0 ≤ k) × (k + 1 ≤ range.1)
LeavesBoth node (Offset cycle k) = let range = offset_range node.offsets (cycle - 1) in (range.0 ≤ℤ k) × ((k +ℤ pos 1) ≤ℤ range.1)

-- ---- the value of a leaf

-- the sum over the pairs of the multiplier times the net count of the row at place i
abbrev pub flow : List (List SignedRow) → List Pair → ℕ → ℤ
flow table [] i = pos 0
flow table (pair ∷ pairs) i = pair.mult *ℤ net_count (cycle_at table (pair.cycle - 1)) i +ℤ flow table pairs i

-- the sum over the pairs of the multiplier times the least offset left, or the greatest where the multiplier is
-- negative; none where a cycle has no offset left
abbrev pub offset_part : Net → List (List SignedRow) → Node → List Pair → Option ℤ
offset_part n table node [] = Some (pos 0)
offset_part n table node (pair ∷ pairs) =
    option_and_then (λ left. option_map (λ rest. scaled pair.mult left.0 left.1 +ℤ rest)
    (offset_part n table node pairs)) (offsets_left n table node (pair.cycle - 1))

-- the weight, or 0 for a leaf that is to show that no timetable lies in the node
abbrev pub weight_of : Bool → Arc → ℤ
weight_of weighted arc = if weighted then pos arc.weight else pos 0

-- the least that the slack of the row at place i costs beyond the flow
abbrev pub slack_part : Net → List (List SignedRow) → Node → List Pair → Bool → ℕ → ℤ
slack_part n table node pairs weighted i =
    let rest = weight_of weighted (arc_at n.arcs i) -ℤ flow table pairs i in
    int_min (rest *ℤ pos (slack_range node.slacks i).0) (rest *ℤ pos (slack_range node.slacks i).1)

-- what the cost of each timetable in the node is at least, by weak duality
abbrev pub leaf_value : Net → List (List SignedRow) → Node → List Pair → Bool → Option ℤ
leaf_value n table node pairs weighted =
    option_map
    (λ offsets. pos n.period *ℤ offsets -ℤ over_arcs n.arcs (λ i. flow table pairs i *ℤ (arc_at n.arcs i).lower)
    +ℤ over_arcs n.arcs (slack_part n table node pairs weighted))
    (offset_part n table node pairs)
