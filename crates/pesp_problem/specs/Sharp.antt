-- What a leaf is worth that is sharpened by marked walks.
use Rattle.std.specs.Prelude.{ℕ, ◌<◌, List, [], ◌∷◌, length, ℤ, pos, ◌+ℤ◌, ◌-ℤ◌, ◌*ℤ◌, ◌≤ℤ◌, ◌<ℤ◌, Bool, true, false, All, Option, option_map, IsSomeAnd}
use Rattle.std.specs.Int.{int_min}
use Rattle.pesp_problem.specs.declared.arc.Arc.{Arc}
use Rattle.pesp_problem.specs.declared.row.SignedRow.{SignedRow}
use Rattle.pesp_problem.specs.declared.pair.Pair.{Pair}
use Rattle.pesp_problem.specs.Sums.{ceil_div}
use Rattle.pesp_problem.specs.Arcs.{Net, arc_at, over_arcs}
use Rattle.pesp_problem.specs.Walks.{Names}
use Rattle.pesp_problem.specs.Nodes.{Node, slack_range, weight_of, flow, offset_part}
use Rattle.pesp_problem.specs.declared.marked.MarkedRow.{MarkedRow}
use Rattle.pesp_problem.specs.Marked.{IsMarkedWalk, least_gain, gain_at, rates_at}

-- a marked walk with its multiplier
pub record Multiple : Type 0 where
  pub mult : ℕ
  pub walk : List MarkedRow

-- the multipliers of a leaf: over the cycles of the table, over marked walks, and over the weights
pub record Multipliers : Type 0 where
  pub scale : ℕ
  pub pairs : List Pair
  pub multiples : List Multiple

-- pairs alone, as a leaf without marked walks has them
abbrev pub plain : List Pair → Multipliers
plain pairs = record { scale = 1; pairs = pairs; multiples = [] }

-- the scale is above 0, the cycles exist, and the marked walks are closed
pub record AreMultipliers (arcs : List Arc) (table : List (List SignedRow)) (m : Multipliers) : Type 0 where
  pub scale : 0 < m.scale
  pub pairs : All (λ pair. Names (length table) pair.cycle) m.pairs
  pub walks : All (λ multiple. IsMarkedWalk arcs multiple.walk) m.multiples

-- the sum of multiplier times a term of the marked walk
abbrev pub over_multiples : List Multiple → (List MarkedRow → ℤ) → ℤ
over_multiples [] term = pos 0
over_multiples (multiple ∷ multiples) term = pos multiple.mult *ℤ term multiple.walk +ℤ over_multiples multiples term

-- what slack y of the row at place i costs, scaled, beyond the flow and the gains
abbrev pub excess : Net → List (List SignedRow) → Node → Multipliers → Bool → ℕ → ℕ → ℤ
excess n table node m weighted i y = (pos m.scale *ℤ weight_of weighted (arc_at n.arcs i) -ℤ flow table m.pairs i)
    *ℤ pos y -ℤ over_multiples m.multiples (λ walk. gain_at n node.slacks walk i y)

-- the lesser excess at the ends of the row's range
abbrev pub least_excess : Net → List (List SignedRow) → Node → Multipliers → Bool → ℕ → ℤ
least_excess n table node m weighted i = int_min (excess n table node m weighted i (slack_range node.slacks i).0)
    (excess n table node m weighted i (slack_range node.slacks i).1)

-- what the scale times the cost of each timetable in the node is at least, by weak duality and the cycle inequality
abbrev pub sharp_value : Net → List (List SignedRow) → Node → Multipliers → Bool → Option ℤ
sharp_value n table node m weighted =
    option_map
    (λ offsets. pos n.period *ℤ offsets -ℤ over_arcs n.arcs (λ i. flow table m.pairs i *ℤ (arc_at n.arcs i).lower)
    +ℤ over_multiples m.multiples (λ walk. pos (least_gain n node.slacks walk))
    +ℤ over_arcs n.arcs (least_excess n table node m weighted))
    (offset_part n table node m.pairs)

-- what the cost of each timetable in the node is at least: the value by the scale, rounded up
abbrev pub sharp_cost : Net → List (List SignedRow) → Node → Multipliers → Option ℤ
sharp_cost n table node m = option_map (λ v. ceil_div v m.scale) (sharp_value n table node m true)

-- ---- for leaves of a tree

-- the leaf shows that each timetable in the node costs at least this
abbrev pub IsSharpBound : Net → List (List SignedRow) → ℕ → Multipliers → Node → Type 0
IsSharpBound n table least m node = AreMultipliers n.arcs table m × IsSomeAnd (sharp_cost n table node m) (λ c. pos least ≤ℤ c)

-- the leaf shows that no timetable lies in the node
abbrev pub IsSharpShut : Net → List (List SignedRow) → Multipliers → Node → Type 0
IsSharpShut n table m node = AreMultipliers n.arcs table m × IsSomeAnd (sharp_value n table node m false) (λ v. pos 0 <ℤ v)

-- ---- as it is added up

-- the sum over the marked walks of multiplier times the rates of their plain or of their flipped passes of the row at place i
abbrev pub rates : Net → Node → Multipliers → Bool → ℕ → ℤ
rates n node m flipped i = over_multiples m.multiples (λ walk. rates_at n node.slacks walk flipped i)

-- how wide the slack range of the row at place i is
abbrev pub width : List (ℕ × ℕ) → ℕ → ℤ
width slacks i = pos (slack_range slacks i).1 -ℤ pos (slack_range slacks i).0
