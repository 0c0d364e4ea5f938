-- The system of differences of a node: how far levels of events may rise along the rows that cycles pass.
use Rattle.std.specs.Prelude.{◌≡◌, ℕ, zero, suc, ◌+◌, ◌-◌, ◌<◌, ◌≤◌, ◌⊎◌, List, [], ◌∷◌, map, length, slice_index_or, ℤ, pos, ◌+ℤ◌, ◌-ℤ◌, ◌*ℤ◌, Bool, false, All, Some, if◌then◌else◌, ◌==◌}
use Rattle.pesp_problem.specs.declared.row.SignedRow.{SignedRow}
use Rattle.pesp_problem.specs.declared.arc.Arc.{Arc}
use Rattle.pesp_problem.specs.declared.pair.Pair.{Pair}
use Rattle.pesp_problem.specs.Sums.{sum_below}
use Rattle.pesp_problem.specs.Arcs.{Net, arc_at}
use Rattle.pesp_problem.specs.Walks.{Names, start, finish}
use Rattle.pesp_problem.specs.Forests.{own_row}
use Rattle.pesp_problem.specs.Nodes.{Node, cycle_at, slack_range, offsets_left}
use Rattle.pesp_nodes.specs.declared.passages.Passage.{Passage}
use Rattle.pesp_nodes.specs.Passages.{ArePassages, passages_at}
use Rattle.pesp_bound.specs.declared.edge.Edge.{Edge}
use Rattle.pesp_bound.specs.Settling.{edge_at}

-- the number of the last of the first m cycles that begins with the row at place i, or 0
abbrev pub last_owner : List (List SignedRow) → ℕ → ℕ → ℕ
last_owner table zero i = 0
last_owner table (suc m) i = if own_row (cycle_at table m) == i + 1 then m + 1 else last_owner table m i

-- the offsets by which a row is shifted: those left of the cycle that owns it, 0 where none does
abbrev pub IsShift : Net → List (List SignedRow) → Node → ℕ → ℤ × ℤ → Type 0
IsShift n table node owner shift = ((owner ≡ 0) × (shift ≡ (pos 0, pos 0)))
    ⊎ ((0 < owner) × (offsets_left n table node (owner - 1) ≡ Some shift))

-- the offsets by which the row at place i is shifted
abbrev pub shift_at : List (ℤ × ℤ) → ℕ → ℤ × ℤ
shift_at shifts i = slice_index_or shifts i (pos 0, pos 0)

-- the shifts of the rows, as far as the first m cycles own them
abbrev pub AreRowShifts : Net → List (List SignedRow) → Node → ℕ → List (ℤ × ℤ) → Type 0
AreRowShifts n table node m shifts = (i : ℕ) → i < length shifts → IsShift n table node (last_owner table m i) (shift_at shifts i)

-- the most by which levels may rise from a row's tail to its head: its greatest duration less so many periods; and from
-- its head to its tail: so many periods less its least duration
abbrev pub rise_bound : ℕ → Arc → ℕ × ℕ → ℤ × ℤ → Bool → ℤ
rise_bound period arc slacks shift plus =
    if plus then arc.lower +ℤ pos slacks.1 -ℤ pos period *ℤ shift.0
    else pos period *ℤ shift.1 -ℤ (arc.lower +ℤ pos slacks.0)

-- the most by which levels may rise along a signed row, by its slack range and its shift
abbrev pub bound_of : Net → List (ℕ × ℕ) → List (ℤ × ℤ) → SignedRow → ℤ
bound_of n slacks shifts s = rise_bound n.period (arc_at n.arcs (s.row - 1)) (slack_range slacks (s.row - 1))
    (shift_at shifts (s.row - 1)) s.plus

-- the edge along a signed row whose loss less gain is that bound
pub record IsDemand (n : Net) (slacks : List (ℕ × ℕ)) (shifts : List (ℤ × ℤ)) (s : SignedRow) (edge : Edge) : Type 0 where
  pub starts : edge.start ≡ start n.arcs s
  pub finishes : edge.finish ≡ finish n.arcs s
  pub bounds : pos edge.loss ≡ pos edge.gain +ℤ bound_of n slacks shifts s
  pub small : edge.gain ≤ 10300001030000

-- what a place past the end is read as
abbrev pub no_signed : SignedRow
no_signed = record { row = 0; plus = false }

-- the signed row at a place, from 0
abbrev pub signed_at : List SignedRow → ℕ → SignedRow
signed_at rows k = slice_index_or rows k no_signed

-- an edge for each signed row
pub record AreDemands (n : Net) (slacks : List (ℕ × ℕ)) (shifts : List (ℤ × ℤ)) (rows : List SignedRow) (edges : List Edge) : Type 0 where
  pub long : length edges ≡ length rows
  pub each : (k : ℕ) → k < length rows → IsDemand n slacks shifts (signed_at rows k) (edge_at edges k)

-- the rows that cycles pass, under both signs, as far as the first m rows
pub record ArePassed (by_row : List (List Passage)) (m : ℕ) (rows : List SignedRow) : Type 0 where
  pub exist : All (λ s. Names (length by_row) s.row) rows
  pub all : (s : SignedRow) → Names m s.row → 0 < length (passages_at by_row (s.row - 1))
      → (k : ℕ) × (k < length rows) × (signed_at rows k ≡ s)

-- the edges along the rows that cycles pass, each shifted by the offsets left of its cycle
pub record IsSystem (n : Net) (table : List (List SignedRow)) (node : Node) (rows : List SignedRow) (edges : List Edge) : Type 0 where
  pub shifts : List (ℤ × ℤ)
  pub by_row : List (List Passage)
  pub long : length shifts ≡ length n.arcs
  pub are_shifts : AreRowShifts n table node (length table) shifts
  pub passages : ArePassages (length n.arcs) (length table) table by_row
  pub passed : ArePassed by_row (length by_row) rows
  pub demands : AreDemands n node.slacks shifts rows edges

-- the signed rows at these places
abbrev pub walk_along : List SignedRow → List ℕ → List SignedRow
walk_along rows way = map (signed_at rows) way

-- the flow on the row with which a cycle begins
abbrev pub own_flow : List (List SignedRow) → (ℕ → ℤ) → ℕ → ℤ
own_flow table flow c = flow (own_row (cycle_at table c) - 1)

-- the sum over the pairs of the multiplier times the cycle's term
abbrev pub over_pairs : List Pair → (ℕ → ℤ) → ℤ
over_pairs [] term = pos 0
over_pairs (pair ∷ pairs) term = pair.mult *ℤ term (pair.cycle - 1) +ℤ over_pairs pairs term

-- the pairs give the cycles at the places below n these multipliers
abbrev pub AreCycleMultipliers : ℕ → (ℕ → ℤ) → List Pair → Type 0
AreCycleMultipliers n mult pairs = (term : ℕ → ℤ) → over_pairs pairs term ≡ sum_below n (λ c. mult c *ℤ term c)
