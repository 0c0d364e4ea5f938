-- Problems: a network with a table of closed walks, its nodes, and the pairs of its leaves.
use Rattle.std.specs.Prelude.{◌≡◌, ⊤, ℕ, ◌-◌, ◌<◌, ◌≤◌, List, length, slice_index_or, unsigned_abs, All}
use Rattle.pesp_problem.specs.declared.limits.TheConstants.{MOST_CYCLES, MOST_MULTIPLIER, MOST_SIGNED_ROWS}
use Rattle.pesp_problem.specs.declared.row.SignedRow.{SignedRow}
use Rattle.pesp_problem.specs.declared.arc.Arc.{Arc}
use Rattle.pesp_problem.specs.declared.pair.Pair.{Pair}
use Rattle.pesp_problem.specs.declared.cut.Cut.{Cut}
use Rattle.pesp_problem.specs.Arcs.{Net}
use Rattle.pesp_problem.specs.Walks.{Names, IsWalk}
use Rattle.pesp_problem.specs.Nodes.{Node, cycle_at}
use Rattle.pesp_problem.specs.Ranges.{IsCut}
use Rattle.pesp_network.specs.Networks.{NetworkValue, net_of_network, signed_rows}
use Rattle.pesp_nodes.specs.declared.refusal.ProblemRefusal.{ProblemRefusal}
use Rattle.pesp_nodes.specs.declared.refusal.ProblemRefusal.TheVariants.{Memory, OpenWalk, TableTooLarge}

-- a network and a table of walks along its rows
pub record ProblemValue : Type 0 where
  pub network : NetworkValue
  pub table : List (List SignedRow)

-- the period and the arcs of a problem
abbrev pub problem_net : ProblemValue → Net
problem_net p = net_of_network p.network

-- at most 100000 cycles with at most 10000000 signed rows
pub record IsSmallTable (table : List (List SignedRow)) : Type 0 where
  pub cycles : length table ≤ MOST_CYCLES
  pub rows : signed_rows table ≤ MOST_SIGNED_ROWS

-- the walk of this number, from 1, is no closed walk, and each walk before it is one
pub record IsFirstOpen (arcs : List Arc) (table : List (List SignedRow)) (cycle : ℕ) : Type 0 where
  pub exists : Names (length table) cycle
  pub before : (c : ℕ) → c < cycle - 1 → IsWalk arcs (cycle_at table c)
  pub opens : IsWalk arcs (cycle_at table (cycle - 1)) → ⊥

-- all walks of the table close, and it passes a limit
pub record IsTooLargeTable (arcs : List Arc) (table : List (List SignedRow)) : Type 0 where
  pub closed : (c : ℕ) → c < length table → IsWalk arcs (cycle_at table c)
  pub large : IsSmallTable table → ⊥

-- when a problem isn't made
abbrev pub IsProblemRefusal : List Arc → List (List SignedRow) → ProblemRefusal → Type 0
IsProblemRefusal arcs table Memory = ⊤
IsProblemRefusal arcs table (OpenWalk cycle) = IsFirstOpen arcs table cycle
IsProblemRefusal arcs table TableTooLarge = IsTooLargeTable arcs table

-- a slack range for each row and an offset range for each cycle
pub record IsNodeOf (p : ProblemValue) (node : Node) : Type 0 where
  pub slacks : length node.slacks ≡ length p.network.rows
  pub offsets : length node.offsets ≡ length p.table

-- the row or the cycle exists, and the number keeps its limit
abbrev pub IsCutOf : Node → Cut → Type 0
IsCutOf node cut = IsCut (length node.slacks) (length node.offsets) cut

-- the pairs' cycles rise
abbrev pub Rise : List Pair → Type 0
Rise pairs = (i j : ℕ) (d : Pair) → i < j → j < length pairs → (slice_index_or pairs i d).cycle < (slice_index_or pairs j d).cycle

-- a pair of one of so many cycles, with a multiplier within its limit
pub record IsPairOf (cycles : ℕ) (pair : Pair) : Type 0 where
  pub names : Names cycles pair.cycle
  pub some : 1 ≤ unsigned_abs pair.mult
  pub most : unsigned_abs pair.mult ≤ MOST_MULTIPLIER

-- pairs that rise and keep their limits
pub record ArePairs (cycles : ℕ) (pairs : List Pair) : Type 0 where
  pub rise : Rise pairs
  pub each : All (IsPairOf cycles) pairs
