-- No pairs, and single pairs whose multiplier is 1 or -1.
use Rattle.std.specs.Prelude.{◌≡◌, ◌⊎◌, ℕ, List, [], ◌∷◌, length, pos, negsuc, ◌≤ℤ◌, IfSome, IsSomeAnd, true}
use Rattle.pesp_problem.specs.declared.row.SignedRow.{SignedRow}
use Rattle.pesp_problem.specs.declared.pair.Pair.{Pair}
use Rattle.pesp_problem.specs.Arcs.{Net}
use Rattle.pesp_problem.specs.Walks.{Names}
use Rattle.pesp_problem.specs.Nodes.{Node, root, leaf_value}
use Rattle.pesp_nodes.specs.Problems.{ProblemValue, problem_net, ArePairs}

-- one pair of a cycle, with the multiplier 1
abbrev pub plus_pair : ℕ → List Pair
plus_pair cycle = record { cycle = cycle; mult = pos 1 } ∷ []

-- with the multiplier -1
abbrev pub minus_pair : ℕ → List Pair
minus_pair cycle = record { cycle = cycle; mult = negsuc 0 } ∷ []

-- no pairs, or one pair of a cycle with the multiplier 1 or -1
abbrev pub IsSingle : ℕ → List Pair → Type 0
IsSingle cycles pairs = (pairs ≡ []) ⊎ ((cycle : ℕ) × Names cycles cycle × ((pairs ≡ plus_pair cycle) ⊎ (pairs ≡ minus_pair cycle)))

-- at least the value at the root of no pairs, and of each single pair that has one
abbrev pub IsAboveSingles : Net → List (List SignedRow) → ℕ → Type 0
IsAboveSingles n table l = (pairs : List Pair) → IsSingle (length table) pairs
    → IfSome (leaf_value n table (root n table) pairs true) (λ v. v ≤ℤ pos l)

-- pairs whose value at a node is no less than that of no pairs, and of each single pair that has one
pub record IsBestSingle (p : ProblemValue) (node : Node) (best : List Pair) : Type 0 where
  pub pairs : ArePairs (length p.table) best
  pub others : (pairs : List Pair) → IsSingle (length p.table) pairs
      → IfSome (leaf_value (problem_net p) p.table node pairs true)
      (λ v. IsSomeAnd (leaf_value (problem_net p) p.table node best true) (λ w. v ≤ℤ w))
