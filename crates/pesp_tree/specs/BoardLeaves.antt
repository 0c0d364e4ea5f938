-- The values of a tree's bound leaves, and the least of them.
use Rattle.std.specs.Prelude.{◌≡◌, ℕ, min, List, ℤ, pos, negsuc, Option, Some, None, true}
use Rattle.std.specs.Int.{int_min}
use Rattle.pesp_problem.specs.declared.row.SignedRow.{SignedRow}
use Rattle.pesp_problem.specs.declared.pair.Pair.{Pair}
use Rattle.pesp_problem.specs.declared.cut.Cut.{Cut}
use Rattle.pesp_problem.specs.declared.cut.Side.{Side}
use Rattle.pesp_problem.specs.Arcs.{Net}
use Rattle.pesp_problem.specs.Nodes.{Node, leaf_value, low_part, high_part}
use Rattle.pesp_truth.specs.Trees.{Tree, Ends, Branch, Bound, Shut}
use Rattle.pesp_truth.specs.Paths.{along}
use Rattle.pesp_truth.specs.Leaves.{IsLeafAt}

-- a bound leaf of a tree that stands at a node has this value, with the rows' weights
pub record HasValue (n : Net) (table : List (List SignedRow)) (tree : Tree) (node : Node) (value : ℤ) : Type 0 where
  pub path : List (Cut × Side)
  pub pairs : List Pair
  pub leaf : IsLeafAt tree path (Bound pairs)
  pub worth : leaf_value n table (along node path) pairs true ≡ Some value

-- the lesser of two values, where there is one
abbrev pub lesser_value : Option ℤ → Option ℤ → Option ℤ
lesser_value None b = b
lesser_value (Some a) None = Some a
lesser_value (Some a) (Some b) = Some (int_min a b)

-- the least value of a bound leaf of a tree that stands at a node, none where there is no bound leaf
abbrev pub least_value : Net → List (List SignedRow) → Tree → Node → Option ℤ
least_value n table (Ends (Bound pairs)) node = leaf_value n table node pairs true
least_value n table (Ends (Shut reason)) node = None
least_value n table (Branch cut low high) node =
    lesser_value (least_value n table low (low_part node cut)) (least_value n table high (high_part node cut))

-- a value as it is told: one above 999999999999999999 as that number; no bound leaf of a board has one below 0
abbrev pub told : ℤ → ℕ
told (pos n) = min n 999999999999999999
told (negsuc n) = 0
