-- What a best leaf is.
use Rattle.std.specs.Prelude.{◌≡◌, ⊤, ℕ, ◌-◌, ◌<◌, List, length, pos, ◌≤ℤ◌, ◌<ℤ◌, true, false, Some, None, IfSome, IsSomeAnd}
use Rattle.pesp_problem.specs.declared.pair.Pair.{Pair}
use Rattle.pesp_problem.specs.Walks.{Names}
use Rattle.pesp_problem.specs.Nodes.{Node, offsets_left, leaf_value}
use Rattle.pesp_bound.specs.declared.leaf.Leaf.{Leaf}
use Rattle.pesp_bound.specs.declared.leaf.Leaf.TheVariants.{Gap, Nothing, Bound}
use Rattle.pesp_nodes.specs.Problems.{ProblemValue, problem_net, ArePairs}

-- no offset of the cycle at place c is left
abbrev pub IsGapAt : ProblemValue → Node → ℕ → Type 0
IsGapAt p node c = offsets_left (problem_net p) p.table node c ≡ None

-- each cycle has an offset left
abbrev pub HasNoGap : ProblemValue → Node → Type 0
HasNoGap p node = (c : ℕ) → c < length p.table → IsGapAt p node c → ⊥

-- a gap leaf names a cycle with no offset left; elsewhere there is none, and the pairs keep their limits: those of a
-- nothing leaf have a value above 0 with all weights 0, those of a bound leaf have the value with the rows' weights
abbrev pub IsLeafOf : ProblemValue → Node → Leaf → Type 0
IsLeafOf p node (Gap cycle) = Names (length p.table) cycle × IsGapAt p node (cycle - 1)
IsLeafOf p node (Nothing pairs) = HasNoGap p node × ArePairs (length p.table) pairs
    × IsSomeAnd (leaf_value (problem_net p) p.table node pairs false) (λ v. pos 0 <ℤ v)
IsLeafOf p node (Bound pairs value) = HasNoGap p node × ArePairs (length p.table) pairs
    × (leaf_value (problem_net p) p.table node pairs true ≡ Some value)

-- a bound leaf has at least the value of these pairs, where they have one
abbrev pub IsNoLess : ProblemValue → Node → List Pair → Leaf → Type 0
IsNoLess p node pairs (Gap cycle) = ⊤
IsNoLess p node pairs (Nothing others) = ⊤
IsNoLess p node pairs (Bound others value) = IfSome (leaf_value (problem_net p) p.table node pairs true) (λ v. v ≤ℤ value)
