-- The root of the tree: the leaf that is given for it, and what its value says from then on.
use Rattle.std.specs.Prelude.{ℕ, List, Bool, true, false, Some, None}
use Rattle.pesp_problem.specs.declared.row.SignedRow.{SignedRow}
use Rattle.pesp_problem.specs.Arcs.{Net}
use Rattle.pesp_problem.specs.Nodes.{root}
use Rattle.pesp_truth.specs.Trees.{Plain, ByPropagation, IsShut}
use Rattle.pesp_nodes.specs.Problems.{ProblemValue, problem_net}
use Rattle.pesp_bound.specs.declared.leaf.Leaf.{Leaf as Found}
use Rattle.pesp_bound.specs.declared.leaf.Leaf.TheVariants.{Gap, Nothing, Bound}
use Rattle.pesp_tree.specs.declared.work.Work.{Work}
use Rattle.pesp_tree.specs.declared.work.Work.TheVariants as works
use Rattle.pesp_tree.specs.States.{State, IsAtMost, least}
use Rattle.pesp_search.specs.Singles.{IsAboveSingles}

-- the work that a leaf is; a bound that propagation shuts is shut
abbrev pub work_of : Bool → Found → Work
work_of shut (Gap cycle) = works.Gap cycle
work_of shut (Nothing pairs) = works.Nothing pairs
work_of true (Bound pairs value) = works.Propagated
work_of false (Bound pairs value) = works.Leaf pairs

-- under the slack ranges of the root the rows support some family of sets without an empty one
abbrev pub IsRootSupported : Net → List (List SignedRow) → Type 0
IsRootSupported n table = IsShut (Plain None) n table ByPropagation (root n table) → ⊥

-- where there is a least value the root is supported, and each bound that the value reaches is above the value at the
-- root of no pairs, and of each single pair that has one
abbrev pub IsRootBound : ProblemValue → State → Type 0
IsRootBound p state = (l : ℕ) → IsAtMost (least p state) (Some l) → IsRootSupported (problem_net p) p.table × IsAboveSingles (problem_net p) p.table l
