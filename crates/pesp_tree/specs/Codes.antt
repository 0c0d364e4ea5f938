-- How proofs store the value of a tree under work, so that they can tell values apart.
use Rattle.std.specs.Prelude.{ℕ, List, Option, refl}
use Rattle.std.specs.Coded.{Coded, code_by, coded_ℕ, coded×, coded_list, coded_option}
use Rattle.pesp_problem.specs.declared.cut.Cut.{Cut}
use Rattle.pesp_problem.specs.declared.cut.Side.{Side}
use Rattle.pesp_truth.specs.Trees.{Tree, Leaf}
use Rattle.pesp_truth.specs.Codes.{cut_code, side_code, leaf_code, tree_code}
use Rattle.pesp_tree.specs.WorkTrees.{WorkTreeValue}

-- the code of trees under work: a tree, the paths and the leaves of its nodes, and the room
abbrev pub work_tree_code : Coded WorkTreeValue
work_tree_code =
    code_by (Tree × (List (List (Cut × Side)) × (List (Option Leaf) × ℕ)))
    (coded× tree_code (coded× (coded_list (coded_list (coded× cut_code side_code))) (coded× (coded_list (coded_option leaf_code)) coded_ℕ)))
    (λ t. (t.tree, (t.paths, (t.leaves, t.room)))) (λ x. record { tree = x.0; paths = x.1.0; leaves = x.1.1.0; room = x.1.1.1 }) (λ _. refl)
