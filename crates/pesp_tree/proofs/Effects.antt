-- What another leaf or a split changes in a tree under work, and what it leaves.
use Rattle.std.proofs.Common.{◌≡◌, ◌≢◌, ℕ, ◌+◌, ◌<◌, [], ◌∷◌, ◌++◌, length}
use Rattle.std.specs.Prelude.{Some, None, IsSome}
use Rattle.std.proofs.lemmas.List.{get_or-set_other, get_or-set_same}
use Rattle.pesp_problem.specs.declared.cut.Cut.{Cut}
use Rattle.pesp_problem.specs.declared.cut.Side.TheVariants.{Low, High}
use Rattle.pesp_truth.specs.Trees.{Leaf}
use Rattle.pesp_tree.specs.WorkTrees.{WorkTreeValue, path_to, leaf_at, with_leaf, with_branch}
use Rattle.pesp_tree.proofs.Changes.{kept_other, kept_low, kept_high, kept_split, get-left, get-first, get-next}
use Rattle.pesp_tree.proofs.Standing.{not_none, in_range}

pub put_here : (t : WorkTreeValue) (node : ℕ) (leaf : Leaf) → IsSome (leaf_at t node) → leaf_at (with_leaf t node leaf) node ≡ Some leaf
put_here t node leaf h = get_or-set_same t.leaves node (Some leaf) None (in_range t.leaves node (not_none (leaf_at t node) h))

pub put_others : (t : WorkTreeValue) (node : ℕ) (leaf : Leaf) (other : ℕ) → other ≢ node
    → leaf_at (with_leaf t node leaf) other ≡ leaf_at t other
put_others t node leaf other h = get_or-set_other t.leaves node other (Some leaf) None h

pub split_here : (t : WorkTreeValue) (node : ℕ) (cut : Cut) (low high : Leaf) → node < length t.leaves
    → leaf_at (with_branch t node cut low high) node ≡ None
split_here t node cut low high h = kept_split t.leaves node (Some low) (Some high) h

pub split_low : (t : WorkTreeValue) (node : ℕ) (cut : Cut) (low high : Leaf)
    → leaf_at (with_branch t node cut low high) (length t.leaves) ≡ Some low
split_low t node cut low high = kept_low t.leaves node (Some low) (Some high)

pub split_high : (t : WorkTreeValue) (node : ℕ) (cut : Cut) (low high : Leaf)
    → leaf_at (with_branch t node cut low high) (length t.leaves + 1) ≡ Some high
split_high t node cut low high = kept_high t.leaves node (Some low) (Some high)

pub split_others : (t : WorkTreeValue) (node : ℕ) (cut : Cut) (low high : Leaf) (other : ℕ)
    → other < length t.leaves → other ≢ node → leaf_at (with_branch t node cut low high) other ≡ leaf_at t other
split_others t node cut low high other h k = kept_other t.leaves node (Some low) (Some high) other h k

pub path_low : (t : WorkTreeValue) (node : ℕ) (cut : Cut) (low high : Leaf)
    → path_to (with_branch t node cut low high) (length t.paths) ≡ path_to t node ++ (cut, Low) ∷ []
path_low t node cut low high = get-first t.paths _ _ []

pub path_high : (t : WorkTreeValue) (node : ℕ) (cut : Cut) (low high : Leaf)
    → path_to (with_branch t node cut low high) (length t.paths + 1) ≡ path_to t node ++ (cut, High) ∷ []
path_high t node cut low high = get-next t.paths _ _ []

pub path_others : (t : WorkTreeValue) (node : ℕ) (cut : Cut) (low high : Leaf) (other : ℕ) → other < length t.paths
    → path_to (with_branch t node cut low high) other ≡ path_to t other
path_others t node cut low high other h = get-left t.paths _ other [] h
