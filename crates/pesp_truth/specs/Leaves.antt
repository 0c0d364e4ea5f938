-- Leaves by the paths to them from the root.
use Rattle.std.specs.Prelude.{◌≡◌, List, [], ◌∷◌, ◌++◌, map}
use Rattle.pesp_problem.specs.declared.cut.Cut.{Cut}
use Rattle.pesp_problem.specs.declared.cut.Side.{Side}
use Rattle.pesp_problem.specs.declared.cut.Side.TheVariants.{Low, High}
use Rattle.pesp_truth.specs.Trees.{Tree, Leaf, Ends, Branch}

-- the path leads through the branches that it names, each with its cut, and ends at this leaf
abbrev pub IsLeafAt : Tree → List (Cut × Side) → Leaf → Type 0
IsLeafAt (Ends leaf) [] end = leaf ≡ end
IsLeafAt (Ends leaf) (step ∷ path) end = ⊥
IsLeafAt (Branch cut low high) [] end = ⊥
IsLeafAt (Branch cut low high) ((c, Low) ∷ path) end = (c ≡ cut) × IsLeafAt low path end
IsLeafAt (Branch cut low high) ((c, High) ∷ path) end = (c ≡ cut) × IsLeafAt high path end

-- the tree with another one in the place to which a path leads
abbrev pub put : Tree → List (Cut × Side) → Tree → Tree
put (Ends leaf) [] new = new
put (Ends leaf) (step ∷ path) new = Ends leaf
put (Branch cut low high) [] new = new
put (Branch cut low high) ((c, Low) ∷ path) new = Branch cut (put low path new) high
put (Branch cut low high) ((c, High) ∷ path) new = Branch cut low (put high path new)

-- the paths to the leaves of a tree, in preorder
abbrev pub leaf_paths : Tree → List (List (Cut × Side))
leaf_paths (Ends leaf) = [] ∷ []
leaf_paths (Branch cut low high) = map (λ path. (cut, Low) ∷ path) (leaf_paths low) ++ map (λ path. (cut, High) ∷ path) (leaf_paths high)
