-- A whole tree is the same as its lines in preorder.
use Rattle.std.proofs.Common.{◌≡◌, ℕ, zero, suc, List, [], ◌∷◌, ◌++◌, length, refl, sym, ◌∙◌, ap, append_assoc, append-nil, subst, arith, true}
use Rattle.std.specs.Prelude.{◌↔◌}
use Rattle.pesp_problem.specs.declared.row.SignedRow.{SignedRow}
use Rattle.pesp_problem.specs.declared.cut.Cut.{Cut}
use Rattle.pesp_problem.specs.Arcs.{Net}
use Rattle.pesp_problem.specs.Nodes.{Node, low_part, high_part}
use Rattle.pesp_truth.specs.Trees.{Tree, Line, Claim, Ends, Branch, EndLine, CutLine, preorder, IsSound, AreSound, are_trees, CutExists}

-- from the tree to its lines, before any further lines that are sound for the nodes that wait
sound_lines : (claim : Claim) (n : Net) (table : List (List SignedRow)) (tree : Tree) (node : Node)
    (rest : List Line) (nodes : List Node) → IsSound claim n table tree node → AreSound claim n table rest nodes
    → AreSound claim n table (preorder tree ++ rest) (node ∷ nodes)
sound_lines claim n table (Ends leaf) node rest nodes s a = (s, a)
sound_lines claim n table (Branch cut low high) node rest nodes s a = (
  s.0,
  subst (λ lines. AreSound claim n table lines (low_part node cut ∷ high_part node cut ∷ nodes))
      (sym (append_assoc (preorder low) (preorder high) rest))
      (sound_lines claim n table low (low_part node cut) (preorder high ++ rest) (high_part node cut ∷ nodes) s.1
      (sound_lines claim n table high (high_part node cut) rest nodes s.2 a)),
)

-- trees, one after the other, that are sound each at its node
abbrev forest_lines : List Tree → List Line
forest_lines [] = []
forest_lines (tree ∷ trees) = preorder tree ++ forest_lines trees

abbrev ForestSound : Claim → Net → List (List SignedRow) → List Tree → List Node → Type 0
ForestSound claim n table [] [] = Unit {0}
ForestSound claim n table [] (node ∷ nodes) = ⊥
ForestSound claim n table (tree ∷ trees) [] = ⊥
ForestSound claim n table (tree ∷ trees) (node ∷ nodes) = IsSound claim n table tree node × ForestSound claim n table trees nodes

-- the first two trees joined under a cut
join : (claim : Claim) (n : Net) (table : List (List SignedRow)) (cut : Cut) (lines : List Line) (node : Node)
    (nodes : List Node) (trees : List Tree) → CutExists n table cut → forest_lines trees ≡ lines
    → ForestSound claim n table trees (low_part node cut ∷ high_part node cut ∷ nodes)
    → (joined : List Tree) × (forest_lines joined ≡ CutLine cut ∷ lines)
    × ForestSound claim n table joined (node ∷ nodes)
join claim n table cut lines node nodes [] e l s = absurd s
join claim n table cut lines node nodes (low ∷ []) e l s = absurd s.1
join claim n table cut lines node nodes (low ∷ high ∷ trees) e l s = (
  Branch cut low high ∷ trees,
  ap (λ x. CutLine cut ∷ x)
      (append_assoc (preorder low) (preorder high) (forest_lines trees) ∙ l),
  ((e, s.0, s.1.0), s.1.1),
)

forest_of : (claim : Claim) (n : Net) (table : List (List SignedRow)) (lines : List Line) (nodes : List Node)
    → AreSound claim n table lines nodes → (trees : List Tree) × (forest_lines trees ≡ lines)
    × ForestSound claim n table trees nodes
forest_of claim n table [] [] a = ([], refl, tt)
forest_of claim n table [] (node ∷ nodes) a = absurd a
forest_of claim n table (line ∷ lines) [] a = absurd a
forest_of claim n table (EndLine leaf ∷ lines) (node ∷ nodes) a =
    let rest = forest_of claim n table lines nodes a.1 in
    (Ends leaf ∷ rest.0, ap (λ x. EndLine leaf ∷ x) rest.1, (a.0, rest.2))
forest_of claim n table (CutLine cut ∷ lines) (node ∷ nodes) a =
    let rest = forest_of claim n table lines (low_part node cut ∷ high_part node cut ∷ nodes) a.1 in
    join claim n table cut lines node nodes rest.0 a.0 rest.1 rest.2

only : (claim : Claim) (n : Net) (table : List (List SignedRow)) (lines : List Line) (node : Node)
    (trees : List Tree) → forest_lines trees ≡ lines → ForestSound claim n table trees (node ∷ [])
    → (tree : Tree) × (preorder tree ≡ lines) × IsSound claim n table tree node
only claim n table lines node [] l s = absurd s
only claim n table lines node (tree ∷ []) l s = (tree, sym (append-nil (preorder tree)) ∙ l, s.0)
only claim n table lines node (tree ∷ other ∷ trees) l s = absurd s.1

-- the checker's walk over lines with the nodes that wait, and the tree
pub sound_as_tree : (claim : Claim) (n : Net) (table : List (List SignedRow)) (lines : List Line) (node : Node)
    → AreSound claim n table lines (node ∷ []) → (tree : Tree) × (preorder tree ≡ lines)
    × IsSound claim n table tree node
sound_as_tree claim n table lines node a =
    let forest = forest_of claim n table lines (node ∷ []) a in
    only claim n table lines node forest.0 forest.1 forest.2

pub sound_as_lines : (claim : Claim) (n : Net) (table : List (List SignedRow)) (lines : List Line) (node : Node)
    → (tree : Tree) × (preorder tree ≡ lines) × IsSound claim n table tree node
    → AreSound claim n table lines (node ∷ [])
sound_as_lines claim n table lines node t = subst (λ ls. AreSound claim n table ls (node ∷ []))
    (append-nil (preorder t.0) ∙ t.1) (sound_lines claim n table t.0 node [] [] t.2 tt)

-- ---- one tree for whole lines

same_lines : (a b : Tree) (x y : List Line) → preorder a ++ x ≡ preorder b ++ y → (a ≡ b) × (x ≡ y)
same_lines (Ends leaf) (Ends other) x y e = (cc, cc)
same_lines (Ends leaf) (Branch cut low high) x y e = cc
same_lines (Branch cut low high) (Ends leaf) x y e = cc
same_lines (Branch cut low high) (Branch cut' low' high') x y e =
    let whole : CutLine cut ∷ ((preorder low ++ preorder high) ++ x) ≡ CutLine cut' ∷ ((preorder low' ++ preorder high') ++ y) = e in
    let after : (preorder low ++ preorder high) ++ x ≡ (preorder low' ++ preorder high') ++ y = cc in
    let tails = sym (append_assoc (preorder low) (preorder high) x) ∙ after ∙ append_assoc (preorder low') (preorder high') y in
    let first = same_lines low low' (preorder high ++ x) (preorder high' ++ y) tails in
    let second = same_lines high high' x y first.1 in
    let cuts : cut ≡ cut' = cc (whole) in
    (cc (cuts, first.0, second.0), second.1)

pub one_tree : (a b : Tree) → preorder a ≡ preorder b → a ≡ b
one_tree a b e = (same_lines a b [] [] (append-nil (preorder a) ∙ e ∙ sym (append-nil (preorder b)))).0

-- whole lines: a count of the trees that are still needed
tree_lines : (tree : Tree) (n : ℕ) (rest : List Line) → are_trees (suc n) (preorder tree ++ rest) ≡ are_trees n rest
tree_lines (Ends leaf) n rest = refl
tree_lines (Branch cut low high) n rest =
    ap (are_trees (suc (suc n))) (append_assoc (preorder low) (preorder high) rest)
    ∙ tree_lines low (suc n) (preorder high ++ rest) ∙ tree_lines high n rest

join_whole : (cut : Cut) (lines : List Line) (n : ℕ) (trees : List Tree) → forest_lines trees ≡ lines
    → length trees ≡ suc (suc n) → (joined : List Tree) × (forest_lines joined ≡ CutLine cut ∷ lines)
    × (length joined ≡ suc n)
join_whole cut lines n [] l e = cc
join_whole cut lines n (low ∷ []) l e = cc
join_whole cut lines n (low ∷ high ∷ trees) l e = (
  Branch cut low high ∷ trees,
  ap (λ x. CutLine cut ∷ x)
      (append_assoc (preorder low) (preorder high) (forest_lines trees) ∙ l),
  omega arith,
)

whole_forest : (lines : List Line) (n : ℕ) → are_trees n lines ≡ true
    → (trees : List Tree) × (forest_lines trees ≡ lines) × (length trees ≡ n)
whole_forest [] zero w = ([], refl, refl)
whole_forest (line ∷ lines) zero w = cc
whole_forest [] (suc n) w = cc
whole_forest (EndLine leaf ∷ lines) (suc n) w =
    let rest = whole_forest lines n w in
    (Ends leaf ∷ rest.0, ap (λ x. EndLine leaf ∷ x) rest.1, ap suc rest.2)
whole_forest (CutLine cut ∷ lines) (suc n) w =
    let rest = whole_forest lines (suc (suc n)) w in
    join_whole cut lines n rest.0 rest.1 rest.2

one_of : (lines : List Line) (trees : List Tree) → forest_lines trees ≡ lines → length trees ≡ 1 → (tree : Tree) × (preorder tree ≡ lines)
one_of lines [] l e = cc
one_of lines (tree ∷ []) l e = (tree, sym (append-nil (preorder tree)) ∙ l)
one_of lines (tree ∷ other ∷ trees) l e = absurd (omega arith)

-- the count says whether the lines are one whole tree's
pub whole_tree : (lines : List Line) → are_trees 1 lines ≡ true ↔ (tree : Tree) × (preorder tree ≡ lines)
whole_tree lines = (
  λ w. let forest = whole_forest lines 1 w in one_of lines forest.0 forest.1 forest.2,
  λ t. ap (are_trees 1) (sym t.1 ∙ sym (append-nil (preorder t.0))) ∙ tree_lines t.0 0 [],
)
