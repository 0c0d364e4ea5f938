-- How proofs store a tree, its leaves and the steps of a path, so that they can tell values apart: each type by a code that
-- gives it back. A tree, which holds trees, is stored as its lines in preorder.
use Rattle.std.specs.Prelude.{◌≡◌, ℕ, zero, suc, List, [], ◌∷◌, ◌++◌, ℤ, Option, Some, None, refl}
use Rattle.std.specs.Coded.{Coded, code_by, coded×, coded⊎, coded_ℕ, coded_ℤ, coded_list, coded_option}
use Rattle.std.proofs.Common.{◌⊎◌, inl, inr, append_assoc, append-nil, ap, sym, ◌∙◌}
use Rattle.pesp_problem.specs.declared.pair.Pair.{Pair}
use Rattle.pesp_problem.specs.declared.cut.Cut.{Cut}
use Rattle.pesp_problem.specs.declared.cut.Cut.TheVariants.{Slack, Offset}
use Rattle.pesp_problem.specs.declared.cut.Side.{Side}
use Rattle.pesp_problem.specs.declared.cut.Side.TheVariants.{Low, High}
use Rattle.pesp_truth.specs.Trees.{Tree, Leaf, Reason, Line, Ends, Branch, Bound, Shut, ByPairs, ByGap, ByPropagation, Gap, EndLine, CutLine, preorder}

-- ---- trees

-- the code of pairs
abbrev pub pair_code : Coded Pair
pair_code = code_by (ℕ × ℤ) (coded× coded_ℕ coded_ℤ) (λ p. (p.cycle, p.mult)) (λ x. record { cycle = x.0; mult = x.1 }) (λ _. refl)

-- cuts, reasons, leaves and lines, each as a sum of its cases
abbrev pub cut_to : Cut → (ℕ × ℕ) ⊎ (ℕ × ℤ)
cut_to (Slack row k) = inl (row, k)
cut_to (Offset cycle k) = inr (cycle, k)

-- the cut of such a sum
abbrev pub cut_from : (ℕ × ℕ) ⊎ (ℕ × ℤ) → Cut
cut_from (inl x) = Slack x.0 x.1
cut_from (inr x) = Offset x.0 x.1

-- each cut comes back from its sum
abbrev pub cut_back : (cut : Cut) → cut_from (cut_to cut) ≡ cut
cut_back (Slack row k) = refl
cut_back (Offset cycle k) = refl

-- the code of cuts
abbrev pub cut_code : Coded Cut
cut_code = code_by ((ℕ × ℕ) ⊎ (ℕ × ℤ)) (coded⊎ (coded× coded_ℕ coded_ℕ) (coded× coded_ℕ coded_ℤ)) cut_to cut_from cut_back

-- a reason as a sum: pairs, a cycle, or neither
abbrev pub reason_to : Reason → List Pair ⊎ Option ℕ
reason_to (ByPairs pairs) = inl pairs
reason_to (ByGap cycle) = inr (Some cycle)
reason_to ByPropagation = inr None

-- the reason of such a sum
abbrev pub reason_from : List Pair ⊎ Option ℕ → Reason
reason_from (inl pairs) = ByPairs pairs
reason_from (inr (Some cycle)) = ByGap cycle
reason_from (inr None) = ByPropagation

-- each reason comes back from its sum
abbrev pub reason_back : (reason : Reason) → reason_from (reason_to reason) ≡ reason
reason_back (ByPairs pairs) = refl
reason_back (ByGap cycle) = refl
reason_back ByPropagation = refl

-- the code of reasons
abbrev pub reason_code : Coded Reason
reason_code = code_by (List Pair ⊎ Option ℕ) (coded⊎ (coded_list pair_code) (coded_option coded_ℕ)) reason_to reason_from reason_back

-- a leaf as a sum: the pairs of a bound, or a reason
abbrev pub leaf_to : Leaf → List Pair ⊎ Reason
leaf_to (Bound pairs) = inl pairs
leaf_to (Shut reason) = inr reason

-- the leaf of such a sum
abbrev pub leaf_from : List Pair ⊎ Reason → Leaf
leaf_from (inl pairs) = Bound pairs
leaf_from (inr reason) = Shut reason

-- each leaf comes back from its sum
abbrev pub leaf_back : (leaf : Leaf) → leaf_from (leaf_to leaf) ≡ leaf
leaf_back (Bound pairs) = refl
leaf_back (Shut reason) = refl

-- the code of leaves
abbrev pub leaf_code : Coded Leaf
leaf_code = code_by (List Pair ⊎ Reason) (coded⊎ (coded_list pair_code) reason_code) leaf_to leaf_from leaf_back

-- a line as a sum: a leaf or a cut
abbrev pub line_to : Line → Leaf ⊎ Cut
line_to (EndLine leaf) = inl leaf
line_to (CutLine cut) = inr cut

-- the line of such a sum
abbrev pub line_from : Leaf ⊎ Cut → Line
line_from (inl leaf) = EndLine leaf
line_from (inr cut) = CutLine cut

-- each line comes back from its sum
abbrev pub line_round_trip : (line : Line) → line_from (line_to line) ≡ line
line_round_trip (EndLine leaf) = refl
line_round_trip (CutLine cut) = refl

-- the code of lines
abbrev pub line_code : Coded Line
line_code = code_by (Leaf ⊎ Cut) (coded⊎ leaf_code cut_code) line_to line_from line_round_trip

-- the first two trees become one branch
abbrev pub join : Cut → List Tree → List Tree
join cut (low ∷ high ∷ trees) = Branch cut low high ∷ trees
join cut (low ∷ []) = low ∷ []
join cut [] = []

-- the trees of which these are the lines in preorder
abbrev pub trees_of : List Line → List Tree
trees_of [] = []
trees_of (EndLine leaf ∷ lines) = Ends leaf ∷ trees_of lines
trees_of (CutLine cut ∷ lines) = join cut (trees_of lines)

-- the first of some trees
abbrev pub first_tree : List Tree → Tree
first_tree [] = Ends (Gap 0)
first_tree (tree ∷ trees) = tree

-- from the lines of a tree and of what follows, that tree comes back first
abbrev pub trees_back : (tree : Tree) (rest : List Line) → trees_of (preorder tree ++ rest) ≡ tree ∷ trees_of rest
trees_back (Ends leaf) rest = refl
trees_back (Branch cut low high) rest =
    ap (λ lines. join cut (trees_of lines)) (append_assoc (preorder low) (preorder high) rest)
    ∙ ap (join cut) (trees_back low (preorder high ++ rest))
    ∙ ap (λ trees. join cut (low ∷ trees)) (trees_back high rest)

-- each tree comes back from its lines
abbrev pub tree_back : (tree : Tree) → first_tree (trees_of (preorder tree)) ≡ tree
tree_back tree = ap (λ lines. first_tree (trees_of lines)) (sym (append-nil (preorder tree))) ∙ ap first_tree (trees_back tree [])

-- the code of trees, by their lines in preorder
abbrev pub tree_code : Coded Tree
tree_code = code_by (List Line) (coded_list line_code) preorder (λ lines. first_tree (trees_of lines)) tree_back

-- ---- sides

-- a side as a number: 0 for the low part, 1 for the high one
abbrev pub side_to : Side → ℕ
side_to Low = 0
side_to High = 1

-- the side of such a number
abbrev pub side_from : ℕ → Side
side_from zero = Low
side_from (suc n) = High

-- each side comes back from its number
abbrev pub side_back : (side : Side) → side_from (side_to side) ≡ side
side_back Low = refl
side_back High = refl

-- the code of sides
abbrev pub side_code : Coded Side
side_code = code_by ℕ coded_ℕ side_to side_from side_back
