-- What a work makes of a leaf has one size, whatever gap it names.
use Rattle.std.proofs.Common.{◌≡◌, ℕ, ◌-◌, List, [], ◌∷◌, length, refl, sym, ap, ◌∙◌, arith, subst, true}
use Rattle.std.specs.Prelude.{ℤ, ◌+ℤ◌, Option, Some, None, IsNone, IsSome, All, sum_by}
use Rattle.std.proofs.lemmas.List.Elements.{All-cons, All-nil, All-contains}
use Rattle.pesp_problem.specs.declared.row.SignedRow.{SignedRow}
use Rattle.pesp_problem.specs.declared.pair.Pair.{Pair}
use Rattle.pesp_problem.specs.declared.cut.Cut.{Cut}
use Rattle.pesp_problem.specs.declared.cut.Side.{Side}
use Rattle.pesp_problem.specs.declared.cut.Side.TheVariants.{Low, High}
use Rattle.pesp_problem.specs.Sums.{scaled}
use Rattle.pesp_problem.specs.Arcs.{Net}
use Rattle.pesp_problem.specs.Nodes.{Node, leaf_value, offset_part, offsets_left}
use Rattle.pesp_truth.specs.Trees.{Tree, Leaf, Line, Ends, Branch, Bound, Shut, Reason, EndLine, pairs_of_reason, pairs_of_leaf, preorder}
use Rattle.pesp_nodes.specs.Problems.{ProblemValue, problem_net}
use Rattle.pesp_tree.specs.declared.work.Work.{Work}
use Rattle.pesp_tree.specs.declared.work.Work.TheVariants as works
use Rattle.pesp_truth.specs.Leaves.{IsLeafAt, put}
use Rattle.pesp_tree.specs.Limits.{pairs_in, IsSmallTree}
use Rattle.pesp_tree.specs.States.{State, Ticket, Lent, Given, Recalled, HasLeaf}
use Rattle.pesp_tree.specs.Events.{Makes, Keeps, Uses}
use Rattle.pesp_tree.proofs.LeafParts.{both_were, value_was}
use Rattle.pesp_tree.proofs.Works.{some_is}
use Rattle.pesp_tree.proofs.Sizes.{put_lines_add_up, put_pairs_add_up}

-- ---- one leaf at a path

leaf_is_one : (tree : Tree) (path : List (Cut × Side)) (a b : Leaf) → IsLeafAt tree path a → IsLeafAt tree path b → a ≡ b
leaf_is_one (Ends leaf) [] a b h k = sym h ∙ k
leaf_is_one (Ends leaf) (step ∷ path) a b h k = absurd h
leaf_is_one (Branch cut low high) [] a b h k = absurd h
leaf_is_one (Branch cut low high) ((c, Low) ∷ path) a b h k = leaf_is_one low path a b h.1 k.1
leaf_is_one (Branch cut low high) ((c, High) ∷ path) a b h k = leaf_is_one high path a b h.1 k.1

-- a path in which a ticket that isn't lent has none
abbrev path_of : Ticket → List (Cut × Side)
path_of (Lent path) = path
path_of Given = []
path_of Recalled = []

pub same_path : (state : State) (number : ℕ) (path path' : List (Cut × Side)) (pairs pairs' : List Pair)
    → HasLeaf state number path pairs → HasLeaf state number path' pairs' → path ≡ path'
same_path state number path path' pairs pairs' h k = ap path_of (sym h.0 ∙ k.0)

pub same_pairs : (state : State) (number : ℕ) (path path' : List (Cut × Side)) (pairs pairs' : List Pair)
    → HasLeaf state number path pairs → HasLeaf state number path' pairs' → pairs ≡ pairs'
same_pairs state number path path' pairs pairs' h k =
    ap pairs_of_leaf (leaf_is_one state.tree path (Bound pairs) (Bound pairs') h.1
    (subst (λ x. IsLeafAt state.tree x (Bound pairs'))
    (sym (same_path state number path path' pairs pairs' h k)) k.1))

-- ---- a used cycle without offsets leaves no value

some_left : (o : Option (ℤ × ℤ)) (x : ℤ × ℤ) → o ≡ Some x → IsSome o
some_left None x e = cc
some_left (Some y) x e = refl

each_left : (n : Net) (table : List (List SignedRow)) (node : Node) (pairs : List Pair) (v : ℤ)
    → offset_part n table node pairs ≡ Some v → All
    (λ pair. IsSome (offsets_left n table node (pair.cycle - 1))) pairs
each_left n table node [] v e = All-nil (λ (pair : Pair). IsSome (offsets_left n table node (pair.cycle - 1)))
each_left n table node (pair ∷ pairs) v e =
    let was = both_were (λ (left : ℤ × ℤ) (rest : ℤ). scaled pair.mult left.0 left.1 +ℤ rest)
    (offsets_left n table node (pair.cycle - 1)) (offset_part n table node pairs) v e in
    All-cons (λ (x : Pair). IsSome (offsets_left n table node (x.cycle - 1))) pair pairs (some_left _ was.0 was.2)
    (each_left n table node pairs was.1 was.3)

not_both : (o : Option (ℤ × ℤ)) → IsSome o → IsNone o → ⊥
not_both None h k = cc
not_both (Some x) h k = cc

-- a side of a split has a value, or a gap among its cycles, and not both
no_value_with_gap : (p : ProblemValue) (pairs : List Pair) (node : Node) (cycle : ℕ)
    → IsSome (leaf_value (problem_net p) p.table node pairs true) → Uses pairs cycle
    → IsNone (offsets_left (problem_net p) p.table node (cycle - 1)) → ⊥
no_value_with_gap p pairs node cycle h used none =
    let value = some_is (leaf_value (problem_net p) p.table node pairs true) h in
    let part = value_was _ (offset_part (problem_net p) p.table node pairs) value.0 value.1 in
    let left = All-contains (λ (x : Pair). IsSome (offsets_left (problem_net p) p.table node (x.cycle - 1))) pairs
    used.0 (each_left (problem_net p) p.table node pairs part.0 part.1) used.1 in
    not_both (offsets_left (problem_net p) p.table node (cycle - 1))
    (subst (λ c. IsSome (offsets_left (problem_net p) p.table node (c - 1))) used.2 left) none

-- ---- one size

kept_same : (p : ProblemValue) (pairs : List Pair) (node : Node) (a b : Leaf) → Keeps p pairs node a
    → Keeps p pairs node b → pairs_in (EndLine a) ≡ pairs_in (EndLine b)
kept_same p pairs node (Bound kept) (Bound other) h k = ap (λ (x : List Pair). length x) (h.0 ∙ sym k.0)
kept_same p pairs node (Bound kept) (Shut reason) h k = absurd (no_value_with_gap p pairs node k.0 h.1 k.2 k.3)
kept_same p pairs node (Shut reason) (Bound kept) h k = absurd (no_value_with_gap p pairs node h.0 k.1 h.2 h.3)
kept_same p pairs node (Shut reason) (Shut other) h k = ap (λ (r : Reason). length (pairs_of_reason r)) h.1
    ∙ sym (ap (λ (r : Reason). length (pairs_of_reason r)) k.1)

-- the two trees have as many lines, and as many pairs
pub record AreOfOneSize (a b : Tree) : Type 0 where
  pub lines : length (preorder a) ≡ length (preorder b)
  pub pairs : sum_by pairs_in (preorder a) ≡ sum_by pairs_in (preorder b)

same_size : (a b : Tree) → a ≡ b → AreOfOneSize a b
same_size a b e = record { lines = ap (λ (x : Tree). length (preorder x)) e; pairs = ap (λ (x : Tree). sum_by pairs_in (preorder x)) e }

split_size : (cut : Cut) (low high low' high' : Leaf) → pairs_in (EndLine low) ≡ pairs_in (EndLine low')
    → pairs_in (EndLine high) ≡ pairs_in (EndLine high')
    → AreOfOneSize (Branch cut (Ends low) (Ends high)) (Branch cut (Ends low') (Ends high'))
split_size cut low high low' high' h k = record { lines = refl; pairs = omega (arith, h, k) }

pub made_same : (p : ProblemValue) (node : Node) (old : List Pair) (work : Work) (a b : Tree)
    → Makes p node old work a → Makes p node old work b → AreOfOneSize a b
made_same p node old (works.Leaf pairs) a b h k = same_size a b (h.2 ∙ sym k.2)
made_same p node old (works.Nothing pairs) a b h k = same_size a b (h.1 ∙ sym k.1)
made_same p node old (works.Gap cycle) a b h k = same_size a b (h.1 ∙ sym k.1)
made_same p node old works.Propagated a b h k = same_size a b (h.1 ∙ sym k.1)
made_same p node old (works.Split cut) a b h k =
    subst (λ x. AreOfOneSize x b) (sym h.tree) (subst (λ y. AreOfOneSize (Branch cut (Ends h.low) (Ends h.high)) y) (sym k.tree)
    (split_size cut h.low h.high k.low k.high (kept_same p old _ h.low k.low h.keeps_low k.keeps_low)
    (kept_same p old _ h.high k.high h.keeps_high k.keeps_high)))
made_same p node old (works.Tree lines) a b h k =
    let same : preorder a ≡ preorder b = h.0 ∙ sym k.0 in
    record { lines = ap (λ (x : List Line). length x) same; pairs = ap (λ (x : List Line). sum_by pairs_in x) same }

pub small_same : (tree : Tree) (path : List (Cut × Side)) (leaf : Leaf) (a b : Tree) → IsLeafAt tree path leaf
    → AreOfOneSize a b → IsSmallTree (put tree path a) → IsSmallTree (put tree path b)
small_same tree path leaf a b h s k = record {
  lines = (let first = put_lines_add_up tree path leaf a h in let second = put_lines_add_up tree path leaf b h in
      let most = k.lines in let same = s.lines in omega arith);
  pairs = (let first = put_pairs_add_up tree path leaf a h in let second = put_pairs_add_up tree path leaf b h in
      let most = k.pairs in let same = s.pairs in omega arith);
}
