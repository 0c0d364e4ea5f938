-- The walk over a tree in preorder: what is written, and the trees of the nodes that wait, make the whole.
use Rattle.std.proofs.Common.{◌≡◌, ◌≢◌, ℕ, zero, suc, ◌+◌, ◌-◌, ◌*◌, ◌<◌, List, [], ◌∷◌, ◌++◌, length, get_or, map, reverse, refl, sym, ap, ◌∙◌, arith, subst, append_assoc, append-nil}
use Rattle.std.specs.Prelude.{Option, None}
use Rattle.std.proofs.lemmas.List.{length-append, reverse-append}
use Rattle.pesp_problem.specs.declared.cut.Cut.{Cut}
use Rattle.pesp_problem.specs.declared.cut.Side.{Side}
use Rattle.pesp_problem.specs.declared.cut.Side.TheVariants.{Low, High}
use Rattle.pesp_truth.specs.Trees.{Tree, Leaf, Ends, Branch, Line, EndLine, CutLine, preorder}
use Rattle.pesp_tree.specs.declared.leaf.Leaf.{Leaf as OwnLeaf}
use Rattle.pesp_tree.specs.declared.node.Branching.{Branching}
use Rattle.pesp_tree.specs.declared.node.Kept.{Kept}
use Rattle.pesp_tree.specs.declared.node.Kept.TheVariants.{Leaf as KeptLeaf, Branched}
use Rattle.pesp_tree.specs.Leaves.{leaf_of}
use Rattle.pesp_tree.specs.Numbered.{Numbered, Number, Cuts, fill, IsAt, grown, kept_leaf, leaf_in, tree_of, NodesAreNumbered, Stands, no_branching, no_node}
use Rattle.pesp_tree.specs.Preorder.{line_in, node_line, parts_in, parts_at, NodeIsKnown}
use Rattle.pesp_tree.proofs.Standing.{in_range, length_leaves, branch_in_range, branch_has_none}

-- each number of the tree is that of a leaf
abbrev pub HasLeaves : List (Option Leaf) → Numbered → Type 0
HasLeaves leaves tree = (path : List (Cut × Side)) (m : ℕ) → IsAt tree path m → get_or leaves m None ≢ None

-- the trees stand at the nodes, in order
abbrev pub AreTrees : List Branching → List Kept → List ℕ → List Numbered → Type 0
AreTrees bs kept [] [] = Unit {0}
AreTrees bs kept [] (tree ∷ trees) = ⊥
AreTrees bs kept (n ∷ ns) [] = ⊥
AreTrees bs kept (n ∷ ns) (tree ∷ trees) = Stands bs kept tree n × HasLeaves (map kept_leaf kept) tree × AreTrees bs kept ns trees

abbrev lines_in : List (Option Leaf) → List Numbered → List Line
lines_in leaves [] = []
lines_in leaves (tree ∷ trees) = preorder (fill tree (leaf_in leaves)) ++ lines_in leaves trees

-- the lines that are written, and those of the trees at the nodes that wait, are those of the tree
pub record Walked (bs : List Branching) (kept : List Kept) (lines : List Line) (waiting : List ℕ) : Type 0 where
  pub trees : List Numbered
  pub stand : AreTrees bs kept waiting trees
  pub all : preorder (tree_of bs (map kept_leaf kept)) ≡ lines ++ lines_in (map kept_leaf kept) trees

-- ---- at the root

pub at_start : (bs : List Branching) (kept : List Kept) → NodesAreNumbered bs kept → Walked bs kept [] (0 ∷ [])
at_start bs kept a = record {
  trees = (grown bs).tree ∷ [];
  stand = (a.stands, λ path m h. (a.nodes.only path m h).2, tt);
  all = sym (append-nil (preorder (tree_of bs (map kept_leaf kept))));
}

-- ---- a node

pub leaf_in_kept : (kept : List Kept) (n : ℕ) → get_or (map kept_leaf kept) n None ≢ None
    → (leaf : OwnLeaf) × (get_or kept n no_node ≡ KeptLeaf leaf) × (leaf_of leaf ≡ leaf_in (map kept_leaf kept) n)
leaf_in_kept [] n h = absurd (h refl)
leaf_in_kept (KeptLeaf leaf ∷ kept) zero h = (leaf, refl, refl)
leaf_in_kept (Branched place ∷ kept) zero h = absurd (h refl)
leaf_in_kept (one ∷ kept) (suc n) h = leaf_in_kept kept n h

same_place : (a b : ℕ) → Branched a ≡ Branched b → a ≡ b
same_place a b e = cc

pub known : (bs : List Branching) (kept : List Kept) (tree : Numbered) (n : ℕ) → Stands bs kept tree n
    → HasLeaves (map kept_leaf kept) tree → NodeIsKnown bs kept n
known bs kept (Number m) n s h =
    let leaf : get_or (map kept_leaf kept) n None ≢ None = h [] n s in
    (omega (arith, in_range (map kept_leaf kept) n leaf, length_leaves kept), λ place e. absurd (leaf (branch_has_none kept n place e)))
known bs kept (Cuts cut low high) n s h = (
  branch_in_range kept n s.0 s.1,
  λ place e. subst (λ x. x < length bs) (same_place s.0 place (sym (s.1) ∙ e)) s.2,
)

pub first_known : (bs : List Branching) (kept : List Kept) (n : ℕ) (ns : List ℕ) (trees : List Numbered)
    → AreTrees bs kept (n ∷ ns) trees → NodeIsKnown bs kept n
first_known bs kept n ns [] s = absurd s
first_known bs kept n ns (tree ∷ trees) s = known bs kept tree n s.0 s.1

-- a node's line is the first of its tree, and its parts' trees have the others
abbrev Opened : List Branching → List Kept → Kept → Numbered → Type 0
Opened bs kept one tree =
    (trees : List Numbered) × AreTrees bs kept (reverse (parts_in one)) trees
    × (preorder (fill tree (leaf_in (map kept_leaf kept)))
    ≡ line_in bs one ∷ lines_in (map kept_leaf kept) trees)

open_node : (bs : List Branching) (kept : List Kept) (n : ℕ) (tree : Numbered) → Stands bs kept tree n
    → HasLeaves (map kept_leaf kept) tree → Opened bs kept (get_or kept n no_node) tree
open_node bs kept n (Number m) s h =
    let leaf = leaf_in_kept kept n (h [] n s) in
    subst (λ one. Opened bs kept one (Number m)) (sym (leaf.1))
    ([], tt, ap (λ l. EndLine l ∷ []) (ap (leaf_in (map kept_leaf kept)) s ∙ sym (leaf.2)))
open_node bs kept n (Cuts cut low high) s h =
    let first = preorder (fill low (leaf_in (map kept_leaf kept))) in
    let second = preorder (fill high (leaf_in (map kept_leaf kept))) in
    subst (λ one. Opened bs kept one (Cuts cut low high)) (sym (s.1)) (
      low ∷ high ∷ [],
      (s.4, λ path m a. h ((cut, Low) ∷ path) m (refl, a), (s.5, λ path m a. h ((cut, High) ∷ path) m (refl, a), tt)),
      ap (λ c. CutLine c ∷ (first ++ second)) (sym (s.3))
          ∙ ap (λ l. CutLine (get_or bs s.0 no_branching).cut ∷ (first ++ l)) (sym (append-nil second)),
    )

pub trees_append : (bs : List Branching) (kept : List Kept) (ms ns : List ℕ) (ts us : List Numbered)
    → AreTrees bs kept ms ts → AreTrees bs kept ns us → AreTrees bs kept (ms ++ ns) (ts ++ us)
trees_append bs kept [] ns [] us a b = b
trees_append bs kept [] ns (t ∷ ts) us a b = absurd a
trees_append bs kept (m ∷ ms) ns [] us a b = absurd a
trees_append bs kept (m ∷ ms) ns (t ∷ ts) us a b = (a.0, a.1, trees_append bs kept ms ns ts us a.2 b)

lines_append : (leaves : List (Option Leaf)) (ts us : List Numbered) → lines_in leaves (ts ++ us) ≡ lines_in leaves ts ++ lines_in leaves us
lines_append leaves [] us = refl
lines_append leaves (t ∷ ts) us = ap (λ l. preorder (fill t (leaf_in leaves)) ++ l) (lines_append leaves ts us)
    ∙ sym (append_assoc (preorder (fill t (leaf_in leaves))) (lines_in leaves ts) (lines_in leaves us))

step : (bs : List Branching) (kept : List Kept) (lines : List Line) (n : ℕ) (ns : List ℕ) (trees : List Numbered)
    → AreTrees bs kept (n ∷ ns) trees → preorder (tree_of bs (map kept_leaf kept))
    ≡ lines ++ lines_in (map kept_leaf kept) trees
    → Walked bs kept (lines ++ node_line bs kept n ∷ []) (reverse (parts_at kept n) ++ ns)
step bs kept lines n ns [] stand all = absurd stand
step bs kept lines n ns (tree ∷ trees) stand all =
    let leaves = map kept_leaf kept in
    let opened = open_node bs kept n tree stand.0 stand.1 in
    record {
      trees = opened.0 ++ trees;
      stand = trees_append bs kept (reverse (parts_at kept n)) ns opened.0 trees opened.1 stand.2;
      all =
          all
          ∙ ap (λ l. lines ++ (l ++ lines_in leaves trees)) (opened.2)
          ∙ sym (append_assoc lines (node_line bs kept n ∷ []) (lines_in leaves opened.0 ++ lines_in leaves trees))
          ∙ ap (λ l. (lines ++ node_line bs kept n ∷ []) ++ l) (sym (lines_append leaves opened.0 trees));
    }

-- ---- the loop, whose stack has the next node last

pub turned : (waiting popped : List ℕ) (n : ℕ) → waiting ≡ popped ++ n ∷ [] → reverse waiting ≡ n ∷ reverse popped
turned waiting popped n e = ap reverse e ∙ reverse-append popped (n ∷ [])

next_known : (bs : List Branching) (kept : List Kept) (lines : List Line) (n : ℕ) (ns : List ℕ)
    → Walked bs kept lines (n ∷ ns) → NodeIsKnown bs kept n
next_known bs kept lines n ns w = first_known bs kept n ns w.trees w.stand

pub loop_known : (bs : List Branching) (kept : List Kept) (lines : List Line) (waiting popped : List ℕ) (n : ℕ)
    → Walked bs kept lines (reverse waiting) → waiting ≡ popped ++ n ∷ [] → NodeIsKnown bs kept n
loop_known bs kept lines waiting popped n w e =
    next_known bs kept lines n (reverse popped) (subst (λ ns. Walked bs kept lines ns)
    (turned waiting popped n e) w)

pub loop_step : (bs : List Branching) (kept : List Kept) (lines new_lines : List Line)
    (waiting popped new_waiting : List ℕ) (n : ℕ) → Walked bs kept lines (reverse waiting)
    → waiting ≡ popped ++ n ∷ [] → new_lines ≡ lines ++ node_line bs kept n ∷ []
    → new_waiting ≡ popped ++ parts_at kept n → Walked bs kept new_lines (reverse new_waiting)
loop_step bs kept lines new_lines waiting popped new_waiting n w e is_lines is_waiting =
    let old : Walked bs kept lines (n ∷ reverse popped) = subst (λ ns. Walked bs kept lines ns) (turned waiting popped n e) w in
    let next : reverse new_waiting ≡ reverse (parts_at kept n) ++ reverse popped = ap reverse is_waiting
    ∙ reverse-append popped (parts_at kept n) in
    rw is_lines (rw next (step bs kept lines n (reverse popped) old.trees old.stand old.all))

some_line : (tree : Tree) → 0 < length (preorder tree)
some_line (Ends leaf) = omega arith
some_line (Branch cut low high) = omega arith

lines_left : (bs : List Branching) (kept : List Kept) (lines : List Line) (n : ℕ) (ns : List ℕ)
    (trees : List Numbered) → NodesAreNumbered bs kept → AreTrees bs kept (n ∷ ns) trees
    → preorder (tree_of bs (map kept_leaf kept)) ≡ lines ++ lines_in (map kept_leaf kept) trees
    → length lines < length kept
lines_left bs kept lines n ns [] a stand all = absurd stand
lines_left bs kept lines n ns (tree ∷ trees) a stand all =
    let leaves = map kept_leaf kept in
    let first = preorder (fill tree (leaf_in leaves)) in
    let count : length (preorder (tree_of bs leaves)) ≡ length (lines ++ (first ++ lines_in leaves trees)) = ap length all in
    omega (
      arith,
      count,
      a.lines,
      length-append lines (first ++ lines_in leaves trees),
      length-append first (lines_in leaves trees),
      some_line (fill tree (leaf_in leaves)),
    )

pub loop_smaller : (bs : List Branching) (kept : List Kept) (lines new_lines : List Line) (waiting popped : List ℕ)
    (n : ℕ) → NodesAreNumbered bs kept → Walked bs kept lines (reverse waiting) → waiting ≡ popped ++ n ∷ []
    → new_lines ≡ lines ++ node_line bs kept n ∷ [] → length kept - length new_lines < length kept - length lines
loop_smaller bs kept lines new_lines waiting popped n a w e is_lines =
    let old : Walked bs kept lines (n ∷ reverse popped) = subst (λ ns. Walked bs kept lines ns) (turned waiting popped n e) w in
    let less = lines_left bs kept lines n (reverse popped) old.trees a old.stand old.all in
    let more : length new_lines ≡ length lines + 1 = ap length is_lines ∙ length-append lines (node_line bs kept n ∷ []) in
    omega (arith, less, more)

none_waits : (bs : List Branching) (kept : List Kept) (lines : List Line) (trees : List Numbered)
    → AreTrees bs kept [] trees → preorder (tree_of bs (map kept_leaf kept))
    ≡ lines ++ lines_in (map kept_leaf kept) trees → lines ≡ preorder (tree_of bs (map kept_leaf kept))
none_waits bs kept lines [] stand all = sym (all ∙ append-nil lines)
none_waits bs kept lines (tree ∷ trees) stand all = absurd stand

pub at_end : (bs : List Branching) (kept : List Kept) (lines : List Line) (waiting : List ℕ)
    → Walked bs kept lines (reverse waiting) → waiting ≡ [] → lines ≡ preorder (tree_of bs (map kept_leaf kept))
at_end bs kept lines waiting w e =
    let last : Walked bs kept lines [] = subst (λ ns. Walked bs kept lines (reverse ns)) e w in
    none_waits bs kept lines last.trees last.stand last.all

-- ---- what a visit lets wait

pub read_kept : (kept : List Kept) (n : ℕ) (one : Kept) → n < length kept → one ≡ get_or kept n one → get_or kept n no_node ≡ one
read_kept [] n one h e = absurd (omega arith)
read_kept (first ∷ kept) zero one h e = sym e
read_kept (first ∷ kept) (suc n) one h e = read_kept kept n one (omega (arith, h)) e

pub no_parts : (kept : List Kept) (n : ℕ) (leaf : OwnLeaf) (waiting : List ℕ)
    → get_or kept n no_node ≡ KeptLeaf leaf → waiting ≡ waiting ++ parts_at kept n
no_parts kept n leaf waiting e = sym (ap (λ one. waiting ++ parts_in one) e ∙ append-nil waiting)

pub two_parts : (kept : List Kept) (n place : ℕ) (waiting one both : List ℕ)
    → get_or kept n no_node ≡ Branched place → one ≡ waiting ++ (2 * place + 2) ∷ []
    → both ≡ one ++ (2 * place + 1) ∷ [] → both ≡ waiting ++ parts_at kept n
two_parts kept n place waiting one both e first second =
    second ∙ ap (λ l. l ++ (2 * place + 1) ∷ []) first
    ∙ append_assoc waiting ((2 * place + 2) ∷ []) ((2 * place + 1) ∷ [])
    ∙ sym (ap (λ x. waiting ++ parts_in x) e)
