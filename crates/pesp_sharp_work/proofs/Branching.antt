-- Branches that leave both of their parts a value, by lines and as a tree.
use Rattle.std.proofs.Common.{◌≡◌, ℕ, ◌+◌, ◌<◌, ◌≤◌, ap, sym, ◌∙◌, refl, subst, List, [], ◌∷◌, ◌++◌, length, get_or, drop, map, append_assoc, append-nil, true}
use Rattle.std.specs.Prelude.{◌↔◌, Result, Ok, Err, IfOk}
use Rattle.std.proofs.lemmas.List.{drop_all}
use Rattle.pesp_problem.specs.declared.row.SignedRow.{SignedRow}
use Rattle.pesp_problem.specs.Arcs.{Net}
use Rattle.pesp_problem.specs.Nodes.{Node, root, low_part, high_part}
use Rattle.pesp_truth.specs.declared.tree.TreeLine.{TreeLine}
use Rattle.pesp_truth.specs.Trees.{Tree, Line, Leaf, Ends, Branch, EndLine, preorder, are_trees, line_of}
use Rattle.pesp_truth.specs.Certificates.{Content, lines_of}
use Rattle.pesp_judges.specs.Lines.{after}
use Rattle.pesp_judges.proofs.Judged.{next_line}
use Rattle.pesp_branching.specs.Rooms.{BranchesLeaveBoth, branch_lines}
use Rattle.pesp_branching.specs.Turns.{HasBranches}
use Rattle.pesp_sharp_work.specs.Parts.{LineLeavesBoth, LinesLeaveBoth}

pub leaf_leaves_both : (n : Net) (table : List (List SignedRow)) (leaf : Leaf) (nodes : List Node) → (nodes ≡ [] → ⊥)
    → LineLeavesBoth n table (EndLine leaf) nodes
leaf_leaves_both n table leaf [] some = absurd (some refl)
leaf_leaves_both n table leaf (node ∷ nodes) some = tt

pub after_leaf : (leaf : Leaf) (nodes : List Node) → drop 1 nodes ≡ after (EndLine leaf) nodes
after_leaf leaf [] = refl
after_leaf leaf (node ∷ nodes) = refl

-- ---- lines and trees

both_in_tree : (n : Net) (table : List (List SignedRow)) (tree : Tree) (node : Node) (rest : List Line) (nodes : List Node)
    → LinesLeaveBoth n table (preorder tree ++ rest) (node ∷ nodes)
    → BranchesLeaveBoth n table tree node × LinesLeaveBoth n table rest nodes
both_in_tree n table (Ends leaf) node rest nodes h = (tt, h.1)
both_in_tree n table (Branch cut low high) node rest nodes h =
    let P : List Line → Type 0 = λ lines. LinesLeaveBoth n table lines (low_part node cut ∷ high_part node cut ∷ nodes) in
    let first = both_in_tree n table low (low_part node cut) (preorder high ++ rest) (high_part node cut ∷ nodes)
    (subst P (append_assoc (preorder low) (preorder high) rest) h.1) in
    let second = both_in_tree n table high (high_part node cut) rest nodes first.1 in
    ((h.0.0, h.0.1, first.0, second.0), second.1)

pub has_branches : (n : Net) (content : Content) → are_trees 1 (lines_of content) ≡ true
    → ((lines : List Line) → are_trees 1 lines ≡ true ↔ (tree : Tree) × (preorder tree ≡ lines))
    → LinesLeaveBoth n content.cycles (lines_of content) (root n content.cycles ∷ [])
    → HasBranches n content (branch_lines (lines_of content))
has_branches n content whole law both =
    let found = (law (lines_of content)).0 whole in
    let P : List Line → Type 0 = λ lines. LinesLeaveBoth n content.cycles lines (root n content.cycles ∷ []) in
    record {
      lines = refl;
      tree = found.0;
      preorder_is = found.1;
      both = (both_in_tree n content.cycles found.0 (root n content.cycles) [] []
          (subst P (sym (append-nil (preorder found.0) ∙ found.1)) both)).0;
    }

-- ---- line by line

-- what is left of lines, and the nodes that wait for them
pub record ArePassed (cycles : ℕ) (lines : List TreeLine) (nodes : List Node) (k : ℕ) (now : List Node) : Type 0 where
  pub rest : (n : Net) (table : List (List SignedRow)) → length table ≡ cycles
      → LinesLeaveBoth n table (map line_of (drop k lines)) now → LinesLeaveBoth n table (map line_of lines) nodes

pub none_passed : (cycles : ℕ) (lines : List TreeLine) (nodes : List Node) → ArePassed cycles lines nodes 0 nodes
none_passed cycles lines nodes = record { rest = λ n table long h. h }

module _ (cycles : ℕ) (lines : List TreeLine) (nodes : List Node) (k : ℕ) (now : List Node) (h : ArePassed cycles lines nodes k now) where
  pub one_passed : (line : TreeLine) (new : List Node) → k < length lines → line ≡ get_or lines k line
      → new ≡ after (line_of line) now
      → ((n : Net) (table : List (List SignedRow)) → length table ≡ cycles → LineLeavesBoth n table (line_of line) now)
      → ArePassed cycles lines nodes (k + 1) new
  one_passed line new within is next both = record {
    rest = λ n table long rest.
        let P : List Node → Type 0 = LinesLeaveBoth n table (map line_of (drop (k + 1) lines)) in
        let Q : List Line → Type 0 = λ ls. LinesLeaveBoth n table ls now in
        h.rest n table long (subst Q (sym (next_line lines k line within is)) (both n table long, subst P next rest));
  }

  pub all_passed : length lines ≤ k → (n : Net) (table : List (List SignedRow)) → length table ≡ cycles
      → LinesLeaveBoth n table (map line_of lines) nodes
  all_passed done n table long =
      let Q : List Line → Type 0 = λ ls. LinesLeaveBoth n table ls now in
      h.rest n table long (subst Q (sym (ap (map line_of) (drop_all k lines done))) tt)

-- ---- results

pub ok_then : {A E : Type 0} {P Q : A → Type 0} (r : Result A E) → ((x : A) → P x → Q x) → IfOk r P → IfOk r Q
ok_then (Ok x) f h = f x h
ok_then (Err e) f h = tt
