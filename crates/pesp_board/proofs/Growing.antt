-- What changes in the tree under work when it grows at its leaves, and the entries of the new bound leaves.
use Rattle.std.proofs.Common.{◌≡◌, ◌≢◌, ℕ, suc, ◌+◌, ◌<◌, ◌≤◌, List, [], ◌∷◌, ◌++◌, length, set, refl, sym, ap, ◌∙◌, arith, subst, append_assoc, append-nil, true, ◌⊎◌, inl, inr}
use Rattle.std.specs.Prelude.{Option, Some, None, IsSome, option_map, Contains}
use Rattle.std.proofs.lemmas.List.{length-append, length-set}
use Rattle.std.proofs.lemmas.List.Elements.{Contains-append_cases, Contains-append_left, Contains-append_right}
use Rattle.pesp_problem.specs.declared.pair.Pair.{Pair}
use Rattle.pesp_problem.specs.declared.cut.Cut.{Cut}
use Rattle.pesp_problem.specs.declared.cut.Side.{Side}
use Rattle.pesp_problem.specs.declared.cut.Side.TheVariants.{Low, High}
use Rattle.pesp_problem.specs.Nodes.{Node, part, low_part, high_part}
use Rattle.pesp_truth.specs.Trees.{Tree, Leaf, Line, Ends, Branch, Bound, EndLine, CutLine, preorder, are_trees}
use Rattle.pesp_truth.specs.Leaves.{put}
use Rattle.pesp_truth.proofs.Paths.{along-push}
use Rattle.pesp_nodes.specs.Problems.{ProblemValue}
use Rattle.pesp_tree.specs.Leaves.{leaf_of}
use Rattle.pesp_tree.specs.WorkTrees.{WorkTreeValue, path_to, leaf_at}
use Rattle.pesp_tree.proofs.Effects.{put_others, split_low, split_high, split_others, path_low, path_high, path_others}
use Rattle.pesp_tree.proofs.Standing.{not_none, in_range}
use Rattle.pesp_tree.specs.declared.entry.Entry.{Entry}
use Rattle.pesp_tree.specs.Entries.{entry, HasItem}
use Rattle.pesp_tree.specs.BoardLeaves.{told}
use Rattle.pesp_tree.specs.States.{root_of, node_at, value_at}
use Rattle.pesp_board.specs.declared.part.Part.{Part}
use Rattle.pesp_board.specs.declared.part.Part.TheVariants.{Cut as CutPart, Leaf as LeafPart}
use Rattle.pesp_board.specs.Insides.{IsWorth}
use Rattle.pesp_board.specs.Parts.{part_line, part_lines, IsValued, AreValued}
use Rattle.pesp_board.specs.Growing.{waits, blank_leaf, part_value, with_part, next, with_parts, news, AreOthers, AreSites}
use Rattle.pesp_board.proofs.Changing.{IsChanged}
use Rattle.pesp_board.proofs.Changed.{leaf_changed, branch_changed}
use Rattle.pesp_board.proofs.Lent.{leaf_within}
use Rattle.pesp_board.proofs.Queues.{none_held}
use Rattle.pesp_board.proofs.Replacing.{waits_item}

-- ---- a part

-- as many paths as leaves
abbrev pub IsCounted : WorkTreeValue → Type 0
IsCounted t = length t.paths ≡ length t.leaves

pub site_within : (t : WorkTreeValue) (n : ℕ) → IsSome (leaf_at t n) → n < length t.leaves
site_within t n h = in_range t.leaves n (not_none (leaf_at t n) h)

pub long_part : (t : WorkTreeValue) (n : ℕ) (part : Part) → length t.leaves ≤ length (with_part t n part).leaves
long_part t n (CutPart cut) = omega (arith, length-append (set t.leaves n None) (Some blank_leaf ∷ Some blank_leaf ∷ []), length-set t.leaves n None)
long_part t n (LeafPart part) = omega (arith, length-set t.leaves n (Some (leaf_of part.leaf)))

pub long_cut : (t : WorkTreeValue) (n : ℕ) (cut : Cut) → length (with_part t n (CutPart cut)).leaves ≡ length t.leaves + 2
long_cut t n cut = omega (arith, length-append (set t.leaves n None) (Some blank_leaf ∷ Some blank_leaf ∷ []), length-set t.leaves n None)

pub counted_part : (t : WorkTreeValue) (n : ℕ) (part : Part) → IsCounted t → IsCounted (with_part t n part)
counted_part t n (CutPart cut) c = omega (
  arith,
  c,
  long_cut t n cut,
  length-append t.paths ((path_to t n ++ (cut, Low) ∷ []) ∷ (path_to t n ++ (cut, High) ∷ []) ∷ []),
)
counted_part t n (LeafPart part) c = omega (arith, c, length-set t.leaves n (Some (leaf_of part.leaf)))

part_others : (t : WorkTreeValue) (n : ℕ) (part : Part) (other : ℕ) → other < length t.leaves → other ≢ n
    → leaf_at (with_part t n part) other ≡ leaf_at t other
part_others t n (CutPart cut) other l ne = split_others t n cut blank_leaf blank_leaf other l ne
part_others t n (LeafPart part) other l ne = put_others t n (leaf_of part.leaf) other ne

part_paths : (t : WorkTreeValue) (n : ℕ) (part : Part) (other : ℕ) → IsCounted t → other < length t.leaves
    → path_to (with_part t n part) other ≡ path_to t other
part_paths t n (CutPart cut) other c l = path_others t n cut blank_leaf blank_leaf other (omega (arith, l, c))
part_paths t n (LeafPart part) other c l = refl

-- ---- the nodes without their part

others_beyond : (t : WorkTreeValue) (nodes : List ℕ) (k : ℕ) → AreSites t nodes → length t.leaves ≤ k → AreOthers k nodes
others_beyond t [] k s l = tt
others_beyond t (n ∷ nodes) k s l = (λ e. let within = site_within t n s.0 in omega (arith, within, l, e), others_beyond t nodes k s.2 l)

sites_stay : (t : WorkTreeValue) (n : ℕ) (part : Part) (nodes : List ℕ) → AreOthers n nodes → AreSites t nodes
    → AreSites (with_part t n part) nodes
sites_stay t n part [] o s = tt
sites_stay t n part (m ∷ nodes) o s = (
  subst IsSome (sym (part_others t n part m (site_within t m s.0) o.0)) s.0,
  s.1,
  sites_stay t n part nodes o.1 s.2,
)

some_blank : (o : Option Leaf) → o ≡ Some blank_leaf → IsSome o
some_blank None e = cc
some_blank (Some x) e = refl

pub next_sites : (t : WorkTreeValue) (n : ℕ) (part : Part) (nodes : List ℕ) → AreSites t (n ∷ nodes)
    → AreSites (with_part t n part) (next (length t.leaves) part nodes)
next_sites t n (CutPart cut) nodes s =
    let k = length t.leaves in
    let u = with_part t n (CutPart cut) in
    let first : IsSome (leaf_at u k) = some_blank (leaf_at u k) (split_low t n cut blank_leaf blank_leaf) in
    let second : IsSome (leaf_at u (k + 1)) = some_blank (leaf_at u (k + 1)) (split_high t n cut blank_leaf blank_leaf) in (
      first,
      (λ e. omega (arith, e), others_beyond t nodes k s.2 (omega arith)),
      (second, others_beyond t nodes (k + 1) s.2 (omega arith), sites_stay t n (CutPart cut) nodes s.1 s.2),
    )
next_sites t n (LeafPart part) nodes s = sites_stay t n (LeafPart part) nodes s.1 s.2

pub next_shape : (k : ℕ) (part : Part) (nodes : List ℕ) (lines : List Line)
    → are_trees (suc (length nodes)) (part_line part ∷ lines) ≡ true
    → are_trees (length (next k part nodes)) lines ≡ true
next_shape k (CutPart cut) nodes lines e = e
next_shape k (LeafPart part) nodes lines e = e

-- ---- the nodes that paths lead to

abbrev nodes_at : ProblemValue → WorkTreeValue → List ℕ → List Node
nodes_at p t [] = []
nodes_at p t (n ∷ nodes) = node_at p (path_to t n) ∷ nodes_at p t nodes

nodes_stay : (p : ProblemValue) (t : WorkTreeValue) (n : ℕ) (part : Part) (nodes : List ℕ) → IsCounted t
    → AreSites t nodes → nodes_at p (with_part t n part) nodes ≡ nodes_at p t nodes
nodes_stay p t n part [] c s = refl
nodes_stay p t n part (m ∷ nodes) c s = (λ i. node_at p (part_paths t n part m c (site_within t m s.0) i)
    ∷ nodes_stay p t n part nodes c s.2 i)

low_path : (t : WorkTreeValue) (n : ℕ) (cut : Cut) → IsCounted t
    → path_to (with_part t n (CutPart cut)) (length t.leaves) ≡ path_to t n ++ (cut, Low) ∷ []
low_path t n cut c = subst (λ (k : ℕ). path_to (with_part t n (CutPart cut)) k ≡ path_to t n ++ (cut, Low) ∷ []) c
    (path_low t n cut blank_leaf blank_leaf)

high_path : (t : WorkTreeValue) (n : ℕ) (cut : Cut) → IsCounted t
    → path_to (with_part t n (CutPart cut)) (length t.leaves + 1) ≡ path_to t n ++ (cut, High) ∷ []
high_path t n cut c = subst (λ (k : ℕ). path_to (with_part t n (CutPart cut)) (k + 1)
    ≡ path_to t n ++ (cut, High) ∷ []) c (path_high t n cut blank_leaf blank_leaf)

-- the first part is valued rightly, where it is a leaf
abbrev FirstValued : ProblemValue → WorkTreeValue → ℕ → Part → Type 0
FirstValued p t n (CutPart cut) = Unit {0}
FirstValued p t n (LeafPart part) = IsValued p (node_at p (path_to t n)) part

first_valued : (p : ProblemValue) (t : WorkTreeValue) (n : ℕ) (nodes : List ℕ) (part : Part) (parts : List Part)
    → AreValued p (nodes_at p t (n ∷ nodes)) (part ∷ parts) → FirstValued p t n part
first_valued p t n nodes (CutPart cut) parts v = tt
first_valued p t n nodes (LeafPart part) parts v = v.0

next_valued : (p : ProblemValue) (t : WorkTreeValue) (n : ℕ) (nodes : List ℕ) (part : Part) (parts : List Part)
    → IsCounted t → AreSites t (n ∷ nodes) → AreValued p (nodes_at p t (n ∷ nodes)) (part ∷ parts)
    → AreValued p (nodes_at p (with_part t n part) (next (length t.leaves) part nodes)) parts
next_valued p t n nodes (CutPart cut) parts c s v =
    let low : node_at p (path_to (with_part t n (CutPart cut)) (length t.leaves))
    ≡ low_part (node_at p (path_to t n)) cut = ap (node_at p) (low_path t n cut c)
    ∙ along-push (root_of p) (path_to t n) cut Low in
    let high : node_at p (path_to (with_part t n (CutPart cut)) (length t.leaves + 1))
    ≡ high_part (node_at p (path_to t n)) cut = ap (node_at p) (high_path t n cut c)
    ∙ along-push (root_of p) (path_to t n) cut High in
    let others = nodes_stay p t n (CutPart cut) nodes c s.2 in
    subst (λ (ns : List Node). AreValued p ns parts) (λ i. sym low i ∷ sym high i ∷ sym others i) v
next_valued p t n nodes (LeafPart part) parts c s v =
    subst (λ (ns : List Node). AreValued p ns parts) (sym (nodes_stay p t n (LeafPart part) nodes c s.2)) v.1

-- ---- what changes

-- a change at some nodes leaves the others, and these entries are those of the bound leaves that it makes
pub record AreChanged (p : ProblemValue) (t u : WorkTreeValue) (nodes : List ℕ) (entries : List Entry) : Type 0 where
  pub leaves : (other : ℕ) → other < length t.leaves → AreOthers other nodes → leaf_at u other ≡ leaf_at t other
  pub paths : (other : ℕ) → other < length t.leaves → path_to u other ≡ path_to t other
  pub each : (e : Entry) → Contains entries e → IsWorth p u e
  pub has : (n : ℕ) (pairs : List Pair) → leaf_at u n ≡ Some (Bound pairs) → HasItem entries n ⊎ ((n < length t.leaves) × AreOthers n nodes)

part_changed : (p : ProblemValue) (t : WorkTreeValue) (n : ℕ) (part : Part) → IsCounted t → IsSome (leaf_at t n)
    → FirstValued p t n part → IsChanged p t (with_part t n part) n (waits n (part_value part))
part_changed p t n (CutPart cut) c some v = branch_changed p t n cut blank_leaf blank_leaf None None c (site_within t n some) refl refl
part_changed p t n (LeafPart part) c some v = leaf_changed p t n (leaf_of part.leaf) part.value some v

-- the entry of a node that keeps its path and its leaf is worth it still
worth_stays : (p : ProblemValue) (t u : WorkTreeValue) (nodes : List ℕ) (entries : List Entry) (e : Entry)
    → AreChanged p t u nodes entries → AreOthers e.item nodes → IsWorth p t e → IsWorth p u e
worth_stays p t u nodes entries e c o w =
    let within = leaf_within t.leaves e.item (Bound w.pairs) w.leaf in
    record {
      pairs = w.pairs;
      leaf = c.leaves e.item within o ∙ w.leaf;
      worth = subst (λ path. option_map told (value_at p path w.pairs) ≡ Some e.value) (sym (c.paths e.item within)) w.worth;
    }

-- a node that isn't among the next ones isn't among those that were there
other_next : (t : WorkTreeValue) (k other : ℕ) (part : Part) (nodes : List ℕ) → AreOthers other (next k part nodes) → AreOthers other nodes
other_next t k other (CutPart cut) nodes o = o.1.1
other_next t k other (LeafPart part) nodes o = o

next_other : (k other : ℕ) (part : Part) (nodes : List ℕ) → other < k → AreOthers other nodes → AreOthers other (next k part nodes)
next_other k other (CutPart cut) nodes l o = (λ e. omega (arith, l, e), (λ e. omega (arith, l, e), o))
next_other k other (LeafPart part) nodes l o = o

pub grown_changed : (p : ProblemValue) (t : WorkTreeValue) (nodes : List ℕ) (parts : List Part) → IsCounted t
    → AreSites t nodes → are_trees (length nodes) (part_lines parts) ≡ true
    → AreValued p (nodes_at p t nodes) parts → AreChanged p t (with_parts t nodes parts) nodes (news t nodes parts)
grown_changed p t [] [] c s w v = record {
  leaves = λ other l o. refl;
  paths = λ other l. refl;
  each = λ e h. absurd (none_held e h);
  has = λ n pairs e. inr (leaf_within t.leaves n (Bound pairs) e, tt);
}
grown_changed p t (n ∷ nodes) [] c s w v = cc
grown_changed p t [] (part ∷ parts) c s w v = cc
grown_changed p t (n ∷ nodes) (part ∷ parts) c s w v =
    let k = length t.leaves in
    let u = with_part t n part in
    let within = site_within t n s.0 in
    let now = part_changed p t n part c s.0 (first_valued p t n nodes part parts v) in
    let later = grown_changed p u (next k part nodes) parts (counted_part t n part c) (next_sites t n part nodes s)
    (next_shape k part nodes (part_lines parts) w) (next_valued p t n nodes part parts c s v) in
    record {
      leaves = λ other l o. later.leaves other (omega (arith, l, long_part t n part))
          (next_other k other part nodes l o.1) ∙ now.leaves other l (λ e. o.0 (sym e));
      paths = λ other l. later.paths other (omega (arith, l, long_part t n part)) ∙ now.paths other l;
      each = λ e h. elim (Contains-append_cases (news u (next k part nodes) parts) (waits n (part_value part)) e h) [
        | inl new ↦ later.each e new
        | inr own ↦
            let at = waits_item n (part_value part) e own in
            worth_stays p u (with_parts u (next k part nodes) parts) (next k part nodes)
            (news u (next k part nodes) parts) e later
            (subst (λ (m : ℕ). AreOthers m (next k part nodes)) (sym at)
            (next_other k n part nodes within s.1)) (now.each e own)
      ];
      has = λ m pairs e. elim (later.has m pairs e) [
        | inl new ↦ inl (new.0, Contains-append_left (news u (next k part nodes) parts) (waits n (part_value part)) (entry m new.0) new.1)
        | inr old ↦ elim (now.has m pairs (sym (later.leaves m old.0 old.1) ∙ e)) [
          | inl own ↦ inl (
            own.0,
            Contains-append_right (news u (next k part nodes) parts)
                (waits n (part_value part)) (entry m own.0) own.1,
          )
          | inr other ↦ inr (other.0, (λ same. other.1 (sym same), other_next t k m part nodes old.1))
        ]
      ];
    }

-- one node
pub one_changed : (p : ProblemValue) (t : WorkTreeValue) (n : ℕ) (parts : List Part) → IsCounted t
    → IsSome (leaf_at t n) → are_trees 1 (part_lines parts) ≡ true
    → AreValued p (node_at p (path_to t n) ∷ []) parts
    → IsChanged p t (with_parts t (n ∷ []) parts) n (news t (n ∷ []) parts)
one_changed p t n parts c some w v =
    let all = grown_changed p t (n ∷ []) parts c (some, tt, tt) w v in
    record {
      leaves = λ other l ne. all.leaves other l (λ e. ne (sym e), tt);
      paths = all.paths;
      each = all.each;
      has = λ m pairs e. elim (all.has m pairs e) [ inl new ↦ inl new | inr old ↦ inr (old.0, λ same. old.1.0 (sym same)) ];
    }

-- ---- the tree

abbrev all_lines : List Tree → List Line
all_lines [] = []
all_lines (tree ∷ trees) = preorder tree ++ all_lines trees

-- each tree in the place to which its path leads
abbrev puts : Tree → List (List (Cut × Side)) → List Tree → Tree
puts tree [] trees = tree
puts tree (path ∷ paths) [] = tree
puts tree (path ∷ paths) (new ∷ trees) = puts (put tree path new) paths trees

abbrev paths_at : WorkTreeValue → List ℕ → List (List (Cut × Side))
paths_at t [] = []
paths_at t (n ∷ nodes) = path_to t n ∷ paths_at t nodes

paths_stay : (t : WorkTreeValue) (n : ℕ) (part : Part) (nodes : List ℕ) → IsCounted t → AreSites t nodes
    → paths_at (with_part t n part) nodes ≡ paths_at t nodes
paths_stay t n part [] c s = refl
paths_stay t n part (m ∷ nodes) c s = (λ i. part_paths t n part m c (site_within t m s.0) i ∷ paths_stay t n part nodes c s.2 i)

put_here_is : (tree new : Tree) → put tree [] new ≡ new
put_here_is (Ends leaf) new = refl
put_here_is (Branch cut low high) new = refl

put_both : (cut : Cut) (a b low high : Tree) → put (put (Branch cut a b) ((cut, Low) ∷ []) low)
    ((cut, High) ∷ []) high ≡ Branch cut low high
put_both cut a b low high i = Branch cut (put_here_is a low i) (put_here_is b high i)

-- a branch whose parts are put one after the other
put_branch : (tree : Tree) (path : List (Cut × Side)) (cut : Cut) (a b low high : Tree)
    → put (put (put tree path (Branch cut a b)) (path ++ (cut, Low) ∷ []) low) (path ++ (cut, High) ∷ []) high
    ≡ put tree path (Branch cut low high)
put_branch (Ends leaf) [] cut a b low high = put_both cut a b low high
put_branch (Ends leaf) (step ∷ path) cut a b low high = refl
put_branch (Branch c x y) [] cut a b low high = put_both cut a b low high
put_branch (Branch c x y) ((d, Low) ∷ path) cut a b low high = ap (λ (t : Tree). Branch c t y) (put_branch x path cut a b low high)
put_branch (Branch c x y) ((d, High) ∷ path) cut a b low high = ap (λ (t : Tree). Branch c x t) (put_branch y path cut a b low high)

-- the trees that stand at the nodes once the first has its part
record IsNext (t : WorkTreeValue) (n : ℕ) (nodes : List ℕ) (trees : List Tree) (part : Part) (parts : List Part) : Type 0 where
  after : List Tree
  lines : all_lines after ≡ part_lines parts
  count : length after ≡ length (next (length t.leaves) part nodes)
  tree : puts (with_part t n part).tree (paths_at (with_part t n part) (next (length t.leaves) part nodes)) after
      ≡ puts t.tree (paths_at t (n ∷ nodes)) trees

leaf_line : (leaf : Leaf) (cut : Cut) (a b : List Line) → EndLine leaf ∷ a ≡ CutLine cut ∷ b → ⊥
leaf_line leaf cut a b e = cc

cut_line : (leaf : Leaf) (cut : Cut) (a b : List Line) → CutLine cut ∷ a ≡ EndLine leaf ∷ b → ⊥
cut_line leaf cut a b e = cc

same_leaf : (x y : Leaf) (a b : List Line) → EndLine x ∷ a ≡ EndLine y ∷ b → (x ≡ y) × (a ≡ b)
same_leaf x y a b e = (cc, cc)

same_cut : (x y : Cut) (a b : List Line) → CutLine x ∷ a ≡ CutLine y ∷ b → (x ≡ y) × (a ≡ b)
same_cut x y a b e = (cc, cc)

next_trees : (t : WorkTreeValue) (n : ℕ) (nodes : List ℕ) (tree : Tree) (trees : List Tree) (part : Part)
    (parts : List Part) → IsCounted t → AreSites t (n ∷ nodes)
    → preorder tree ++ all_lines trees ≡ part_lines (part ∷ parts) → length trees ≡ length nodes
    → IsNext t n nodes (tree ∷ trees) part parts
next_trees t n nodes (Ends leaf) trees (CutPart cut) parts c s l m = absurd (leaf_line leaf cut _ _ l)
next_trees t n nodes (Ends leaf) trees (LeafPart part) parts c s l m =
    let same = same_leaf leaf (leaf_of part.leaf) (all_lines trees) (part_lines parts) l in
    record {
      after = trees;
      lines = same.1;
      count = m;
      tree = λ i. puts (put t.tree (path_to t n) (Ends (sym same.0 i))) (paths_stay t n (LeafPart part) nodes c s.2 i) trees;
    }
next_trees t n nodes (Branch cut low high) trees (LeafPart part) parts c s l m = absurd (cut_line (leaf_of part.leaf) cut _ _ l)
next_trees t n nodes (Branch cut low high) trees (CutPart own) parts c s l m =
    let same = same_cut cut own ((preorder low ++ preorder high) ++ all_lines trees) (part_lines parts) l in
    let u = with_part t n (CutPart own) in
    let k = length t.leaves in
    let path = path_to t n in
    let others = paths_stay t n (CutPart own) nodes c s.2 in
    record {
      after = low ∷ high ∷ trees;
      lines = sym (append_assoc (preorder low) (preorder high) (all_lines trees)) ∙ same.1;
      count = omega (arith, m);
      tree =
          (λ i. puts (put (put u.tree (low_path t n own c i) low) (high_path t n own c i) high) (others i) trees)
          ∙ ap (λ (x : Tree). puts x (paths_at t nodes) trees) (put_branch t.tree path own (Ends blank_leaf) (Ends blank_leaf) low high)
          ∙ ap (λ (x : Cut). puts (put t.tree path (Branch x low high)) (paths_at t nodes) trees) (sym same.0);
    }

no_lines : (tree : Tree) (lines : List Line) → preorder tree ++ lines ≡ [] → ⊥
no_lines (Ends leaf) lines e = cc
no_lines (Branch cut low high) lines e = cc

grown_tree : (t : WorkTreeValue) (nodes : List ℕ) (parts : List Part) (trees : List Tree) → IsCounted t
    → AreSites t nodes → all_lines trees ≡ part_lines parts → length trees ≡ length nodes
    → (with_parts t nodes parts).tree ≡ puts t.tree (paths_at t nodes) trees
grown_tree t [] [] trees c s l m = refl
grown_tree t (n ∷ nodes) [] [] c s l m = cc
grown_tree t (n ∷ nodes) [] (tree ∷ trees) c s l m = absurd (no_lines tree (all_lines trees) l)
grown_tree t [] (part ∷ parts) [] c s l m = cc
grown_tree t [] (part ∷ parts) (tree ∷ trees) c s l m = cc
grown_tree t (n ∷ nodes) (part ∷ parts) [] c s l m = cc
grown_tree t (n ∷ nodes) (part ∷ parts) (tree ∷ trees) c s l m =
    let rest = next_trees t n nodes tree trees part parts c s l (omega (arith, m)) in
    grown_tree (with_part t n part) (next (length t.leaves) part nodes) parts rest.after (counted_part t n part c)
    (next_sites t n part nodes s) rest.lines rest.count ∙ rest.tree

pub one_tree_grown : (t : WorkTreeValue) (n : ℕ) (parts : List Part) (tree : Tree) → IsCounted t
    → IsSome (leaf_at t n) → preorder tree ≡ part_lines parts
    → (with_parts t (n ∷ []) parts).tree ≡ put t.tree (path_to t n) tree
one_tree_grown t n parts tree c some l = grown_tree t (n ∷ []) parts (tree ∷ []) c (some, tt, tt) (append-nil (preorder tree) ∙ l) refl
