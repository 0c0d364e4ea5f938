-- However the events go, the tree keeps the limits of a certificate's.
use Rattle.std.proofs.Common.{ℕ, ◌+◌, List, [], ◌∷◌, ◌++◌, length, sym, arith, subst, Bool, true, false}
use Rattle.std.specs.Prelude.{ℤ, Option, All, if◌then◌else◌}
use Rattle.std.proofs.lemmas.List.{get_or_append_left, get_or-append-add, length-append}
use Rattle.std.proofs.lemmas.List.Elements.{All-cons, All-head, All-tail, All-nil, All-append, All-contains}
use Rattle.pesp_problem.specs.declared.pair.Pair.{Pair}
use Rattle.pesp_problem.specs.declared.cut.Cut.{Cut}
use Rattle.pesp_problem.specs.declared.cut.Side.{Side}
use Rattle.pesp_problem.specs.declared.cut.Side.TheVariants.{Low, High}
use Rattle.pesp_problem.specs.Walks.{Names}
use Rattle.pesp_problem.specs.Nodes.{Node, leaf_value}
use Rattle.pesp_truth.specs.Trees.{Tree, Leaf, Reason, Line, Ends, Branch, Bound, Shut, ByPairs, ByGap, ByPropagation, EndLine, CutLine, preorder}
use Rattle.pesp_network.specs.Networks.{KeepsNetLimits}
use Rattle.pesp_nodes.specs.Problems.{ProblemValue, problem_net, ArePairs, IsPairOf, IsSmallTable}
use Rattle.pesp_nodes.proofs.Rising.{nothing_rises}
use Rattle.pesp_tree.specs.declared.work.Work.{Work}
use Rattle.pesp_tree.specs.declared.work.Work.TheVariants as works
use Rattle.pesp_truth.specs.Leaves.{IsLeafAt, put}
use Rattle.pesp_truth.proofs.Paths.{along-push}
use Rattle.pesp_tree.specs.Limits.{IsReasonOf, IsLineOf, KeepsTreeLimits}
use Rattle.pesp_tree.specs.States.{State, opening, root_of, node_at}
use Rattle.pesp_tree.specs.Events.{Takes, Makes, Shuts, Keeps, IsGraft, is_better, better_pairs}
use Rattle.pesp_tree.proofs.EventChanges.{Change, Lends_leaf, Takes_work, Recalls_number, Keeps_times, Same}
use Rattle.pesp_tree.proofs.Ranges.{cut_keeps_limits}

-- ---- lines of trees

pub All-first : {X : Type 0} (P : X → Type 0) (xs ys : List X) → All P (xs ++ ys) → All P xs
All-first P xs ys h i d l = rw (← get_or_append_left xs ys d i l) (h i d (omega (arith, l, length-append xs ys)))

pub All-second : {X : Type 0} (P : X → Type 0) (xs ys : List X) → All P (xs ++ ys) → All P ys
All-second P xs ys h i d l = rw (← get_or-append-add xs ys i d) (h (length xs + i) d (omega (arith, l, length-append xs ys)))

-- the line of a leaf is one of the tree's
pub leaf_line : (P : Line → Type 0) (tree : Tree) (path : List (Cut × Side)) (leaf : Leaf)
    → IsLeafAt tree path leaf → All P (preorder tree) → P (EndLine leaf)
leaf_line P (Ends there) [] leaf h k = subst (λ x. P (EndLine x)) h (All-head P (EndLine there) [] k)
leaf_line P (Ends there) (step ∷ path) leaf h k = absurd h
leaf_line P (Branch cut low high) [] leaf h k = absurd h
leaf_line P (Branch cut low high) ((c, Low) ∷ path) leaf h k =
    leaf_line P low path leaf h.1 (All-first P (preorder low) (preorder high)
    (All-tail P (CutLine cut) (preorder low ++ preorder high) k))
leaf_line P (Branch cut low high) ((c, High) ∷ path) leaf h k =
    leaf_line P high path leaf h.1 (All-second P (preorder low) (preorder high)
    (All-tail P (CutLine cut) (preorder low ++ preorder high) k))

-- what holds of the lines of a tree holds of the cuts of the path to a leaf
pub cuts_along : (P : Line → Type 0) (tree : Tree) (path : List (Cut × Side)) (leaf : Leaf)
    → IsLeafAt tree path leaf → All P (preorder tree) → All (λ (step : Cut × Side). P (CutLine step.0)) path
cuts_along P (Ends there) [] leaf h k = All-nil (λ (step : Cut × Side). P (CutLine step.0))
cuts_along P (Ends there) (step ∷ path) leaf h k = absurd h
cuts_along P (Branch cut low high) [] leaf h k = absurd h
cuts_along P (Branch cut low high) ((c, Low) ∷ path) leaf h k =
    let first = subst (λ (x : Cut). P (CutLine x)) (sym h.0) (All-head P (CutLine cut) (preorder low ++ preorder high) k) in
    let rest = All-tail P (CutLine cut) (preorder low ++ preorder high) k in
    All-cons (λ (step : Cut × Side). P (CutLine step.0)) (c, Low) path first
    (cuts_along P low path leaf h.1 (All-first P (preorder low) (preorder high) rest))
cuts_along P (Branch cut low high) ((c, High) ∷ path) leaf h k =
    let first = subst (λ (x : Cut). P (CutLine x)) (sym h.0) (All-head P (CutLine cut) (preorder low ++ preorder high) k) in
    let rest = All-tail P (CutLine cut) (preorder low ++ preorder high) k in
    All-cons (λ (step : Cut × Side). P (CutLine step.0)) (c, High) path first
    (cuts_along P high path leaf h.1 (All-second P (preorder low) (preorder high) rest))

-- what holds of the lines of a tree and of those of another holds where that one takes the place of a leaf
pub put_lines : (P : Line → Type 0) (tree : Tree) (path : List (Cut × Side)) (new : Tree) → All P (preorder tree)
    → All P (preorder new) → All P (preorder (put tree path new))
put_lines P (Ends there) [] new k n = n
put_lines P (Ends there) (step ∷ path) new k n = k
put_lines P (Branch cut low high) [] new k n = n
put_lines P (Branch cut low high) ((c, Low) ∷ path) new k n =
    let rest = All-tail P (CutLine cut) (preorder low ++ preorder high) k in
    All-cons P (CutLine cut) (preorder (put low path new) ++ preorder high) (All-head P (CutLine cut) (preorder low ++ preorder high) k)
    (All-append P (preorder (put low path new)) (preorder high)
    (put_lines P low path new (All-first P (preorder low) (preorder high) rest) n)
    (All-second P (preorder low) (preorder high) rest))
put_lines P (Branch cut low high) ((c, High) ∷ path) new k n =
    let rest = All-tail P (CutLine cut) (preorder low ++ preorder high) k in
    All-cons P (CutLine cut) (preorder low ++ preorder (put high path new)) (All-head P (CutLine cut) (preorder low ++ preorder high) k)
    (All-append P (preorder low) (preorder (put high path new)) (All-first P (preorder low) (preorder high) rest)
    (put_lines P high path new (All-second P (preorder low) (preorder high) rest) n))

one_line : (P : Line → Type 0) (leaf : Leaf) → P (EndLine leaf) → All P (preorder (Ends leaf))
one_line P leaf h = All-cons P (EndLine leaf) [] h (All-nil P)

-- ---- what works make

kept_line : (p : ProblemValue) (pairs : List Pair) (node : Node) (leaf : Leaf) → ArePairs (length p.table) pairs
    → Keeps p pairs node leaf → IsLineOf p (EndLine leaf)
kept_line p pairs node (Bound kept) h k = subst (λ x. ArePairs (length p.table) x) (sym k.0) h
kept_line p pairs node (Shut reason) h k =
    let used = k.2 in
    subst (IsReasonOf p) (sym k.1) (subst (λ c. Names (length p.table) c) used.2
    (All-contains (IsPairOf (length p.table)) pairs used.0 h.each used.1).names)

either_pairs : (P : List Pair → Type 0) (b : Bool) (new old : List Pair) → P new → P old → P (if b then new else old)
either_pairs P true new old h k = h
either_pairs P false new old h k = k

pub graft_lines : (p : ProblemValue) (worth : Option ℤ) (tree : Tree) (path : List (Cut × Side))
    → KeepsNetLimits p.network → IsSmallTable p.table → IsGraft p worth (node_at p path) tree
    → All (IsLineOf p) (preorder tree)
graft_lines p worth (Ends (Bound pairs)) path limits small g = one_line (IsLineOf p) (Bound pairs) g.0
graft_lines p worth (Ends (Shut reason)) path limits small g = one_line (IsLineOf p) (Shut reason) g.0
graft_lines p worth (Branch cut low high) path limits small g =
    let first = graft_lines p worth low (path ++ (cut, Low) ∷ []) limits small
    (subst (λ (n : Node). IsGraft p worth n low) (sym (along-push (root_of p) path cut Low)) g.2) in
    let second = graft_lines p worth high (path ++ (cut, High) ∷ []) limits small
    (subst (λ (n : Node). IsGraft p worth n high) (sym (along-push (root_of p) path cut High)) g.3) in
    All-cons (IsLineOf p) (CutLine cut) (preorder low ++ preorder high)
    (cut_keeps_limits p path cut limits small g.0 g.1)
    (All-append (IsLineOf p) (preorder low) (preorder high) first second)

shut_lines : (p : ProblemValue) (node : Node) (reason : Reason) (new : Tree) → Shuts p node reason new → All (IsLineOf p) (preorder new)
shut_lines p node reason new m = subst (λ tree. All (IsLineOf p) (preorder tree)) (sym m.1) (one_line (IsLineOf p) (Shut reason) m.0.0)

pub made_lines : (p : ProblemValue) (path : List (Cut × Side)) (old : List Pair) (work : Work) (new : Tree)
    → KeepsNetLimits p.network → IsSmallTable p.table → ArePairs (length p.table) old
    → Makes p (node_at p path) old work new → All (IsLineOf p) (preorder new)
made_lines p path old (works.Leaf pairs) new limits small h m =
    let node = node_at p path in
    let worse = is_better (leaf_value (problem_net p) p.table node old true) (leaf_value (problem_net p) p.table node pairs true) in
    subst (λ tree. All (IsLineOf p) (preorder tree)) (sym m.2)
    (one_line (IsLineOf p) (Bound (better_pairs p node old pairs))
    (either_pairs (ArePairs (length p.table)) worse pairs old m.0 h))
made_lines p path old (works.Nothing pairs) new limits small h m = shut_lines p (node_at p path) (ByPairs pairs) new m
made_lines p path old (works.Gap cycle) new limits small h m = shut_lines p (node_at p path) (ByGap cycle) new m
made_lines p path old works.Propagated new limits small h m = shut_lines p (node_at p path) ByPropagation new m
made_lines p path old (works.Split cut) new limits small h m =
    subst (λ tree. All (IsLineOf p) (preorder tree)) (sym m.tree)
    (All-cons (IsLineOf p) (CutLine cut) (preorder (Ends m.low) ++ preorder (Ends m.high))
    (cut_keeps_limits p path cut limits small m.exists m.both)
    (All-append (IsLineOf p) (preorder (Ends m.low)) (preorder (Ends m.high))
    (one_line (IsLineOf p) m.low (kept_line p old _ m.low h m.keeps_low))
    (one_line (IsLineOf p) m.high (kept_line p old _ m.high h m.keeps_high))))
made_lines p path old (works.Tree lines) new limits small h m = graft_lines p _ new path limits small m.1

-- ---- events

pub opening_keeps_limits : (p : ProblemValue) → KeepsTreeLimits p opening.tree
opening_keeps_limits p = record {
  small = record { lines = omega arith; pairs = omega arith };
  lines = one_line (IsLineOf p) (Bound []) (nothing_rises (length p.table));
}

takes_keeps_limits : (p : ProblemValue) (old : State) (number : ℕ) (work : Work) (new : State)
    → KeepsNetLimits p.network → IsSmallTable p.table → KeepsTreeLimits p old.tree → Takes p old number work new
    → KeepsTreeLimits p new.tree
takes_keeps_limits p old number work new limits table k s =
    let pairs = leaf_line (IsLineOf p) old.tree s.path (Bound s.pairs) s.leaf.1 k.lines in
    let made = made_lines p s.path s.pairs work s.part limits table pairs s.makes in
    subst (λ state. KeepsTreeLimits p state.tree) (sym s.state)
    (record { small = s.small; lines = put_lines (IsLineOf p) old.tree s.path s.part k.lines made })

pub change_keeps_limits : (p : ProblemValue) → KeepsNetLimits p.network → IsSmallTable p.table → (old new : State)
    → KeepsTreeLimits p old.tree → Change p old new → KeepsTreeLimits p new.tree
change_keeps_limits p limits table old new k (Lends_leaf job s) = subst (λ state. KeepsTreeLimits p state.tree) (sym s.state) k
change_keeps_limits p limits table old new k (Takes_work number work s) = takes_keeps_limits p old number work new limits table k s
change_keeps_limits p limits table old new k (Recalls_number number lent e) = subst (λ state. KeepsTreeLimits p state.tree) (sym e) k
change_keeps_limits p limits table old new k (Keeps_times times better e) = subst (λ state. KeepsTreeLimits p state.tree) (sym e) k
change_keeps_limits p limits table old new k (Same e) = subst (λ state. KeepsTreeLimits p state.tree) (sym e) k
