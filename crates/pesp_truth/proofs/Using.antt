-- The rows that a valid certificate of no timetable uses are in conflict.
use Rattle.std.proofs.Common.{◌≡◌, ℕ, ◌+◌, ◌-◌, ◌<◌, ◌≤◌, List, [], ◌∷◌, ◌++◌, length, sym, subst, ◌∙◌, arith, append_assoc, append-nil}
use Rattle.std.specs.Prelude.{All, Contains, None, map}
use Rattle.std.proofs.lemmas.List.Elements.{All-head, All-tail, All-contains}
use Rattle.pesp_problem.specs.declared.row.SignedRow.{SignedRow}
use Rattle.pesp_problem.specs.Timetables.{Pesp, row_at, IsSatisfied}
use Rattle.pesp_problem.specs.Arcs.{Net, arc_at, arcs_of, net_of, slacks_at}
use Rattle.pesp_problem.specs.Walks.{Names}
use Rattle.pesp_problem.specs.Nodes.{Node, cycle_at, low_part, high_part, root}
use Rattle.pesp_problem.proofs.Arcs.{length-arcs_of, arc_at-arcs_of, slacks_at-net_of, slack-le-span}
use Rattle.pesp_truth.specs.declared.answer.Answer.TheVariants.{Infeasible}
use Rattle.pesp_truth.specs.declared.tree.TreeLine.{TreeLine}
use Rattle.pesp_truth.specs.declared.tree.TreeLine.TheVariants.{Slack as SlackLine, Offset as OffsetLine, Bound as BoundLine, Nothing as NothingLine, Gap as GapLine, Propagated as PropagatedLine}
use Rattle.pesp_truth.specs.Trees.{Tree, Leaf, Line, Ends, Branch, Bound, Shut, ByPairs, ByGap, ByPropagation, EndLine, CutLine, line_of, preorder, Plain, IsSound}
use Rattle.pesp_truth.specs.Certificates.{Content, IsValid, least_of}
use Rattle.pesp_truth.proofs.Trees.{trees_are_right}
use Rattle.pesp_truth.specs.Conflicts.{KeepsRows, AreInConflict}
use Rattle.pesp_truth.specs.Used.{LineUsesOnly, UsesOnly}
use Rattle.pesp_truth.proofs.Passing.{Rows, PairRows}
use Rattle.pesp_truth.proofs.Agreeing.{Agree, low_parts, high_parts}
use Rattle.pesp_truth.proofs.AgreeingLeaves.{nothing_agrees, gap_agrees, propagated_agrees}
use Rattle.pesp_truth.proofs.Widening.{wide_root, lies_in_wide_root, roots_agree}

-- ---- what a leaf uses, and a tree

abbrev LeafUses : (ℕ → Type 0) → ℕ → List (List SignedRow) → Leaf → Type 0
LeafUses P rows table (Bound pairs) = Unit {0}
LeafUses P rows table (Shut (ByPairs pairs)) = PairRows P table pairs
LeafUses P rows table (Shut (ByGap cycle)) = Rows P (cycle_at table (cycle - 1))
LeafUses P rows table (Shut ByPropagation) = (row : ℕ) → Names rows row → P row

abbrev TreeUses : (ℕ → Type 0) → ℕ → List (List SignedRow) → Tree → Type 0
TreeUses P rows table (Ends leaf) = LeafUses P rows table leaf
TreeUses P rows table (Branch cut low high) = TreeUses P rows table low × TreeUses P rows table high

abbrev LinesUse : (ℕ → Type 0) → ℕ → List (List SignedRow) → List Line → Type 0
LinesUse P rows table [] = Unit {0}
LinesUse P rows table (EndLine leaf ∷ lines) = LeafUses P rows table leaf × LinesUse P rows table lines
LinesUse P rows table (CutLine cut ∷ lines) = LinesUse P rows table lines

-- from lines to their tree, and what is behind it
tree_of_lines : (P : ℕ → Type 0) (rows : ℕ) (table : List (List SignedRow)) (tree : Tree) (rest : List Line)
    → LinesUse P rows table (preorder tree ++ rest) → TreeUses P rows table tree × LinesUse P rows table rest
tree_of_lines P rows table (Ends leaf) rest h = h
tree_of_lines P rows table (Branch cut low high) rest h =
    let first = tree_of_lines P rows table low (preorder high ++ rest)
    (subst (LinesUse P rows table) (append_assoc (preorder low) (preorder high) rest) h) in
    let second = tree_of_lines P rows table high rest first.1 in
    ((first.0, second.0), second.1)

-- from the lines of a certificate
uses_lines : (listed : List ℕ) (rows : ℕ) (table : List (List SignedRow)) (lines : List TreeLine)
    → All (LineUsesOnly rows table listed) lines → LinesUse (Contains listed) rows table (map line_of lines)
uses_lines listed rows table [] h = tt
uses_lines listed rows table (SlackLine row k ∷ lines) h =
    uses_lines listed rows table lines (All-tail (LineUsesOnly rows table listed) (SlackLine row k) lines h)
uses_lines listed rows table (OffsetLine cycle k ∷ lines) h =
    uses_lines listed rows table lines (All-tail (LineUsesOnly rows table listed) (OffsetLine cycle k) lines h)
uses_lines listed rows table (BoundLine pairs ∷ lines) h =
    (tt, uses_lines listed rows table lines (All-tail (LineUsesOnly rows table listed) (BoundLine pairs) lines h))
uses_lines listed rows table (NothingLine pairs ∷ lines) h = (
  All-head (LineUsesOnly rows table listed) (NothingLine pairs) lines h,
  uses_lines listed rows table lines (All-tail (LineUsesOnly rows table listed) (NothingLine pairs) lines h),
)
uses_lines listed rows table (GapLine cycle ∷ lines) h = (
  All-head (LineUsesOnly rows table listed) (GapLine cycle) lines h,
  uses_lines listed rows table lines (All-tail (LineUsesOnly rows table listed) (GapLine cycle) lines h),
)
uses_lines listed rows table (PropagatedLine ∷ lines) h = (
  All-head (LineUsesOnly rows table listed) PropagatedLine lines h,
  uses_lines listed rows table lines (All-tail (LineUsesOnly rows table listed) PropagatedLine lines h),
)

-- ---- a tree that is sound at a node is sound at each one that agrees with it in the rows that it uses

sound_leaf : (P : ℕ → Type 0) (n : Net) (table : List (List SignedRow)) (leaf : Leaf) (a b : Node)
    → LeafUses P (length n.arcs) table leaf → Agree P (length n.arcs) table a b
    → IsSound (Plain None) n table (Ends leaf) a → IsSound (Plain None) n table (Ends leaf) b
sound_leaf P n table (Bound pairs) a b u k s = absurd s.1
sound_leaf P n table (Shut (ByPairs pairs)) a b u k s = (s.0, nothing_agrees P n table a b pairs s.0 u k s.1)
sound_leaf P n table (Shut (ByGap cycle)) a b u k s = (s.0, gap_agrees P n table a b cycle s.0 u k s.1)
sound_leaf P n table (Shut ByPropagation) a b u k s = (s.0, propagated_agrees P n table a b s.0 u k s.1)

sound_too : (P : ℕ → Type 0) (n : Net) (table : List (List SignedRow)) (tree : Tree) (a b : Node)
    → TreeUses P (length n.arcs) table tree → Agree P (length n.arcs) table a b → IsSound (Plain None) n table tree a
    → IsSound (Plain None) n table tree b
sound_too P n table (Ends leaf) a b u k s = sound_leaf P n table leaf a b u k s
sound_too P n table (Branch cut low high) a b u k s = (
  s.0,
  sound_too P n table low (low_part a cut) (low_part b cut) u.0 (low_parts P (length n.arcs) table a b cut k) s.1,
  sound_too P n table high (high_part a cut) (high_part b cut) u.1 (high_parts P (length n.arcs) table a b cut k) s.2,
)

-- ---- certificates

kept_within_span : (p : Pesp) (listed times : List ℕ) → 0 < p.period → KeepsRows p listed times → (i : ℕ)
    → i < length (arcs_of p) → Contains listed (i + 1) → slacks_at (net_of p) times i ≤ (arc_at (arcs_of p) i).span
kept_within_span p listed times h kept i l in_list =
    let inside : i < length p.rows = omega (arith, l, length-arcs_of p) in
    let satisfied = All-contains (λ (row : ℕ). IsSatisfied p times (row_at p.rows (row - 1))) listed (i + 1) kept.1 in_list in
    let here = subst (λ (k : ℕ). IsSatisfied p times (row_at p.rows k)) (omega arith) satisfied in
    let within = slack-le-span p times (row_at p.rows i) h here in
    rw (slacks_at-net_of p times i inside, arc_at-arcs_of p i inside) within

pub used_rows_conflict : (p : Pesp) (content : Content) (listed : List ℕ) → 0 < p.period → IsValid None p content
    → content.answer ≡ Infeasible → UsesOnly (length p.rows) content listed → AreInConflict p listed
used_rows_conflict p content listed h valid answer uses times kept =
    let tree = valid.tree.0 in
    let sound : IsSound (Plain None) (net_of p) content.cycles tree (root (net_of p) content.cycles) =
    subst (λ a. IsSound (Plain (least_of a)) (net_of p) content.cycles tree (root (net_of p) content.cycles)) answer
    valid.tree.2 in
    let lines = uses_lines listed (length p.rows) content.cycles content.tree uses in
    let of_tree : LinesUse (Contains listed) (length p.rows) content.cycles (preorder tree ++ []) =
    subst (LinesUse (Contains listed) (length p.rows) content.cycles)
    (sym valid.tree.1 ∙ sym (append-nil (preorder tree))) lines in
    let used = (tree_of_lines (Contains listed) (length p.rows) content.cycles tree [] of_tree).0 in
    let used' = subst (λ (k : ℕ). TreeUses (Contains listed) k content.cycles tree) (sym (length-arcs_of p)) used in
    let agree = roots_agree (Contains listed) (net_of p) content.cycles times (kept_within_span p listed times h kept) in
    let wide = sound_too (Contains listed) (net_of p) content.cycles tree (root (net_of p) content.cycles)
    (wide_root (net_of p) content.cycles times) used' agree sound in
    trees_are_right (Plain None) (net_of p) content.cycles times tree (wide_root (net_of p) content.cycles times) h tt wide
    (lies_in_wide_root (net_of p) content.cycles times h valid.cycles)
