-- A tree that is sound at a node is right about all times whose slacks lie in it, and at the root about every timetable.
use Rattle.std.proofs.Common.{◌≡◌, ℕ, ◌+◌, ◌≤◌, ◌<◌, ◌-◌, ◌⊎◌, List, inl, inr, arith, true, false, length}
use Rattle.std.specs.Prelude.{ℤ, pos, ◌≤ℤ◌, ◌<ℤ◌, ◌*ℤ◌, All, Option, Some, None, option_map, IsNone, IsSomeAnd}
use Rattle.std.proofs.lemmas.Int.{ints}
use Rattle.pesp_problem.specs.declared.row.SignedRow.{SignedRow}
use Rattle.pesp_problem.specs.declared.pair.Pair.{Pair}
use Rattle.pesp_problem.specs.declared.cut.Cut.{Cut}
use Rattle.pesp_problem.specs.declared.cut.Cut.TheVariants.{Slack, Offset}
use Rattle.pesp_problem.specs.Timetables.{Pesp, IsTimetable, cost}
use Rattle.pesp_problem.specs.Arcs.{Net, arcs_of, net_of, over_arcs, slacks_at}
use Rattle.pesp_problem.specs.Walks.{Names, IsWalk}
use Rattle.pesp_problem.specs.Nodes.{Node, LieIn, leaf_value, offsets_left, low_part, high_part, root}
use Rattle.pesp_problem.proofs.Arcs.{cost_is}
use Rattle.pesp_problem.proofs.Differences.{differences_are_supported}
use Rattle.pesp_problem.proofs.Integers.{le_trans, sum_below-zero, zero-mul}
use Rattle.pesp_problem.proofs.Nodes.{leaf_value-le, no_weights, has_left, in_slack_part, in_offset_part, timetable_in_root}
use Rattle.pesp_truth.specs.Marks.{Marks, AreMarks}
use Rattle.pesp_truth.specs.Named.{AreNamed, of_lemmas, multipliers}
use Rattle.pesp_truth.specs.Lemmas.{Lemma, HoldsAt}
use Rattle.pesp_truth.specs.Trees.{Tree, Leaf, Reason, Ends, Bound, Shut, ByPairs, ByGap, ByPropagation, Branch, CutExists, Goal, cost_goal, IsReachedBy, Claim, Plain, Behind, goal_of, Stands, Reaches, PairsExist, value_by, value_rounded, bound_by, lack_by, IsShut, IsSoundLeaf, IsSound}
use Rattle.pesp_truth.proofs.Named.{are_multipliers, named_lemmas}
use Rattle.pesp_truth.proofs.LemmaLeaves.{lemma_value-le, lemma_bound-le, whole_at_times}

-- ---- leaves that name cycles alone

plain_bound : (n : Net) (table : List (List SignedRow)) (slacks : ℕ → ℕ) (node : Node) (pairs : List Pair)
    (least : Option ℕ) → 0 < n.period → All (λ pair. Names (length table) pair.cycle) pairs
    → Reaches (leaf_value n table node pairs true) (option_map pos least) → LieIn n table slacks node
    → IsReachedBy n slacks (cost_goal n least)
plain_bound n table slacks node pairs None h e at_least lies = at_least
plain_bound n table slacks node pairs (Some least) h e at_least lies =
    let value = leaf_value-le n table slacks node pairs true h e lies in
    let above : pos least ≤ℤ value.0 = rw (value.1) at at_least in
    le_trans (pos least) value.0 _ above value.2

plain_lack : (n : Net) (table : List (List SignedRow)) (slacks : ℕ → ℕ) (node : Node) (pairs : List Pair)
    → 0 < n.period → All (λ pair. Names (length table) pair.cycle) pairs
    → IsSomeAnd (leaf_value n table node pairs false) (λ v. pos 0 <ℤ v) → LieIn n table slacks node → ⊥
plain_lack n table slacks node pairs h e positive lies =
    let value = leaf_value-le n table slacks node pairs false h e lies in
    let above = rw (value.1) at positive in
    omega (arith, ints, value.2, above, no_weights n slacks)

-- ---- leaves that may name marked walks and lemmas, at times at which the lemmas hold

module _ (n : Net) (table : List (List SignedRow)) (marks : Marks) (facts : List Lemma) (times : List ℕ)
    (h : 0 < n.period) (are : AreMarks n.arcs marks) (hold : All (HoldsAt n.arcs (slacks_at n times)) facts) where
  behind_bound : (weights : ℕ → ℤ) (least : Option ℤ) (pairs : List Pair) (node : Node)
      → AreNamed (length table) (length marks.walks + length facts) pairs
      → Reaches (value_rounded marks facts n table node pairs weights) least → LieIn n table (slacks_at n times) node
      → IsSomeAnd least (λ l. l ≤ℤ over_arcs n.arcs (λ i. weights i *ℤ pos (slacks_at n times i)))
  behind_bound weights None pairs node named s lies = s
  behind_bound weights (Some least) pairs node named s lies =
      let m = are_multipliers n.arcs table marks (length facts) pairs are named in
      let value = lemma_bound-le n table (slacks_at n times) node (multipliers (length table) marks pairs)
      (of_lemmas (length table + length marks.walks) facts pairs) weights h m
      (whole_at_times n table times (multipliers (length table) marks pairs) h m)
      (named_lemmas (HoldsAt n.arcs (slacks_at n times)) (length table) (length marks.walks) facts pairs hold named) lies in
      let enough : least ≤ℤ value.0 = rw (value.1) at s in
      le_trans least value.0 (over_arcs n.arcs (λ i. weights i *ℤ pos (slacks_at n times i))) enough value.2

  nothing : (slacks : ℕ → ℕ) → over_arcs n.arcs (λ i. pos 0 *ℤ pos (slacks i)) ≡ pos 0
  nothing slacks = sum_below-zero (length n.arcs) (λ i. pos 0 *ℤ pos (slacks i)) (λ i l. zero-mul (pos (slacks i)))

  behind_lack : (pairs : List Pair) (node : Node) → AreNamed (length table) (length marks.walks + length facts) pairs
      → IsSomeAnd (value_by marks facts n table node pairs (λ i. pos 0)) (λ v. pos 0 <ℤ v)
      → LieIn n table (slacks_at n times) node → ⊥
  behind_lack pairs node named positive lies =
      let m = are_multipliers n.arcs table marks (length facts) pairs are named in
      let others = multipliers (length table) marks pairs in
      let value = lemma_value-le n table (slacks_at n times) node others
      (of_lemmas (length table + length marks.walks) facts pairs) (λ i. pos 0) h m
      (whole_at_times n table times others h m)
      (named_lemmas (HoldsAt n.arcs (slacks_at n times)) (length table) (length marks.walks) facts pairs hold named) lies in
      let below : value.0 ≤ℤ (pos others.scale *ℤ pos 0) = rw (nothing (slacks_at n times)) at (value.2) in
      let above : pos 0 <ℤ value.0 = rw (value.1) at positive in
      omega (arith, ints, below, above)

-- ---- leaves

gap_leaf : (n : Net) (table : List (List SignedRow)) (slacks : ℕ → ℕ) (node : Node) (cycle : ℕ) → 0 < n.period
    → Names (length table) cycle → IsNone (offsets_left n table node (cycle - 1)) → LieIn n table slacks node → ⊥
gap_leaf n table slacks node cycle h e none lies =
    let left = has_left n table slacks node (cycle - 1) h (omega (arith, e)) lies in
    let wrong = rw (left.2.2) at none in
    cc

module _ (n : Net) (table : List (List SignedRow)) (times : List ℕ) (h : 0 < n.period) where
  pairs_bound : (claim : Claim) (pairs : List Pair) (node : Node) → Stands n (slacks_at n times) claim
      → IsSoundLeaf claim n table (Bound pairs) node → LieIn n table (slacks_at n times) node
      → IsReachedBy n (slacks_at n times) (goal_of n claim)
  pairs_bound (Plain least) pairs node stands s lies = plain_bound n table (slacks_at n times) node pairs least h s.0 s.1 lies
  pairs_bound (Behind marks facts goal) pairs node stands s lies =
      behind_bound n table marks facts times h stands.0 stands.1 goal.weights goal.least pairs node s.0 s.1 lies

  pairs_hold_none : (claim : Claim) (pairs : List Pair) (node : Node) → Stands n (slacks_at n times) claim
      → IsShut claim n table (ByPairs pairs) node → LieIn n table (slacks_at n times) node → ⊥
  pairs_hold_none (Plain least) pairs node stands s lies = plain_lack n table (slacks_at n times) node pairs h s.0 s.1 lies
  pairs_hold_none (Behind marks facts goal) pairs node stands s lies =
      behind_lack n table marks facts times h stands.0 stands.1 pairs node s.0 s.1 lies

  shut_leaf : (claim : Claim) (reason : Reason) (node : Node) → Stands n (slacks_at n times) claim
      → IsShut claim n table reason node → LieIn n table (slacks_at n times) node → ⊥
  shut_leaf claim (ByPairs pairs) node stands s lies = pairs_hold_none claim pairs node stands s lies
  shut_leaf claim (ByGap cycle) node stands s lies = gap_leaf n table (slacks_at n times) node cycle h s.0 s.1 lies
  shut_leaf claim ByPropagation node stands s lies = differences_are_supported n node.slacks times s.0 h lies.0 s.1

  leaf_is_right : (claim : Claim) (leaf : Leaf) (node : Node) → Stands n (slacks_at n times) claim
      → IsSoundLeaf claim n table leaf node → LieIn n table (slacks_at n times) node
      → IsReachedBy n (slacks_at n times) (goal_of n claim)
  leaf_is_right claim (Bound pairs) node stands s lies = pairs_bound claim pairs node stands s lies
  leaf_is_right claim (Shut reason) node stands s lies = absurd (shut_leaf claim reason node stands s lies)

  in_part : (node : Node) (cut : Cut) → CutExists n table cut → LieIn n table (slacks_at n times) node
      → LieIn n table (slacks_at n times) (low_part node cut) ⊎ LieIn n table (slacks_at n times) (high_part node cut)
  in_part node (Slack row k) e lies = in_slack_part n table (slacks_at n times) node row k e lies
  in_part node (Offset cycle k) e lies = in_offset_part n table (slacks_at n times) node cycle k e lies

  -- by induction over the tree
  pub sound_is_right : (claim : Claim) (tree : Tree) (node : Node) → Stands n (slacks_at n times) claim
      → IsSound claim n table tree node → LieIn n table (slacks_at n times) node
      → IsReachedBy n (slacks_at n times) (goal_of n claim)
  sound_is_right claim (Ends leaf) node stands s lies = leaf_is_right claim leaf node stands s lies
  sound_is_right claim (Branch cut low high) node stands s lies =
      elim (in_part node cut s.0 lies) [
        | inl l ↦ sound_is_right claim low (low_part node cut) stands s.1 l
        | inr l ↦ sound_is_right claim high (high_part node cut) stands s.2 l
      ]

pub trees_are_right : (claim : Claim) (n : Net) (table : List (List SignedRow)) (times : List ℕ) (tree : Tree) (node : Node)
    → 0 < n.period → Stands n (slacks_at n times) claim → IsSound claim n table tree node
    → LieIn n table (slacks_at n times) node → IsReachedBy n (slacks_at n times) (goal_of n claim)
trees_are_right claim n table times tree node h stands s lies = sound_is_right n table times h claim tree node stands s lies

-- at the root it is right about every timetable
pub root_is_right : (claim : Claim) (p : Pesp) (table : List (List SignedRow)) (times : List ℕ) (tree : Tree) → 0 < p.period
    → All (IsWalk (arcs_of p)) table → Stands (net_of p) (slacks_at (net_of p) times) claim
    → IsSound claim (net_of p) table tree (root (net_of p) table) → IsTimetable p times
    → IsReachedBy (net_of p) (slacks_at (net_of p) times) (goal_of (net_of p) claim)
root_is_right claim p table times tree h w stands s t =
    trees_are_right claim (net_of p) table times tree (root (net_of p) table) h stands s (timetable_in_root p table times h w t)

-- what it says of times where it shows a least cost
abbrev pub CostsAtLeast : Pesp → List ℕ → Option ℕ → Type 0
CostsAtLeast p times None = ⊥
CostsAtLeast p times (Some least) = least ≤ cost p.period p.rows times

pub cost_of_goal : (p : Pesp) (times : List ℕ) (least : Option ℕ)
    → IsReachedBy (net_of p) (slacks_at (net_of p) times) (cost_goal (net_of p) least) → CostsAtLeast p times least
cost_of_goal p times None s = s
cost_of_goal p times (Some least) s = omega (arith, ints, s, cost_is p times)
