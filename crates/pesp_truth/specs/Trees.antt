-- Trees of leaves and cuts, when they are sound, and their lines in preorder.
use Rattle.std.specs.Prelude.{ℕ, zero, suc, ◌+◌, ◌-◌, List, [], ◌∷◌, ◌++◌, map, length, ℤ, pos, ◌*ℤ◌, ◌≤ℤ◌, ◌<ℤ◌, All, Option, Some, None, option_map, IsNone, IsSomeAnd, Bool, true, false}
use Rattle.pesp_problem.specs.declared.row.SignedRow.{SignedRow}
use Rattle.pesp_problem.specs.declared.pair.Pair.{Pair}
use Rattle.pesp_problem.specs.declared.cut.Cut.{Cut}
use Rattle.pesp_problem.specs.declared.cut.Cut.TheVariants.{Slack, Offset}
use Rattle.pesp_problem.specs.Arcs.{Net, arc_at, over_arcs}
use Rattle.pesp_problem.specs.Walks.{Names}
use Rattle.pesp_problem.specs.Nodes.{Node, leaf_value, offsets_left, low_part, high_part}
use Rattle.pesp_problem.specs.Families.{NoFamilyIsSupported}
use Rattle.pesp_truth.specs.declared.tree.TreeLine.{TreeLine}
use Rattle.pesp_truth.specs.declared.tree.TreeLine.TheVariants.{Slack as SlackLine, Offset as OffsetLine, Bound as BoundLine, Nothing as NothingLine, Gap as GapLine, Propagated as PropagatedLine}
use Rattle.pesp_truth.specs.Marks.{Marks, AreMarks}
use Rattle.pesp_truth.specs.Lemmas.{Lemma, weight_at, HoldsAt}
use Rattle.pesp_truth.specs.LemmaLeaves.{lemma_value, lemma_bound}
use Rattle.pesp_truth.specs.Named.{AreNamed, of_lemmas, multipliers}

-- why no timetable lies in a node: by pairs, by a cycle with no offset left, or because the rows support no family
pub data Reason : Type 0 where
  ByPairs : List Pair → Reason
  ByGap : ℕ → Reason
  ByPropagation : Reason

-- the end of a way through a tree: a bound by pairs, or shut for a reason
pub data Leaf : Type 0 where
  Bound : List Pair → Leaf
  Shut : Reason → Leaf

-- shut by pairs
abbrev pub Nothing : List Pair → Leaf
Nothing pairs = Shut (ByPairs pairs)

-- shut by a cycle
abbrev pub Gap : ℕ → Leaf
Gap cycle = Shut (ByGap cycle)

-- the pairs of a reason, none where it has none
abbrev pub pairs_of_reason : Reason → List Pair
pairs_of_reason (ByPairs pairs) = pairs
pairs_of_reason (ByGap cycle) = []
pairs_of_reason ByPropagation = []

-- the pairs of a leaf
abbrev pub pairs_of_leaf : Leaf → List Pair
pairs_of_leaf (Bound pairs) = pairs
pairs_of_leaf (Shut reason) = pairs_of_reason reason

-- a branch has the part of 'at most k' first
pub data Tree : Type 0 where
  Ends : Leaf → Tree
  Branch : Cut → Tree → Tree → Tree

-- a line of a tree in preorder
pub data Line : Type 0 where
  EndLine : Leaf → Line
  CutLine : Cut → Line

-- a line of a certificate's tree, as the cut of a branch or as a leaf
abbrev pub line_of : TreeLine → Line
line_of (SlackLine row k) = CutLine (Slack row k)
line_of (OffsetLine cycle k) = CutLine (Offset cycle k)
line_of (BoundLine pairs) = EndLine (Bound pairs)
line_of (NothingLine pairs) = EndLine (Nothing pairs)
line_of (GapLine cycle) = EndLine (Gap cycle)
line_of PropagatedLine = EndLine (Shut ByPropagation)

-- a branch's cut, then its first part, then its second part
abbrev pub preorder : Tree → List Line
preorder (Ends leaf) = EndLine leaf ∷ []
preorder (Branch cut low high) = CutLine cut ∷ (preorder low ++ preorder high)

-- the row or the cycle of the cut exists
abbrev pub CutExists : Net → List (List SignedRow) → Cut → Type 0
CutExists n table (Slack row k) = Names (length n.arcs) row
CutExists n table (Offset cycle k) = Names (length table) cycle

-- ---- what a tree is to show

-- that under these weights the sum of weight times slack is at least this, or, where no least sum is named, that there is no
-- timetable
pub record Goal : Type 0 where
  pub weights : ℕ → ℤ
  pub least : Option ℤ

-- under the net's own weights the sum is the cost
abbrev pub cost_goal : Net → Option ℕ → Goal
cost_goal n least = record { weights = λ i. pos (arc_at n.arcs i).weight; least = option_map pos least }

-- under those of a lemma it is the lemma's sum
abbrev pub lemma_goal : Lemma → Goal
lemma_goal fact = record { weights = weight_at fact.weights; least = Some fact.least }

-- the sum is large enough at these slacks; where none is named no sum is
abbrev pub IsReachedBy : Net → (ℕ → ℕ) → Goal → Type 0
IsReachedBy n slacks goal = IsSomeAnd goal.least (λ least. least ≤ℤ over_arcs n.arcs (λ i. goal.weights i *ℤ pos (slacks i)))

-- what a tree is to show, and what its leaves may name for it: without a front a least cost, by cycles alone; behind one a goal, by
-- cycles, marked walks and lemmas
pub data Claim : Type 0 where
  Plain : Option ℕ → Claim
  Behind : Marks → List Lemma → Goal → Claim

-- the same claim with another least sum, or with none
abbrev pub with_least : Claim → Option ℕ → Claim
with_least (Plain other) least = Plain least
with_least (Behind marks facts goal) least = Behind marks facts (record goal { least = option_map pos least })

-- the goal of a claim
abbrev pub goal_of : Net → Claim → Goal
goal_of n (Plain least) = cost_goal n least
goal_of n (Behind marks facts goal) = goal

-- what has to be so at some slacks for its leaves to be right there: the marked walks are closed, and the lemmas hold
abbrev pub Stands : Net → (ℕ → ℕ) → Claim → Type 0
Stands n slacks (Plain least) = Unit {0}
Stands n slacks (Behind marks facts goal) = AreMarks n.arcs marks × All (HoldsAt n.arcs slacks) facts

-- there are a value and a least sum, and the value is at least that
abbrev pub Reaches : Option ℤ → Option ℤ → Type 0
Reaches value least = IsSomeAnd least (λ l. IsSomeAnd value (λ v. l ≤ℤ v))

-- ---- pairs

-- the pairs name cycles that exist, and behind a front marked walks and lemmas too, these under multipliers above 0
abbrev pub PairsExist : Claim → List (List SignedRow) → List Pair → Type 0
PairsExist (Plain least) table pairs = All (λ pair. Names (length table) pair.cycle) pairs
PairsExist (Behind marks facts goal) table pairs = AreNamed (length table) (length marks.walks + length facts) pairs

-- what the sum is at least in the node, by these pairs, under some weights: by the scale, and in whole numbers
abbrev pub value_by : Marks → List Lemma → Net → List (List SignedRow) → Node → List Pair → (ℕ → ℤ) → Option ℤ
value_by marks facts n table node pairs weights =
    lemma_value n table node (multipliers (length table) marks pairs)
    (of_lemmas (length table + length marks.walks) facts pairs) weights

abbrev pub value_rounded : Marks → List Lemma → Net → List (List SignedRow) → Node → List Pair → (ℕ → ℤ) → Option ℤ
value_rounded marks facts n table node pairs weights =
    lemma_bound n table node (multipliers (length table) marks pairs)
    (of_lemmas (length table + length marks.walks) facts pairs) weights

-- what the sum that is claimed is at least in the node, by these pairs
abbrev pub bound_by : Claim → Net → List (List SignedRow) → Node → List Pair → Option ℤ
bound_by (Plain least) n table node pairs = leaf_value n table node pairs true
bound_by (Behind marks facts goal) n table node pairs = value_rounded marks facts n table node pairs goal.weights

-- the same without weights: above 0 it shows that no timetable lies in the node
abbrev pub lack_by : Claim → Net → List (List SignedRow) → Node → List Pair → Option ℤ
lack_by (Plain least) n table node pairs = leaf_value n table node pairs false
lack_by (Behind marks facts goal) n table node pairs = value_by marks facts n table node pairs (λ i. pos 0)

-- ---- sound trees

-- the reason holds at a node; an event that no row joins always has a set, so it doesn't matter how many such events there are
abbrev pub IsShut : Claim → Net → List (List SignedRow) → Reason → Node → Type 0
IsShut claim n table (ByPairs pairs) node = PairsExist claim table pairs × IsSomeAnd (lack_by claim n table node pairs) (λ v. pos 0 <ℤ v)
IsShut claim n table (ByGap cycle) node = Names (length table) cycle × IsNone (offsets_left n table node (cycle - 1))
IsShut claim n table ByPropagation node = (events : ℕ) × NoFamilyIsSupported n node.slacks events

-- the leaf is sound at a node for what is claimed
abbrev pub IsSoundLeaf : Claim → Net → List (List SignedRow) → Leaf → Node → Type 0
IsSoundLeaf claim n table (Bound pairs) node = PairsExist claim table pairs
    × Reaches (bound_by claim n table node pairs) (goal_of n claim).least
IsSoundLeaf claim n table (Shut reason) node = IsShut claim n table reason node

-- each leaf is sound at its node, and what the branches cut exists
abbrev pub IsSound : Claim → Net → List (List SignedRow) → Tree → Node → Type 0
IsSound claim n table (Ends leaf) node = IsSoundLeaf claim n table leaf node
IsSound claim n table (Branch cut low high) node = CutExists n table cut
    × IsSound claim n table low (low_part node cut) × IsSound claim n table high (high_part node cut)

-- no leaf of the tree is a bound leaf
abbrev pub HasNoBound : Tree → Type 0
HasNoBound (Ends (Bound pairs)) = ⊥
HasNoBound (Ends (Shut reason)) = Unit {0}
HasNoBound (Branch cut low high) = HasNoBound low × HasNoBound high

-- ---- the same over lines

-- the lines are one sound tree after the other, one for each of the nodes that wait, in order
abbrev pub AreSound : Claim → Net → List (List SignedRow) → List Line → List Node → Type 0
AreSound claim n table [] [] = Unit {0}
AreSound claim n table [] (node ∷ nodes) = ⊥
AreSound claim n table (line ∷ lines) [] = ⊥
AreSound claim n table (EndLine leaf ∷ lines) (node ∷ nodes) = IsSoundLeaf claim n table leaf node
    × AreSound claim n table lines nodes
AreSound claim n table (CutLine cut ∷ lines) (node ∷ nodes) = CutExists n table cut
    × AreSound claim n table lines (low_part node cut ∷ high_part node cut ∷ nodes)

-- the lines are this many whole trees, one after the other
abbrev pub are_trees : ℕ → List Line → Bool
are_trees zero [] = true
are_trees zero (line ∷ lines) = false
are_trees (suc n) [] = false
are_trees (suc n) (EndLine leaf ∷ lines) = are_trees n lines
are_trees (suc n) (CutLine cut ∷ lines) = are_trees (suc (suc n)) lines
