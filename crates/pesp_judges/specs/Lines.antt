-- A tree by its lines: each is judged at the first of the nodes that wait.
use Rattle.std.specs.Prelude.{◌≡◌, ◌⊎◌, ℕ, ◌+◌, ◌≤◌, List, [], ◌∷◌, length, map, drop, unsigned_abs, Option, MatchOption}
use Rattle.pesp_problem.specs.declared.limits.TheConstants.{MOST_OFFSET, MOST_SLACK}
use Rattle.pesp_problem.specs.declared.row.SignedRow.{SignedRow}
use Rattle.pesp_problem.specs.declared.cut.Cut.{Cut}
use Rattle.pesp_problem.specs.declared.cut.Cut.TheVariants.{Slack as SlackCut, Offset as OffsetCut}
use Rattle.pesp_problem.specs.Arcs.{Net}
use Rattle.pesp_problem.specs.Walks.{Names}
use Rattle.pesp_problem.specs.Nodes.{Node, low_part, high_part}
use Rattle.pesp_truth.specs.declared.tree.TreeLine.{TreeLine}
use Rattle.pesp_truth.specs.declared.tree.TreeLine.TheVariants.{Slack, Offset, Bound, Nothing, Gap, Propagated}
use Rattle.pesp_leaves.specs.Flows.{ArePairLimits}
use Rattle.pesp_truth.specs.Trees.{Claim, Leaf, Reason, Line, EndLine, CutLine, CutExists, IsShut, IsSoundLeaf, AreSound, line_of}
use Rattle.pesp_judges.specs.declared.refusal.Refusal.{Refusal}
use Rattle.pesp_judges.specs.declared.refusal.Refusal.TheVariants.{NoSuch}
use Rattle.pesp_judges.specs.Faults.{IsLeafFault, IsReasonFault}

-- what the code says of a leaf: none where it is sound, else what is wrong with it
abbrev pub IsLeafVerdict : Claim → Net → List (List SignedRow) → Leaf → Node → ℕ → Option Refusal → Type 0
IsLeafVerdict claim n table leaf node at found =
    MatchOption found (IsSoundLeaf claim n table leaf node)
    (λ refusal. IsLeafFault claim n table leaf node at refusal)

-- the nodes that wait after a line
abbrev pub after : Line → List Node → List Node
after line [] = []
after (EndLine leaf) (node ∷ nodes) = nodes
after (CutLine cut) (node ∷ nodes) = low_part node cut ∷ high_part node cut ∷ nodes

-- the line is sound at the first of the nodes that wait
abbrev pub IsSoundLine : Claim → Net → List (List SignedRow) → Line → List Node → Type 0
IsSoundLine claim n table line [] = ⊥
IsSoundLine claim n table (EndLine leaf) (node ∷ nodes) = IsSoundLeaf claim n table leaf node
IsSoundLine claim n table (CutLine cut) (node ∷ nodes) = CutExists n table cut

-- what is wrong with the line there
abbrev pub IsLineFault : Claim → Net → List (List SignedRow) → Line → List Node → ℕ → Refusal → Type 0
IsLineFault claim n table line [] at refusal = ⊥
IsLineFault claim n table (EndLine leaf) (node ∷ nodes) at refusal = IsLeafFault claim n table leaf node at refusal
IsLineFault claim n table (CutLine cut) (node ∷ nodes) at refusal = (refusal ≡ NoSuch at) × (CutExists n table cut → ⊥)

-- what the code says of a line: nothing wrong, and which nodes wait then, or what is wrong with it
abbrev pub IsLineVerdict : Claim → Net → List (List SignedRow) → Line → List Node → List Node → ℕ → Option Refusal → Type 0
IsLineVerdict claim n table line nodes nodes' at found =
    MatchOption found (IsSoundLine claim n table line nodes × (nodes' ≡ after line nodes))
    (λ refusal. IsLineFault claim n table line nodes at refusal)

-- the first fault of lines
abbrev pub IsLinesFault : Claim → Net → List (List SignedRow) → List Line → List Node → ℕ → Refusal → Type 0
IsLinesFault claim n table [] nodes at refusal = ⊥
IsLinesFault claim n table (line ∷ lines) nodes at refusal =
    IsLineFault claim n table line nodes at refusal
    ⊎ (IsSoundLine claim n table line nodes × IsLinesFault claim n table lines (after line nodes)
    (at + 1) refusal)

-- k lines were judged, and these nodes wait: what the lines that are left say there decides of all lines at the first node
pub record AreJudged (claim : Claim) (n : Net) (table : List (List SignedRow)) (lines : List TreeLine)
    (node : Node) (first : ℕ) (nodes : List Node) (k : ℕ) : Type 0 where
  pub sound : AreSound claim n table (map line_of (drop k lines)) nodes → AreSound claim n table (map line_of lines) (node ∷ [])
  pub fault : (refusal : Refusal) → IsLinesFault claim n table (map line_of (drop k lines)) nodes
      (first + k) refusal → IsLinesFault claim n table (map line_of lines) (node ∷ []) first refusal

-- the numbers of a line are within their limits
abbrev pub KeepsLineLimits : TreeLine → Type 0
KeepsLineLimits (Slack row k) = k ≤ MOST_SLACK
KeepsLineLimits (Offset cycle k) = unsigned_abs k ≤ MOST_OFFSET
KeepsLineLimits (Bound pairs) = ArePairLimits pairs
KeepsLineLimits (Nothing pairs) = ArePairLimits pairs
KeepsLineLimits (Gap cycle) = Unit {0}
KeepsLineLimits Propagated = Unit {0}

-- the row or the cycle of a cut is one of so many
abbrev pub CutIsNamed : ℕ → ℕ → Cut → Type 0
CutIsNamed rows cycles (SlackCut row k) = Names rows row
CutIsNamed rows cycles (OffsetCut cycle k) = Names cycles cycle

-- the number of a cut is within its limit
abbrev pub IsSmallCut : Cut → Type 0
IsSmallCut (SlackCut row k) = k ≤ MOST_SLACK
IsSmallCut (OffsetCut cycle k) = unsigned_abs k ≤ MOST_OFFSET
