-- The first fault of a certificate, in the order in which faults are told.
use Rattle.std.specs.Prelude.{◌≡◌, ◌⊎◌, ℕ, ◌+◌, ◌-◌, ◌<◌, List, [], ◌∷◌, ◌++◌, length, map, ℤ, pos, ◌≤ℤ◌, ◌<ℤ◌, All, Option, Some, None, IsNone, IsSomeAnd, IfSome}
use Rattle.pesp_problem.specs.declared.row.SignedRow.{SignedRow}
use Rattle.pesp_problem.specs.declared.arc.Arc.{Arc}
use Rattle.pesp_problem.specs.Timetables.{Pesp, AreTimes, IsTimetable, cost}
use Rattle.pesp_problem.specs.Scores.{IsFirstViolated}
use Rattle.pesp_problem.specs.Arcs.{Net, arcs_of, net_of}
use Rattle.pesp_problem.specs.Walks.{Names, AreRows, IsWalk}
use Rattle.pesp_problem.specs.Nodes.{Node, cycle_at, root, offsets_left, low_part, high_part}
use Rattle.pesp_problem.specs.declared.marked.MarkedRow.{MarkedRow}
use Rattle.pesp_problem.specs.Marked.{signed_rows, IsMarkedWalk}
use Rattle.pesp_truth.specs.declared.answer.Answer.{Answer}
use Rattle.pesp_truth.specs.declared.answer.Answer.TheVariants.{Optimal, Infeasible, Bounded}
use Rattle.pesp_truth.specs.Lemmas.{Lemma, NamesRows}
use Rattle.pesp_truth.specs.Trees.{Tree, Ends, Branch, Leaf, Bound, Shut, Reason, ByPairs, ByGap, ByPropagation, Line, line_of, preorder, CutExists, Claim, goal_of, PairsExist, bound_by, lack_by, IsShut, IsSound}
use Rattle.pesp_truth.specs.Shown.{LemmaProof, lemma_lines, lemma_claim, IsShownLemma, AreShownLemmas}
use Rattle.pesp_truth.specs.Certificates.{Content, Front, front_lines, claim_of, IsValid, ShowsAnswer, shown_labels, shown_times, least_of, cost_of, lines_of}
use Rattle.pesp_judges.specs.declared.refusal.Refusal.{Refusal}
use Rattle.pesp_judges.specs.declared.refusal.Refusal.TheVariants.{OtherPeriod, Times, Violates, WrongCost, OpenWalk, NoSuch, LeafBelow, NotEmpty, NotAGap, BoundInInfeasible, AnswerShape, NotPropagated}
use Rattle.pesp_judges.specs.declared.refusal.Verdict.{Verdict}
use Rattle.pesp_judges.specs.declared.refusal.Verdict.TheVariants.{Accepted, Refused}

-- ---- the answer

-- no times without a cost, and a least cost below the cost
abbrev pub HasShape : Answer → List ℕ → Type 0
HasShape (Optimal c) times = Unit {0}
HasShape Infeasible times = times ≡ []
HasShape (Bounded least (Some c)) times = least < c
HasShape (Bounded least None) times = times ≡ []

-- the labels are those of the events in order, and the times are times
abbrev pub AreShown : Pesp → List ℤ → List ℕ → Type 0
AreShown p labels times = (labels ≡ p.events) × AreTimes p times

-- the first thing that is wrong with times that should be a timetable of this cost
abbrev pub IsTimesFault : Pesp → ℕ → List ℤ → List ℕ → Refusal → Type 0
IsTimesFault p c labels times refusal =
    ((refusal ≡ Times) × (AreShown p labels times → ⊥))
    ⊎ ((row : ℕ) × (refusal ≡ Violates row) × AreShown p labels times × IsFirstViolated p times row)
    ⊎ ((refusal ≡ WrongCost) × AreShown p labels times × IsTimetable p times × (cost p.period p.rows times ≡ c → ⊥))

-- the first thing that is wrong with an answer and what is shown with it
abbrev pub IsAnswerFault : Pesp → Answer → List ℤ → List ℕ → Refusal → Type 0
IsAnswerFault p answer labels times refusal =
    ((refusal ≡ AnswerShape) × (HasShape answer times → ⊥))
    ⊎ (HasShape answer times × ((c : ℕ) × (cost_of answer ≡ Some c) × IsTimesFault p c labels times refusal))

-- ---- the cycles

-- the cycle with this number is the first that is no walk
pub record IsFirstOpen (arcs : List Arc) (cycles : List (List SignedRow)) (number : ℕ) : Type 0 where
  pub exists : Names (length cycles) number
  pub before : (c : ℕ) → c < number - 1 → IsWalk arcs (cycle_at cycles c)
  pub open_ends : IsWalk arcs (cycle_at cycles (number - 1)) → ⊥

-- what is wrong with a cycle that has this number and stands in this line
abbrev pub IsWalkFault : List Arc → List SignedRow → ℕ → ℕ → Refusal → Type 0
IsWalkFault arcs walk number line refusal = (IsWalk arcs walk → ⊥)
    × (((refusal ≡ NoSuch line) × (AreRows arcs walk → ⊥)) ⊎ ((refusal ≡ OpenWalk number) × AreRows arcs walk))

-- the first cycle that is no walk: a row of it doesn't exist, or its ends don't meet. Cycle 1 stands in the line after `line`
abbrev pub IsCycleFault : List Arc → List (List SignedRow) → ℕ → Refusal → Type 0
IsCycleFault arcs cycles line refusal =
    (number : ℕ) × IsFirstOpen arcs cycles number
    × (((refusal ≡ NoSuch (line + number)) × (AreRows arcs (cycle_at cycles (number - 1)) → ⊥))
    ⊎ ((refusal ≡ OpenWalk number) × AreRows arcs (cycle_at cycles (number - 1))))

-- ---- the tree

-- what is wrong with a reason at a node; its leaf stands in this line
abbrev pub IsReasonFault : Claim → Net → List (List SignedRow) → Reason → Node → ℕ → Refusal → Type 0
IsReasonFault claim n table (ByPairs pairs) node line refusal =
    ((refusal ≡ NoSuch line) × (PairsExist claim table pairs → ⊥))
    ⊎ ((refusal ≡ NotEmpty line) × PairsExist claim table pairs
    × (IsSomeAnd (lack_by claim n table node pairs) (λ v. pos 0 <ℤ v) → ⊥))
IsReasonFault claim n table (ByGap cycle) node line refusal =
    ((refusal ≡ NoSuch line) × (Names (length table) cycle → ⊥))
    ⊎ ((refusal ≡ NotAGap line) × Names (length table) cycle
    × (IsNone (offsets_left n table node (cycle - 1)) → ⊥))
IsReasonFault claim n table ByPropagation node line refusal = (refusal ≡ NotPropagated line) × (IsShut claim n table ByPropagation node → ⊥)

-- what is wrong with a leaf at a node; the leaf stands in this line
abbrev pub IsLeafFault : Claim → Net → List (List SignedRow) → Leaf → Node → ℕ → Refusal → Type 0
IsLeafFault claim n table (Bound pairs) node line refusal =
    ((refusal ≡ NoSuch line) × (PairsExist claim table pairs → ⊥))
    ⊎ ((refusal ≡ BoundInInfeasible line) × PairsExist claim table pairs × ((goal_of n claim).least ≡ None))
    ⊎ ((refusal ≡ LeafBelow line) × PairsExist claim table pairs
    × ((c : ℤ) × ((goal_of n claim).least ≡ Some c) × (IsSomeAnd (bound_by claim n table node pairs) (λ v. c ≤ℤ v) → ⊥)))
IsLeafFault claim n table (Shut reason) node line refusal = IsReasonFault claim n table reason node line refusal

-- the first fault of a tree at a node, in preorder; the tree's lines begin with this line
abbrev pub IsTreeFault : Claim → Net → List (List SignedRow) → Tree → Node → ℕ → Refusal → Type 0
IsTreeFault claim n table (Ends leaf) node line refusal = IsLeafFault claim n table leaf node line refusal
IsTreeFault claim n table (Branch cut low high) node line refusal =
    ((refusal ≡ NoSuch line) × (CutExists n table cut → ⊥))
    ⊎ (CutExists n table cut × IsTreeFault claim n table low (low_part node cut) (line + 1) refusal)
    ⊎ (CutExists n table cut × IsSound claim n table low (low_part node cut)
    × IsTreeFault claim n table high (high_part node cut) (line + 1 + length (preorder low)) refusal)

-- the same of the tree that lines are, at the root
abbrev pub IsLinesTreeFault : Claim → Net → List (List SignedRow) → List Line → ℕ → Refusal → Type 0
IsLinesTreeFault claim n table lines line refusal = (tree : Tree) × (preorder tree ≡ lines)
    × IsTreeFault claim n table tree (root n table) line refusal

-- ---- the marked walks of a front

-- the first marked walk that isn't closed: a row of it doesn't exist, or its ends don't meet. Walk 1 stands in the line after
-- `line`, and its number is the one after the last cycle's
abbrev pub IsMarkFault : List Arc → ℕ → ℕ → List (List MarkedRow) → Refusal → Type 0
IsMarkFault arcs cycles line walks refusal =
    (number : ℕ) × IsFirstOpen arcs (map signed_rows walks) number
    × (((refusal ≡ NoSuch (line + number)) × (AreRows arcs (cycle_at (map signed_rows walks) (number - 1)) → ⊥))
    ⊎ ((refusal ≡ OpenWalk (cycles + number)) × AreRows arcs (cycle_at (map signed_rows walks) (number - 1))))

-- ---- the lemmas of a front

-- what is wrong with a lemma whose rows stand in the line `at`: a row doesn't exist, then its cycles, its marked walks, its tree
abbrev pub IsLemmaFault : Net → List Lemma → LemmaProof → ℕ → Refusal → Type 0
IsLemmaFault n earlier s at refusal =
    ((refusal ≡ NoSuch at) × (NamesRows n.arcs s.fact.weights → ⊥))
    ⊎ (NamesRows n.arcs s.fact.weights × IsCycleFault n.arcs s.cycles (at + 2 + length s.marks.walks) refusal)
    ⊎ (NamesRows n.arcs s.fact.weights × All (IsWalk n.arcs) s.cycles
    × IsMarkFault n.arcs (length s.cycles) (at + 2) s.marks.walks refusal)
    ⊎ (NamesRows n.arcs s.fact.weights × All (IsWalk n.arcs) s.cycles × All (IsMarkedWalk n.arcs) s.marks.walks
    × IsLinesTreeFault (lemma_claim earlier s) n s.cycles (map line_of s.tree)
    (at + 3 + length s.marks.walks + length s.cycles) refusal)

-- the first fault of lemmas, of which the first begins in the line `at`
abbrev pub IsLemmasFault : Net → List Lemma → List LemmaProof → ℕ → Refusal → Type 0
IsLemmasFault n earlier [] at refusal = ⊥
IsLemmasFault n earlier (s ∷ shown) at refusal = IsLemmaFault n earlier s at refusal
    ⊎ (IsShownLemma n earlier s × IsLemmasFault n (earlier ++ s.fact ∷ []) shown (at + lemma_lines s) refusal)

-- ---- the certificate

-- the number in the whole text of a line of the certificate's own: behind a front, where there is one
abbrev pub own_line : Option Front → ℕ → ℕ
own_line None line = line
own_line (Some f) line = front_lines f + line

-- the first fault of the lemmas of a front, where there is one
abbrev pub IsFrontFault : Option Front → Pesp → Refusal → Type 0
IsFrontFault front p refusal = IsSomeAnd front (λ f. IsLemmasFault (net_of p) [] f.lemmas (3 + length f.marks.walks) refusal)

-- the first marked walk of a front that isn't closed, where there is a front: its first walk stands in line 3
abbrev pub IsMarksFault : Option Front → Pesp → ℕ → Refusal → Type 0
IsMarksFault front p cycles refusal = IsSomeAnd front (λ f. IsMarkFault (arcs_of p) cycles 2 f.marks.walks refusal)

-- the answer, then the cycles, then the marked walks, then the tree, of a certificate with the instance's period
abbrev pub IsLaterFault : Option Front → Pesp → Content → Refusal → Type 0
IsLaterFault front p content refusal =
    IsAnswerFault p content.answer (shown_labels content) (shown_times content) refusal
    ⊎ (ShowsAnswer p content.answer (shown_labels content) (shown_times content)
    × IsCycleFault (arcs_of p) content.cycles (own_line front (3 + length content.times)) refusal)
    ⊎ (ShowsAnswer p content.answer (shown_labels content) (shown_times content) × All (IsWalk (arcs_of p)) content.cycles
    × IsMarksFault front p (length content.cycles) refusal)
    ⊎ (ShowsAnswer p content.answer (shown_labels content) (shown_times content) × All (IsWalk (arcs_of p)) content.cycles
    × IfSome front (λ f. All (IsMarkedWalk (arcs_of p)) f.marks.walks)
    × IsLinesTreeFault (claim_of front (net_of p) (least_of content.answer)) (net_of p) content.cycles (lines_of content)
    (own_line front (4 + length content.times + length content.cycles)) refusal)

-- the first thing that is wrong with a certificate: the lemmas of its front come first
abbrev pub IsFirstFault : Option Front → Pesp → Content → Refusal → Type 0
IsFirstFault front p content refusal = IsFrontFault front p refusal
    ⊎ (IfSome front (λ f. AreShownLemmas (net_of p) [] f.lemmas) × (((refusal ≡ OtherPeriod) × (content.period ≡ p.period → ⊥))
    ⊎ ((content.period ≡ p.period) × IsLaterFault front p content refusal)))

-- what a verdict says: accepted are the valid certificates, and a refusal is the first fault
abbrev pub IsVerdict : Option Front → Pesp → Content → Verdict → Type 0
IsVerdict front p content Accepted = IsValid front p content
IsVerdict front p content (Refused refusal) = IsFirstFault front p content refusal
