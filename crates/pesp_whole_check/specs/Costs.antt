-- What the lines of a valid certificate's tree show, each at the first of the nodes that wait.
use Rattle.std.specs.Prelude.{ℕ, List, [], ◌∷◌, ℤ, pos, negsuc, min, Option, Some, None, option_map}
use Rattle.pesp_problem.specs.declared.row.SignedRow.{SignedRow}
use Rattle.pesp_problem.specs.Timetables.{Pesp}
use Rattle.pesp_problem.specs.Arcs.{Net, net_of}
use Rattle.pesp_problem.specs.Nodes.{Node, root}
use Rattle.pesp_truth.specs.Lemmas.{Lemma}
use Rattle.pesp_truth.specs.Shown.{lemmas_of}
use Rattle.pesp_truth.specs.Trees.{Leaf, Bound, Shut, Line, EndLine, CutLine, Claim, bound_by}
use Rattle.pesp_truth.specs.Certificates.{Front, claim_of, least_of, lines_of}
use Rattle.pesp_leaves.specs.declared.checker.Claim.{Claim as ToldClaim}
use Rattle.pesp_leaves.specs.Claims.{NamesTold}
use Rattle.pesp_judges.specs.Lines.{after, CutIsNamed}
use Rattle.pesp_cert.specs.Fronted.{Fronted}

-- a cost as it is told: 0 where it is below that, and at most 999999999999999999
abbrev pub told : ℤ → ℕ
told (pos n) = min n 999999999999999999
told (negsuc n) = 0

-- what a leaf shows at a node: a bound leaf what its pairs bound, in whole costs; none every other leaf
abbrev pub shown_at : Claim → Net → List (List SignedRow) → Leaf → Node → Option ℕ
shown_at claim n table (Bound pairs) node = option_map told (bound_by claim n table node pairs)
shown_at claim n table (Shut reason) node = None

-- a branch shows nothing
abbrev pub line_shows : Claim → Net → List (List SignedRow) → Line → Node → Option ℕ
line_shows claim n table (EndLine leaf) node = shown_at claim n table leaf node
line_shows claim n table (CutLine cut) node = None

-- what lines show
abbrev pub shown_in : Claim → Net → List (List SignedRow) → List Line → List Node → List (Option ℕ)
shown_in claim n table [] nodes = []
shown_in claim n table (line ∷ lines) [] = []
shown_in claim n table (line ∷ lines) (node ∷ nodes) =
    line_shows claim n table line node ∷ shown_in claim n table lines (after line (node ∷ nodes))

-- what the lines of a certificate show
abbrev pub shown_of : Pesp → Fronted → List (Option ℕ)
shown_of p c = shown_in (claim_of c.front (net_of p) (least_of c.content.answer)) (net_of p) c.content.cycles (lines_of c.content)
    (root (net_of p) c.content.cycles ∷ [])

-- the lemmas of a front, none where there is none
abbrev pub facts_said : Option Front → List Lemma
facts_said None = []
facts_said (Some f) = lemmas_of f.lemmas

-- ---- what lines name

-- the pairs of a bound leaf name what is told
abbrev pub LeafIsNamed : ToldClaim → ℕ → Leaf → Type 0
LeafIsNamed told cycles (Bound pairs) = NamesTold told cycles pairs
LeafIsNamed told cycles (Shut reason) = Unit {0}

-- so do those of a line, and what a branch cuts is there
abbrev pub LineIsNamed : ToldClaim → ℕ → ℕ → Line → Type 0
LineIsNamed told rows cycles (EndLine leaf) = LeafIsNamed told cycles leaf
LineIsNamed told rows cycles (CutLine cut) = CutIsNamed rows cycles cut
