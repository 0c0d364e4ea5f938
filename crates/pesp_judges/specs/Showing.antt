-- What the lines of a lemma that came say of it, while others are still to come.
use Rattle.std.specs.Prelude.{◌≡◌, ◌⊎◌, ℕ, ◌+◌, ◌<◌, ◌≤◌, true, List, [], length, map, take, drop, ℤ, pos, Option, Some, None, All, MatchOption}
use Rattle.pesp_problem.specs.declared.limits.TheConstants.{MOST_CYCLES}
use Rattle.pesp_problem.specs.declared.pair.Pair.{Pair}
use Rattle.pesp_problem.specs.Timetables.{Pesp}
use Rattle.pesp_problem.specs.Arcs.{arcs_of, net_of}
use Rattle.pesp_problem.specs.Walks.{IsWalk}
use Rattle.pesp_problem.specs.Nodes.{root, cycle_at}
use Rattle.pesp_problem.specs.declared.marked.MarkedRow.{MarkedRow}
use Rattle.pesp_problem.specs.declared.nets.NetCount.{NetCount}
use Rattle.pesp_problem.specs.Nets.{AreNets}
use Rattle.pesp_truth.specs.Marks.{Marks, AreMarks}
use Rattle.pesp_truth.specs.FrontLimits.{marks_keep_limits as marks_keep_limits}
use Rattle.pesp_truth.specs.Trees.{are_trees, line_of}
use Rattle.pesp_judges.specs.Pending.{Standing}
use Rattle.pesp_truth.specs.Lemmas.{Lemma, NamesRows}
use Rattle.pesp_truth.specs.Shown.{lemma_claim, LemmaProof}
use Rattle.pesp_judges.specs.declared.refusal.Refusal.{Refusal}
use Rattle.pesp_judges.specs.Lines.{AreJudged}
use Rattle.pesp_judges.specs.Faults.{IsLemmaFault}
use Rattle.pesp_judges.specs.declared.lemma_judge.LemmaJudge.{LemmaJudge}

-- what is kept: the line of the rows, the rows with their weights, the least sum, the scale, the marked walks, the cycles' net
-- counts; for the tree the marks, and the nodes that wait
pub record KeptLemma : Type 0 where
  pub line : ℕ
  pub weights : List Pair
  pub least : ℤ
  pub scale : ℕ
  pub walks : List (List MarkedRow)
  pub table : List (List NetCount)
  pub front : Option Marks
  pub walk : Option Standing

-- what the judge of a lemma keeps of the lines that came
abbrev pub kept_of_lemma : LemmaJudge → KeptLemma
kept_of_lemma j = record { line = j.line; weights = j.fact.weights; least = j.least; scale = j.scale; walks = j.walks.items; table = j.table.items; front = j.front; walk = j.walk }

-- the rows of a lemma came, in the line `at`, and nothing else
abbrev pub rows_kept : ℕ → List Pair → KeptLemma
rows_kept at weights = record { line = at; weights = weights; least = pos 0; scale = 0; walks = []; table = []; front = None; walk = None }

-- what the limits of a text say of what shows a lemma
pub record KeepsLemmaLimits (s : LemmaProof) : Type 0 where
  pub marks : marks_keep_limits s.marks ≡ true
  pub cycles : length s.cycles ≤ MOST_CYCLES
  pub whole : are_trees 1 (map line_of s.tree) ≡ true

-- the rows exist; they came, the least sum behind them, and the scale with k of the marked walks behind it
pub record HeadShown (p : Pesp) (s : LemmaProof) (at : ℕ) (kept_of_lemma : KeptLemma) (k : ℕ) : Type 0 where
  pub line : kept_of_lemma.line ≡ at
  pub weights : kept_of_lemma.weights ≡ s.fact.weights
  pub rows : NamesRows (arcs_of p) s.fact.weights
  pub walks : kept_of_lemma.walks ≡ take k s.marks.walks
  pub none : kept_of_lemma.table ≡ []
  pub before : kept_of_lemma.walk ≡ None

-- the rows exist; they, the least sum, the scale and the marked walks came, and k of the cycles, which are walks
pub record CyclesShown (p : Pesp) (s : LemmaProof) (at : ℕ) (kept_of_lemma : KeptLemma) (k : ℕ) : Type 0 where
  pub line : kept_of_lemma.line ≡ at
  pub weights : kept_of_lemma.weights ≡ s.fact.weights
  pub least : kept_of_lemma.least ≡ s.fact.least
  pub scale : kept_of_lemma.scale ≡ s.marks.scale
  pub walks : kept_of_lemma.walks ≡ s.marks.walks
  pub rows : NamesRows (arcs_of p) s.fact.weights
  pub within : k ≤ length s.cycles
  pub nets : AreNets (length p.rows) (take k s.cycles) kept_of_lemma.table
  pub closed : (i : ℕ) → i < k → IsWalk (arcs_of p) (cycle_at s.cycles i)
  pub before : kept_of_lemma.walk ≡ None

-- the first line of the tree of a lemma whose rows stand in the line `at`
abbrev pub first_line : LemmaProof → ℕ → ℕ
first_line s at = at + 3 + length s.marks.walks + length s.cycles

-- the cycles are walks, the marked walks are closed, k lines of the tree came, and each is sound at its node
pub record LinesShown (p : Pesp) (earlier : List Lemma) (s : LemmaProof) (at : ℕ) (kept_of_lemma : KeptLemma) (k : ℕ) (standing : Standing) : Type 0 where
  pub weights : kept_of_lemma.weights ≡ s.fact.weights
  pub least : kept_of_lemma.least ≡ s.fact.least
  pub rows : NamesRows (arcs_of p) s.fact.weights
  pub cycles : All (IsWalk (arcs_of p)) s.cycles
  pub marks : AreMarks (arcs_of p) s.marks
  pub front : kept_of_lemma.front ≡ Some s.marks
  pub nets : AreNets (length p.rows) s.cycles kept_of_lemma.table
  pub walk : kept_of_lemma.walk ≡ Some standing
  pub whole : are_trees (length standing.nodes) (map line_of (drop k s.tree)) ≡ true
  pub judged : AreJudged (lemma_claim earlier s) (net_of p) s.cycles s.tree (root (net_of p) s.cycles)
      (first_line s at) standing.nodes k

-- all cycles came, or k lines of the tree
abbrev pub ShownTo : Pesp → List Lemma → LemmaProof → ℕ → KeptLemma → ℕ → Type 0
ShownTo p earlier s at kept_of_lemma k = ((k ≡ 0) × CyclesShown p s at kept_of_lemma (length s.cycles))
    ⊎ ((standing : Standing) × LinesShown p earlier s at kept_of_lemma k standing)

-- what the judge says: k lines of the tree came, and each is sound at its node, or what is wrong with the lemma
abbrev pub LemmaIsTold : Pesp → List Lemma → LemmaProof → ℕ → KeptLemma → ℕ → Option Refusal → Type 0
LemmaIsTold p earlier s at kept_of_lemma k found = MatchOption found ((standing : Standing) × LinesShown p earlier s at kept_of_lemma k standing)
    (λ refusal. IsLemmaFault (net_of p) earlier s at refusal)
