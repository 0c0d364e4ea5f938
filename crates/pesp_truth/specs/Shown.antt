-- Lemmas that are shown one after the other, each by cycles, marked walks and a tree of its own; the tree may name those before it.
use Rattle.std.specs.Prelude.{◌≡◌, ℕ, ◌+◌, List, [], ◌∷◌, ◌++◌, length, map, All}
use Rattle.pesp_problem.specs.declared.row.SignedRow.{SignedRow}
use Rattle.pesp_problem.specs.Arcs.{Net}
use Rattle.pesp_problem.specs.Walks.{IsWalk}
use Rattle.pesp_problem.specs.Nodes.{root}
use Rattle.pesp_truth.specs.declared.tree.TreeLine.{TreeLine}
use Rattle.pesp_truth.specs.Marks.{Marks, AreMarks}
use Rattle.pesp_truth.specs.Trees.{Tree, Claim, Behind, lemma_goal, line_of, preorder, IsSound}
use Rattle.pesp_truth.specs.Lemmas.{Lemma, NamesRows}

-- a lemma with what shows it
pub record LemmaProof : Type 0 where
  pub fact : Lemma
  pub marks : Marks
  pub cycles : List (List SignedRow)
  pub tree : List TreeLine

-- how many lines say and show a lemma: its rows, its least sum, the scale, its marked walks, its cycles, its tree
abbrev pub lemma_lines : LemmaProof → ℕ
lemma_lines s = 3 + length s.marks.walks + length s.cycles + length s.tree

-- what the tree of a lemma is to show, naming those before it
abbrev pub lemma_claim : List Lemma → LemmaProof → Claim
lemma_claim earlier s = Behind s.marks earlier (lemma_goal s.fact)

-- its rows exist, the walks are closed, and the lines are a tree that is sound at the root for the lemma's sum
pub record IsShownLemma (n : Net) (earlier : List Lemma) (s : LemmaProof) : Type 0 where
  pub rows : NamesRows n.arcs s.fact.weights
  pub marks : AreMarks n.arcs s.marks
  pub cycles : All (IsWalk n.arcs) s.cycles
  pub tree : (tree : Tree) × (preorder tree ≡ map line_of s.tree)
      × IsSound (lemma_claim earlier s) n s.cycles tree (root n s.cycles)

-- each lemma is shown from these and those before it
abbrev pub AreShownLemmas : Net → List Lemma → List LemmaProof → Type 0
AreShownLemmas n earlier [] = Unit {0}
AreShownLemmas n earlier (s ∷ shown) = IsShownLemma n earlier s × AreShownLemmas n (earlier ++ s.fact ∷ []) shown

-- the lemmas without what shows them
abbrev pub lemmas_of : List LemmaProof → List Lemma
lemmas_of shown = map (λ s. s.fact) shown
