-- The contents of certificates, and when they are valid for an instance.
use Rattle.std.specs.Prelude.{◌≡◌, ℕ, ◌+◌, ◌<◌, List, [], length, map, ℤ, All, Option, Some, None, IfSome}
use Rattle.std.specs.List.{sum_by}
use Rattle.pesp_problem.specs.declared.row.SignedRow.{SignedRow}
use Rattle.pesp_problem.specs.Timetables.{Pesp, IsTimetableOfCost}
use Rattle.pesp_problem.specs.Arcs.{Net, arcs_of, net_of}
use Rattle.pesp_problem.specs.Walks.{IsWalk}
use Rattle.pesp_problem.specs.Nodes.{root}
use Rattle.pesp_truth.specs.declared.answer.Answer.{Answer}
use Rattle.pesp_truth.specs.declared.answer.Answer.TheVariants.{Optimal, Infeasible, Bounded}
use Rattle.pesp_truth.specs.declared.tree.TreeLine.{TreeLine}
use Rattle.pesp_truth.specs.Marks.{Marks, AreMarks}
use Rattle.pesp_truth.specs.Trees.{Tree, Line, Claim, Plain, Behind, cost_goal, line_of, preorder, IsSound}
use Rattle.pesp_truth.specs.Shown.{LemmaProof, AreShownLemmas, lemmas_of, lemma_lines}

-- what a certificate says: the version of its text, its period, its answer, times with the labels of their events, a
-- table of cycles, a tree's lines
pub record Content : Type 0 where
  pub version : ℕ
  pub period : ℕ
  pub answer : Answer
  pub times : List (ℤ × ℕ)
  pub cycles : List (List SignedRow)
  pub tree : List TreeLine

-- the lines of a certificate's tree, in order
abbrev pub lines_of : Content → List Line
lines_of content = map line_of content.tree

-- the times that a certificate shows, in its order
abbrev pub shown_times : Content → List ℕ
shown_times content = map (λ t. t.1) content.times

-- the labels of the events to which it gives them
abbrev pub shown_labels : Content → List ℤ
shown_labels content = map (λ t. t.0) content.times

-- the least cost for which the tree has to be sound
abbrev pub least_of : Answer → Option ℕ
least_of (Optimal c) = Some c
least_of Infeasible = None
least_of (Bounded least cost) = Some least

-- the cost of the shown times, where the answer has one
abbrev pub cost_of : Answer → Option ℕ
cost_of (Optimal c) = Some c
cost_of Infeasible = None
cost_of (Bounded least cost) = cost

-- the labels are those of the events in order, and the times are a timetable of this cost
abbrev pub ShowsTimetable : Pesp → List ℤ → List ℕ → ℕ → Type 0
ShowsTimetable p labels times c = (labels ≡ p.events) × IsTimetableOfCost p times c

-- what an answer has to show: a timetable of its cost, or no times where it has no cost
abbrev pub ShowsAnswer : Pesp → Answer → List ℤ → List ℕ → Type 0
ShowsAnswer p (Optimal c) labels times = ShowsTimetable p labels times c
ShowsAnswer p Infeasible labels times = times ≡ []
ShowsAnswer p (Bounded least (Some c)) labels times = (least < c) × ShowsTimetable p labels times c
ShowsAnswer p (Bounded least None) labels times = times ≡ []

-- a scale and marked walks, and lemmas with what shows each of them
pub record Front : Type 0 where
  pub marks : Marks
  pub lemmas : List LemmaProof

-- how many lines a front has: the header, the scale, one for each marked walk, and those of the lemmas
abbrev pub front_lines : Front → ℕ
front_lines f = (2 + length f.marks.walks) + sum_by lemma_lines f.lemmas

-- its lemmas are shown one after the other, and its marked walks are closed
pub record IsShownFront (n : Net) (f : Front) : Type 0 where
  pub lemmas : AreShownLemmas n [] f.lemmas
  pub marks : AreMarks n.arcs f.marks

-- what the tree of a certificate is to show, for a least cost
abbrev pub claim_of : Option Front → Net → Option ℕ → Claim
claim_of None n least = Plain least
claim_of (Some f) n least = Behind f.marks (lemmas_of f.lemmas) (cost_goal n least)

-- the front is shown, the period is the instance's, the answer shows what it has to, the cycles are walks, and the lines are a
-- tree that is sound at the root
pub record IsValid (front : Option Front) (p : Pesp) (content : Content) : Type 0 where
  pub shown : IfSome front (IsShownFront (net_of p))
  pub period : content.period ≡ p.period
  pub answer : ShowsAnswer p content.answer (shown_labels content) (shown_times content)
  pub cycles : All (IsWalk (arcs_of p)) content.cycles
  pub tree : (tree : Tree) × (preorder tree ≡ lines_of content)
      × IsSound (claim_of front (net_of p) (least_of content.answer)) (net_of p) content.cycles tree (root (net_of p) content.cycles)
