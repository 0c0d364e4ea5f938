-- What the leaves of a certificate's tree ask for behind a front.
use Rattle.std.specs.Prelude.{◌≡◌, ℕ, ◌<◌, List, length, ℤ, pos, All, Option, Some, None}
use Rattle.pesp_problem.specs.declared.arc.Arc.{Arc}
use Rattle.pesp_problem.specs.Timetables.{Pesp}
use Rattle.pesp_problem.specs.Arcs.{Net, arc_at, arcs_of}
use Rattle.pesp_problem.specs.Walks.{RowExists}
use Rattle.pesp_problem.specs.Terms.{number_at}
use Rattle.pesp_truth.specs.Marks.{Marks}
use Rattle.pesp_truth.specs.Lemmas.{Lemma}
use Rattle.pesp_truth.specs.Trees.{Claim, Plain, Behind, cost_goal}
use Rattle.pesp_leaves.specs.Taken.{AreSmallWeights}
use Rattle.pesp_whole_check.specs.declared.room.Room.{Room}

-- a weight for each row, its own
pub record AreOwnWeights (p : Pesp) (weights : List ℤ) : Type 0 where
  pub long : length weights ≡ length p.rows
  pub own : (i : ℕ) → i < length weights → number_at weights i ≡ pos (arc_at (arcs_of p) i).weight

-- the arcs are the instance's, the rows of the marked walks exist, and the weights are the rows' own and small
pub record FitsWalks (p : Pesp) (marks : Marks) (arcs : List Arc) (weights : List ℤ) : Type 0 where
  pub arcs_are : arcs ≡ arcs_of p
  pub exist : All (λ walk. All (λ s. RowExists arcs s.signed) walk) marks.walks
  pub own : AreOwnWeights p weights
  pub small : AreSmallWeights weights

-- what the tree of a certificate is to show, by the marks and the lemmas of its front
abbrev pub claim_from : Option Marks → List Lemma → Net → Option ℕ → Claim
claim_from None facts n least = Plain least
claim_from (Some marks) facts n least = Behind marks facts (cost_goal n least)

-- the arcs and the weights are the instance's, and there are rates for each row
pub record FitsRoom (p : Pesp) (room : Room) : Type 0 where
  pub arcs : room.arcs.items ≡ arcs_of p
  pub weights : AreOwnWeights p room.weights.items
  pub small : AreSmallWeights room.weights.items
  pub rates : length room.rates.items ≡ length p.rows
