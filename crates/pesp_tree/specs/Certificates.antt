-- What a board certifies.
use Rattle.std.specs.Prelude.{◌≡◌, ℕ, List, [], length, ℤ, Option, Some, None, nat_le, Bool, true, false, if◌then◌else◌}
use Rattle.std.specs.List.{list_any}
use Rattle.pesp_problem.specs.Timetables.{Pesp}
use Rattle.pesp_problem.specs.Arcs.{arcs_of}
use Rattle.pesp_network.specs.Networks.{arcs_of_network}
use Rattle.pesp_truth.specs.declared.answer.Answer.{Answer}
use Rattle.pesp_truth.specs.declared.answer.Answer.TheVariants.{Optimal, Infeasible, Bounded}
use Rattle.pesp_truth.specs.Trees.{Line, EndLine, CutLine, Bound, Shut, Reason, ByPairs, ByGap, ByPropagation, preorder}
use Rattle.pesp_truth.specs.Certificates.{Content, lines_of, shown_times, shown_labels}
use Rattle.pesp_nodes.specs.Problems.{ProblemValue}
use Rattle.pesp_tree.specs.States.{State, least, best_cost}

-- the problem's network is the instance's: its period, as many events, and the arcs of its rows in order
pub record IsProblemOf (instance : Pesp) (p : ProblemValue) : Type 0 where
  pub period : p.network.period ≡ instance.period
  pub events : p.network.events ≡ length instance.events
  pub rows : arcs_of_network p.network.rows ≡ arcs_of instance

-- optimal where the least value is at least the best cost, infeasible where there is no least value, else open
abbrev pub answer_of : Option ℕ → Option ℕ → Answer
answer_of None cost = Infeasible
answer_of (Some l) None = Bounded l None
answer_of (Some l) (Some c) = if nat_le c l then Optimal c else Bounded l (Some c)

-- the best times with the labels of their events, none where there are none
abbrev pub ShowsBest : List ℤ → Option (List ℕ) → List ℤ → List ℕ → Type 0
ShowsBest events None labels times = times ≡ []
ShowsBest events (Some best) labels times = (labels ≡ events) × (times ≡ best)

-- the reason is propagation
abbrev pub is_propagation : Reason → Bool
is_propagation (ByPairs pairs) = false
is_propagation (ByGap cycle) = false
is_propagation ByPropagation = true

-- the line is that of a leaf that propagation shuts
abbrev pub is_propagated : Line → Bool
is_propagated (EndLine (Bound pairs)) = false
is_propagated (EndLine (Shut reason)) = is_propagation reason
is_propagated (CutLine cut) = false

-- the version of a text of these lines: 2 where propagation shuts a leaf, else 1
abbrev pub version_of : List Line → ℕ
version_of lines = if list_any is_propagated lines then 2 else 1

-- version 2 exactly where propagation shuts a leaf of the tree, the network's period, the answer of the least value and the
-- best cost, the best times, the table in order, and the tree with its pairs
pub record IsCertificateOf (p : ProblemValue) (events : List ℤ) (state : State) (content : Content) : Type 0 where
  pub version : content.version ≡ version_of (preorder state.tree)
  pub period : content.period ≡ p.network.period
  pub answer : content.answer ≡ answer_of (least p state) (best_cost p state)
  pub times : ShowsBest events state.best (shown_labels content) (shown_times content)
  pub cycles : content.cycles ≡ p.table
  pub tree : lines_of content ≡ preorder state.tree
