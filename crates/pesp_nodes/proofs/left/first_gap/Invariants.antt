use Rattle.std.proofs.Common.{◌≡◌, ℕ, ◌<◌, None}
use Rattle.pesp_problem.specs.Nodes.{offsets_left}
use Rattle.pesp_nodes.specs.Problems.{problem_net}
use Rattle.pesp_nodes.proofs.left.first_gap.Given as goal

abbrev pub invariant-loop-place : goal.invariant-loop-place
invariant-loop-place l = (c : ℕ) → c < l.place → offsets_left (problem_net l.problem) l.problem.table l.node c ≡ None → ⊥
