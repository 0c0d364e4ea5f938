use Rattle.std.proofs.Common.{◌≡◌, ℕ, ◌-◌, ◌<◌, get_or}
use Rattle.std.specs.Prelude.{None}
use Rattle.pesp_problem.specs.declared.pair.Pair.{Pair}
use Rattle.pesp_problem.specs.Nodes.{offsets_left}
use Rattle.pesp_nodes.specs.Problems.{problem_net}
use Rattle.pesp_board.proofs.made_parts.first_gap.Given as goal

abbrev pub invariant-loop-pair : goal.invariant-loop-pair
invariant-loop-pair l = (j : ℕ) (d : Pair) → j < l.pair-index
    → offsets_left (problem_net l.problem) l.problem.table l.node ((get_or l.pairs j d).cycle - 1) ≡ None → ⊥
