-- Pairs that have no value at a node have a cycle with no offset left there.
use Rattle.std.proofs.Common.{◌≡◌, ℕ, ◌-◌, ◌<◌, List, length, get_or, sym, subst, true}
use Rattle.std.specs.Prelude.{None}
use Rattle.pesp_problem.specs.declared.pair.Pair.{Pair}
use Rattle.pesp_problem.specs.Nodes.{Node, leaf_value, offset_part, offsets_left}
use Rattle.pesp_nodes.specs.Problems.{ProblemValue, problem_net}
use Rattle.pesp_tree.proofs.Making.{gap_of, no_part}

pub some_gap : (p : ProblemValue) (node : Node) (pairs : List Pair) → leaf_value (problem_net p) p.table node pairs true ≡ None
    → ((j : ℕ) (d : Pair) → j < length pairs → offsets_left (problem_net p) p.table node ((get_or pairs j d).cycle - 1) ≡ None → ⊥) → ⊥
some_gap p node pairs e h =
    let gap = gap_of (problem_net p) p.table node pairs (no_part _ (offset_part (problem_net p) p.table node pairs) e) in
    h gap.1.0 gap.0 gap.1.1 (subst (λ (pair : Pair). offsets_left (problem_net p) p.table node (pair.cycle - 1) ≡ None) (sym gap.1.2) gap.2)
