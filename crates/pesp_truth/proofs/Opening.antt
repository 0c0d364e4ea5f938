-- A bound leaf without pairs is sound for the least cost 0 at every node.
use Rattle.std.proofs.Common.{ℕ, List, [], length, refl, arith, true}
use Rattle.std.specs.Prelude.{pos, ◌-ℤ◌, ◌*ℤ◌, ◌≤ℤ◌, Some}
use Rattle.std.proofs.lemmas.Int.{ints}
use Rattle.std.proofs.lemmas.List.Elements.{All-nil}
use Rattle.pesp_problem.specs.declared.pair.Pair.{Pair}
use Rattle.pesp_problem.specs.declared.row.SignedRow.{SignedRow}
use Rattle.pesp_problem.specs.Arcs.{Net, arc_at}
use Rattle.pesp_problem.specs.Walks.{Names}
use Rattle.pesp_problem.specs.Nodes.{Node, slack_part}
use Rattle.pesp_problem.proofs.Integers.{mul-le, le-min, sum_below-le, sum_below-zero, zero-mul}
use Rattle.pesp_truth.specs.Trees.{Plain, Ends, Bound, IsSound}

-- a natural times a natural is none below 0
times_natural : (w y : ℕ) → pos 0 ≤ℤ ((pos w -ℤ pos 0) *ℤ pos y)
times_natural w y = omega (arith, ints, mul-le w (pos 0) (pos y) (omega (arith, ints)))

pub no_pairs : (n : Net) (table : List (List SignedRow)) (node : Node) → IsSound (Plain (Some 0)) n table (Ends (Bound [])) node
no_pairs n table node =
    let count = length n.arcs in
    let terms = sum_below-le count (λ i. pos 0) (slack_part n table node [] true)
    (λ i l. le-min _ _ _ (times_natural (arc_at n.arcs i).weight _)
    (times_natural (arc_at n.arcs i).weight _)) in
    let none = sum_below-zero count (λ i. pos 0) (λ i l. refl) in
    let flows = sum_below-zero count (λ i. pos 0 *ℤ (arc_at n.arcs i).lower) (λ i l. zero-mul (arc_at n.arcs i).lower) in
    (All-nil (λ (pair : Pair). Names (length table) pair.cycle), omega (arith, ints, terms, none, flows))
