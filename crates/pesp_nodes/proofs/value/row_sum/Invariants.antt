use Rattle.std.proofs.Common.{◌≡◌, ◌≤◌, ◌*◌, ◌^◌, List, length, All}
use Rattle.std.specs.Prelude.{unsigned_abs}
use Rattle.pesp_problem.specs.declared.row.SignedRow.{SignedRow}
use Rattle.pesp_problem.specs.Sums.{sum_below}
use Rattle.pesp_problem.specs.Walks.{Names}
use Rattle.pesp_problem.specs.Nodes.{flow}
use Rattle.pesp_nodes.specs.Flows.{AreFlows}
use Rattle.pesp_nodes.specs.Passages.{ArePassages}
use Rattle.pesp_nodes.specs.Values.{row_term_at}
use Rattle.pesp_nodes.proofs.value.row_sum.Given as goal

abbrev pub invariant-loop-place : goal.invariant-loop-place
invariant-loop-place l =
    ((walks : List (List SignedRow)) → ArePassages (length l.arcs) (length walks) walks l.by_row
    → All (λ p. Names (length walks) p.cycle) l.pairs → AreFlows walks l.pairs l.flows
    → l.sum ≡ sum_below l.place (λ i. row_term_at l.arcs l.slacks l.fn.weighted i (flow walks l.pairs i)))
    × (unsigned_abs l.sum ≤ l.place * 10 ^ 31)
