-- Whether propagation shuts a node doesn't depend on how many events are counted, as long as those of the arcs are.
use Rattle.std.proofs.Common.{ℕ, ◌<◌, List}
use Rattle.std.specs.Prelude.{All, ◌↔◌}
use Rattle.pesp_problem.specs.declared.row.SignedRow.{SignedRow}
use Rattle.pesp_problem.specs.Arcs.{Net}
use Rattle.pesp_problem.specs.Nodes.{Node}
use Rattle.pesp_problem.specs.Families.{NoFamilyIsSupported}
use Rattle.pesp_problem.proofs.Supporting.{none_for_all}
use Rattle.pesp_truth.specs.Trees.{Claim, ByPropagation, IsShut}

pub any_count : (claim : Claim) (n : Net) (table : List (List SignedRow)) (node : Node) (events : ℕ) → 0 < n.period
    → All (λ arc. (arc.tail < events) × (arc.head < events)) n.arcs
    → IsShut claim n table ByPropagation node ↔ NoFamilyIsSupported n node.slacks events
any_count claim n table node events h ends = (λ s. none_for_all n node.slacks events s.0 h ends s.1, λ none. (events, none))
