-- The rows that a certificate of no timetable uses.
use Rattle.std.specs.Prelude.{⊤, ℕ, ◌-◌, List, All, Contains}
use Rattle.pesp_problem.specs.declared.row.SignedRow.{SignedRow}
use Rattle.pesp_problem.specs.Walks.{Names}
use Rattle.pesp_problem.specs.Forests.{KeepsTo}
use Rattle.pesp_problem.specs.Nodes.{cycle_at}
use Rattle.pesp_truth.specs.declared.tree.TreeLine.{TreeLine}
use Rattle.pesp_truth.specs.declared.tree.TreeLine.TheVariants.{Slack, Offset, Bound, Nothing, Gap, Propagated}
use Rattle.pesp_truth.specs.Certificates.{Content}

-- the rows of the cycle of this number, from 1, are listed
abbrev pub CycleIsListed : List (List SignedRow) → List ℕ → ℕ → Type 0
CycleIsListed table listed cycle = KeepsTo listed (cycle_at table (cycle - 1))

-- the rows that a line of a tree uses are listed: those of the cycles that a leaf names, all where propagation shuts it, none of a branch
abbrev pub LineUsesOnly : ℕ → List (List SignedRow) → List ℕ → TreeLine → Type 0
LineUsesOnly rows table listed (Slack row k) = ⊤
LineUsesOnly rows table listed (Offset cycle k) = ⊤
LineUsesOnly rows table listed (Bound pairs) = All (λ pair. CycleIsListed table listed pair.cycle) pairs
LineUsesOnly rows table listed (Nothing pairs) = All (λ pair. CycleIsListed table listed pair.cycle) pairs
LineUsesOnly rows table listed (Gap cycle) = CycleIsListed table listed cycle
LineUsesOnly rows table listed Propagated = (row : ℕ) → Names rows row → Contains listed row

-- the lines of the tree use listed rows alone, of so many rows
abbrev pub UsesOnly : ℕ → Content → List ℕ → Type 0
UsesOnly rows content listed = All (LineUsesOnly rows content.cycles listed) content.tree
