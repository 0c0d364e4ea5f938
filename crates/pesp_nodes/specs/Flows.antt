-- Flows as they are listed, one for each row.
use Rattle.std.specs.Prelude.{◌≡◌, ℕ, ◌<◌, List, length, ℤ}
use Rattle.pesp_problem.specs.declared.row.SignedRow.{SignedRow}
use Rattle.pesp_problem.specs.declared.pair.Pair.{Pair}
use Rattle.pesp_problem.specs.Nodes.{flow}
use Rattle.pesp_problem.specs.Terms.{number_at}

-- each number of the list is the flow of the pairs on the row of its place
abbrev pub AreFlows : List (List SignedRow) → List Pair → List ℤ → Type 0
AreFlows table pairs flows = (i : ℕ) → i < length flows → number_at flows i ≡ flow table pairs i
