-- Nodes at which nothing is left to cut: each offset range, and each slack range of a row that some cycle passes, has one value.
use Rattle.std.specs.Prelude.{◌≡◌, ℕ, ◌<◌, ◌≤◌, List, length, ◌≤ℤ◌, true, None}
use Rattle.pesp_problem.specs.declared.row.SignedRow.{SignedRow}
use Rattle.pesp_problem.specs.Arcs.{Net, arc_at}
use Rattle.pesp_problem.specs.Nodes.{Node, slack_range, offset_range, offsets_left}
use Rattle.pesp_branching.specs.Rooms.{is_passed}

-- the least slack of the row at place i
abbrev pub low_slack : Node → ℕ → ℕ
low_slack node i = (slack_range node.slacks i).0

-- no slack range is empty
abbrev pub HaveSlacks : Net → Node → Type 0
HaveSlacks n node = (i : ℕ) → i < length n.arcs → (slack_range node.slacks i).0 ≤ (slack_range node.slacks i).1

-- no range that counts has two values
pub record IsSettled (n : Net) (table : List (List SignedRow)) (node : Node) : Type 0 where
  pub slacks : (i : ℕ) → i < length n.arcs → is_passed table i ≡ true → (slack_range node.slacks i).1 ≤ (slack_range node.slacks i).0
  pub offsets : (c : ℕ) → c < length table → (offset_range node.offsets c).1 ≤ℤ (offset_range node.offsets c).0

-- each cycle has an offset left
abbrev pub HaveOffsetsLeft : Net → List (List SignedRow) → Node → Type 0
HaveOffsetsLeft n table node = (c : ℕ) → c < length table → offsets_left n table node c ≡ None → ⊥

-- no slack range goes beyond the span of its row
abbrev pub KeepSpans : Net → Node → Type 0
KeepSpans n node = (i : ℕ) → i < length n.arcs → (slack_range node.slacks i).1 ≤ (arc_at n.arcs i).span
