-- What the marked walks of pairs add to a leaf, for a table of so many cycles.
use Rattle.std.specs.Prelude.{ℕ, List, ℤ, pos, Bool}
use Rattle.pesp_problem.specs.declared.pair.Pair.{Pair}
use Rattle.pesp_problem.specs.Arcs.{Net}
use Rattle.pesp_problem.specs.declared.marked.MarkedRow.{MarkedRow}
use Rattle.pesp_problem.specs.Marked.{least_gain, rates_at}
use Rattle.pesp_problem.specs.Sharp.{over_multiples}
use Rattle.pesp_truth.specs.Named.{of_walks}

-- what they gain at least, each times its multiplier
abbrev pub gains_of : Net → List (ℕ × ℕ) → ℕ → List (List MarkedRow) → List Pair → ℤ
gains_of n slacks cycles walks pairs = over_multiples (of_walks cycles walks pairs) (λ walk. pos (least_gain n slacks walk))

-- the rates of their plain or of their flipped passes of the row at place i, each times its multiplier
abbrev pub rates_of : Net → List (ℕ × ℕ) → ℕ → List (List MarkedRow) → List Pair → Bool → ℕ → ℤ
rates_of n slacks cycles walks pairs flipped i = over_multiples (of_walks cycles walks pairs) (λ walk. rates_at n slacks walk flipped i)
