-- Sums along a walk and quotients, by the end of a range.
use Rattle.std.proofs.Common.{◌≡◌, ℕ, ◌≤◌, arith, List, length}
use Rattle.std.specs.Prelude.{ℤ, unsigned_abs}
use Rattle.pesp_problem.specs.declared.arc.Arc.{Arc}
use Rattle.pesp_problem.specs.declared.row.SignedRow.{SignedRow}
use Rattle.pesp_problem.specs.Sums.{floor_div, ceil_div}
use Rattle.pesp_problem.specs.declared.nets.NetCount.{NetCount}
use Rattle.pesp_problem.specs.Nets.{sum_of, AreNetCounts}
use Rattle.pesp_nodes.specs.declared.ends.End.{End}
use Rattle.pesp_nodes.specs.declared.ends.End.TheVariants.{Low, High}
use Rattle.pesp_nodes.specs.Offsets.{at_end, end_term, end_sum}
use Rattle.pesp_problem.proofs.Durations.{least_is, greatest_is, floor_div-size, ceil_div-size}

pub sum_is : (end : End) (arcs : List Arc) (slacks : List (ℕ × ℕ)) (walk : List SignedRow) (counts : List NetCount)
    → AreNetCounts (length arcs) walk counts → sum_of (end_term end arcs slacks) counts
    ≡ end_sum end arcs slacks walk
sum_is Low arcs slacks walk counts h = least_is arcs slacks walk counts h
sum_is High arcs slacks walk counts h = greatest_is arcs slacks walk counts h

-- a quotient is no greater than what is divided
pub quotients_small : (end : End) (z : ℤ) (n most : ℕ) → unsigned_abs z ≤ most
    → unsigned_abs (at_end end (ceil_div z n) (floor_div z n)) ≤ most
quotients_small Low z n most h = omega (arith, ceil_div-size z n, h)
quotients_small High z n most h = omega (arith, floor_div-size z n, h)
