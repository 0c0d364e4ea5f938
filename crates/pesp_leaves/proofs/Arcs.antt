-- The arcs of an instance.
use Rattle.std.proofs.Common.{◌≡◌, ℕ, ◌<◌, List, length, sym, subst}
use Rattle.std.proofs.lemmas.List.{length-map, get_or-map}
use Rattle.pesp_problem.specs.declared.row.SignedRow.{SignedRow}
use Rattle.pesp_problem.specs.Timetables.{Pesp, no_row, row_at}
use Rattle.pesp_problem.specs.Arcs.{arcs_of, arc_of, arc_at, no_arc}
use Rattle.pesp_problem.specs.declared.nets.NetCount.{NetCount}
use Rattle.pesp_problem.specs.Nets.{AreNetCounts}

pub arcs_long : (p : Pesp) → length (arcs_of p) ≡ length p.rows
arcs_long p = length-map p.rows (arc_of p.period)

pub arc_is : (p : Pesp) (i : ℕ) → i < length p.rows → arc_at (arcs_of p) i ≡ arc_of p.period (row_at p.rows i)
arc_is p i l = get_or-map (arc_of p.period) p.rows i no_row no_arc l

-- net counts of so many rows are those of so many arcs
pub nets_of_arcs : (p : Pesp) (walk : List SignedRow) (counts : List NetCount)
    → AreNetCounts (length p.rows) walk counts → AreNetCounts (length (arcs_of p)) walk counts
nets_of_arcs p walk counts h = let P : ℕ → Type 0 = λ n. AreNetCounts n walk counts in subst P (sym (arcs_long p)) h
