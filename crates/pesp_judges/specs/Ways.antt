-- The rows of a cycle as they are followed.
use Rattle.std.specs.Prelude.{ℕ, List, length, Result, MatchResult}
use Rattle.pesp_problem.specs.declared.row.SignedRow.{SignedRow}
use Rattle.pesp_problem.specs.declared.arc.Arc.{Arc}
use Rattle.pesp_problem.specs.Timetables.{Pesp}
use Rattle.pesp_problem.specs.Arcs.{arcs_of}
use Rattle.pesp_problem.specs.Walks.{AreRows, IsWalk, Leads}
use Rattle.pesp_problem.specs.declared.nets.NetCount.{NetCount}
use Rattle.pesp_judges.specs.declared.refusal.Refusal.{Refusal}
use Rattle.pesp_judges.specs.declared.walks.Way.{Way}
use Rattle.pesp_judges.specs.declared.walks.Way.TheVariants.{Missing, Open, Closed}
use Rattle.pesp_problem.specs.Nets.{AreNetCounts}
use Rattle.pesp_judges.specs.Faults.{IsWalkFault}

-- what is said of rows that are followed from an event: they don't all exist, or they don't lead back to it, or they do
abbrev pub IsWay : List Arc → List SignedRow → ℕ → Way → Type 0
IsWay arcs rows begin Missing = AreRows arcs rows → ⊥
IsWay arcs rows begin Open = AreRows arcs rows × (Leads arcs begin rows begin → ⊥)
IsWay arcs rows begin Closed = AreRows arcs rows × Leads arcs begin rows begin

-- the same of the rows of a cycle
abbrev pub IsWayOf : List Arc → List SignedRow → Way → Type 0
IsWayOf arcs rows Missing = AreRows arcs rows → ⊥
IsWayOf arcs rows Open = AreRows arcs rows × (IsWalk arcs rows → ⊥)
IsWayOf arcs rows Closed = IsWalk arcs rows

-- what the code says of a cycle that has this number and stands in this line: its net counts where it is a walk, else what is
-- wrong with it
abbrev pub IsCycleVerdict : Pesp → List SignedRow → ℕ → ℕ → Result (List NetCount) Refusal → Type 0
IsCycleVerdict p rows number line found =
    MatchResult found (λ nets. IsWalk (arcs_of p) rows × AreNetCounts (length p.rows) rows nets)
    (λ refusal. IsWalkFault (arcs_of p) rows number line refusal)
