-- The timetables of an instance's net are the instance's, at the same costs.
use Rattle.std.proofs.Common.{◌≡◌, ℕ, ◌*◌, ◌<◌, ◌≤◌, List, length, get_or, sym, ap, ◌∙◌, arith}
use Rattle.std.specs.Prelude.{◌≤ℤ◌, ◌↔◌, All, sum_by, map}
use Rattle.std.proofs.lemmas.List.Sums.{sum-map}
use Rattle.std.proofs.lemmas.Simd.{map-map}
use Rattle.std.proofs.lemmas.List.{get_or-map, length-map}
use Rattle.std.proofs.lemmas.List.Elements.{All-map}
use Rattle.pesp_problem.specs.declared.arc.Arc.{Arc}
use Rattle.pesp_problem.specs.Limits.{KeepsLimits}
use Rattle.pesp_problem.specs.Timetables.{Pesp, cost, IsTimetable}
use Rattle.pesp_problem.specs.Arcs.{arc_of, net_of, arc_slack}
use Rattle.pesp_problem.specs.NetTimetables.{IsNetTimetable, net_cost}
use Rattle.pesp_problem.proofs.Arcs.{within_span}

-- no row's bounds are crossed
abbrev pub AreInOrder : Pesp → Type 0
AreInOrder p = All (λ row. row.lower ≤ℤ row.upper) p.rows

pub limits_in_order : (p : Pesp) → KeepsLimits p → AreInOrder p
limits_in_order p k i d l = (k.each i d l).bounds

-- ---- costs

pub net_cost-is : (p : Pesp) (times : List ℕ) → net_cost (net_of p) times ≡ cost p.period p.rows times
net_cost-is p times =
    let worth : Arc → ℕ = λ arc. arc.weight * arc_slack p.period times arc in
    sym (sum-map worth (map (arc_of p.period) p.rows))
    ∙ ap (λ (terms : List ℕ). sum_by (λ n. n) terms) (map-map worth (arc_of p.period) p.rows)
    ∙ sum-map (λ row. worth (arc_of p.period row)) p.rows

-- ---- timetables

-- what holds of each arc holds of each row's arc
each_row : (p : Pesp) (P : Arc → Type 0) → All P (map (arc_of p.period) p.rows) → All (λ row. P (arc_of p.period row)) p.rows
each_row p P h i d l = rw (← get_or-map (arc_of p.period) p.rows i d (arc_of p.period d) l)
    (h i (arc_of p.period d) (omega (arith, l, length-map p.rows (arc_of p.period))))

to_net : (p : Pesp) (times : List ℕ) → 0 < p.period → AreInOrder p → IsTimetable p times → IsNetTimetable (net_of p) (length p.events) times
to_net p times h o t = record {
  count = t.0.0;
  below = t.0.1;
  slacks = All-map (λ (arc : Arc). arc_slack p.period times arc ≤ arc.span) (arc_of p.period) p.rows
      (λ i d l. (within_span p times (get_or p.rows i d) h (o i d l)).0 (t.1 i d l));
}

from_net : (p : Pesp) (times : List ℕ) → 0 < p.period → AreInOrder p
    → IsNetTimetable (net_of p) (length p.events) times → IsTimetable p times
from_net p times h o t = (
  (t.count, t.below),
  λ i d l.
      (within_span p times (get_or p.rows i d) h (o i d l)).1
      (each_row p (λ (arc : Arc). arc_slack p.period times arc ≤ arc.span) t.slacks i d l),
)

pub net_timetables : (p : Pesp) (times : List ℕ) → 0 < p.period → AreInOrder p
    → IsTimetable p times ↔ IsNetTimetable (net_of p) (length p.events) times
net_timetables p times h o = (to_net p times h o, from_net p times h o)
