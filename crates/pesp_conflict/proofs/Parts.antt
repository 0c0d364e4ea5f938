-- The instance that has listed rows alone keeps the limits.
use Rattle.std.proofs.Common.{ℕ, ◌-◌, ◌≤◌, List, length, get_or, arith}
use Rattle.std.specs.Prelude.{All}
use Rattle.std.proofs.lemmas.List.{length-map}
use Rattle.std.proofs.lemmas.List.Elements.{All-map}
use Rattle.pesp_problem.specs.declared.row.Row.{Row}
use Rattle.pesp_problem.specs.Limits.{KeepsLimits, RowKeepsLimits}
use Rattle.pesp_problem.specs.Timetables.{Pesp, row_at, no_row}
use Rattle.pesp_problem.specs.Walks.{Names}
use Rattle.pesp_truth.specs.Conflicts.{only_rows, unweighted}

unweighted_keeps : (events : ℕ) (row : Row) → RowKeepsLimits events row → RowKeepsLimits events (unweighted row)
unweighted_keeps events row k = record {
  label = k.label;
  tail = k.tail;
  head = k.head;
  lower = k.lower;
  bounds = k.bounds;
  upper = k.upper;
  weight = omega arith;
}

pub part_keeps_limits : (p : Pesp) (listed : List ℕ) → KeepsLimits p → All (Names (length p.rows)) listed
    → length listed ≤ 100000 → KeepsLimits (only_rows p listed)
part_keeps_limits p listed k names few = record {
  some_period = k.some_period;
  period = k.period;
  events = k.events;
  labels = k.labels;
  rows = omega (arith, few, length-map listed (λ (row : ℕ). unweighted (row_at p.rows (row - 1))));
  each = All-map (RowKeepsLimits (length p.events)) (λ (row : ℕ). unweighted (row_at p.rows (row - 1))) listed
      (λ i d l. (let named = names i d l in unweighted_keeps (length p.events)
      (row_at p.rows (get_or listed i d - 1)) (k.each (get_or listed i d - 1) no_row (omega (arith, named)))));
}
