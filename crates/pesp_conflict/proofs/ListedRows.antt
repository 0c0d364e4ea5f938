-- What is told of a row within its limits, as the code makes it.
use Rattle.std.proofs.Common.{◌≡◌, refl, ℕ, ◌-◌, ◌<◌, arith, pos, length}
use Rattle.std.proofs.lemmas.Int.{ints}
use Rattle.std.proofs.lemmas.List.Elements.{All-get_or}
use mir.Syntax.{w64}
use mir.Val.{to_z, of_z}
use Rattle.pesp_problem.specs.Limits.{IsLabel, KeepsLimits, RowKeepsLimits}
use Rattle.pesp_problem.specs.Timetables.{Pesp, no_row, row_at}
use Rattle.pesp_problem.specs.declared.row.Row.{Row}
use Rattle.pesp_problem.specs.Walks.{Names}
use Rattle.pesp_report.specs.Report.{label_at}
use Rattle.pesp_report.proofs.Order.{kept}
use Rattle.pesp_conflict.specs.Lists.{listed_of}
use Rattle.pesp_conflict.specs.declared.listed.Listed.{Listed}

pub listed-is : (p : Pesp) (number : ℕ) → KeepsLimits p → Names (length p.rows) number
    → ◌≡◌ {A = Listed}
    (record {
      row = number;
      label = to_z w64 (of_z w64 (row_at p.rows (number - 1)).label);
      tail = to_z w64 (of_z w64 (label_at p.events (row_at p.rows (number - 1)).tail));
      head = to_z w64 (of_z w64 (label_at p.events (row_at p.rows (number - 1)).head));
      lower = to_z w64 (of_z w64 (row_at p.rows (number - 1)).lower);
      upper = to_z w64 (of_z w64 (row_at p.rows (number - 1)).upper);
    })
    (listed_of p number)
listed-is p number limits named =
    let r : Row = row_at p.rows (number - 1) in
    let there : number - 1 < length p.rows = omega (arith, named) in
    let k = All-get_or (RowKeepsLimits (length p.events)) p.rows (number - 1) no_row there limits.each in
    let t = All-get_or IsLabel p.events r.tail (pos 0) k.tail limits.labels in
    let h = All-get_or IsLabel p.events r.head (pos 0) k.head limits.labels in
    let el = kept r.label (omega (arith, k.label)) in
    let et = kept (label_at p.events r.tail) (omega (arith, t)) in
    let eh = kept (label_at p.events r.head) (omega (arith, h)) in
    let ew = kept r.lower (omega (arith, ints, k.lower, k.bounds, k.upper)) in
    let eu = kept r.upper (omega (arith, ints, k.lower, k.bounds, k.upper)) in
    rw (el, et, eh, ew, eu) refl
