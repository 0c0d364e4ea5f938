-- Listed activities, as they are told.
use Rattle.std.specs.Prelude.{ℕ, ◌-◌, ℤ, List, ◌∷◌, Option, map, codes}
use Rattle.std.specs.Fmt.{decimal, signed_decimal}
use Rattle.pesp_problem.specs.Timetables.{Pesp, row_at}
use Rattle.pesp_report.specs.Report.{label_at, records_text}
use Rattle.pesp_report.specs.Naming.{name_header, name_fields}
use Rattle.pesp_conflict.specs.declared.listed.Listed.{Listed}

-- what is told of the row of a number, from 1
abbrev pub listed_of : Pesp → ℕ → Listed
listed_of p number = record {
  row = number;
  label = (row_at p.rows (number - 1)).label;
  tail = label_at p.events (row_at p.rows (number - 1)).tail;
  head = label_at p.events (row_at p.rows (number - 1)).head;
  lower = (row_at p.rows (number - 1)).lower;
  upper = (row_at p.rows (number - 1)).upper;
}

-- the fields of the header and of a listed row, with the names of its two events where names are told
abbrev pub list_header : Option (ℤ → List ℕ) → List (List ℕ)
list_header naming =
    codes "row" ∷ codes "label" ∷ codes "tail" ∷ codes "head" ∷ codes "lower" ∷ codes "upper" ∷ name_header naming

-- the fields of a listed row, and the names of its two events where names are told
abbrev pub listed_fields : Option (ℤ → List ℕ) → Listed → List (List ℕ)
listed_fields naming l = decimal l.row ∷ signed_decimal l.label ∷ signed_decimal l.tail ∷ signed_decimal l.head
    ∷ signed_decimal l.lower ∷ signed_decimal l.upper ∷ name_fields naming l.tail l.head

-- the records of these rows
abbrev pub listed_lines : Pesp → List ℕ → List Listed
listed_lines p rows = map (listed_of p) rows

-- the header and a record for each of these rows
abbrev pub list_text : Option (ℤ → List ℕ) → List Listed → List ℕ
list_text naming lines = records_text (list_header naming ∷ map (listed_fields naming) lines)
