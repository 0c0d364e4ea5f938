-- The report of a timetable.
use Rattle.std.specs.Prelude.{◌≡◌, ℕ, ◌*◌, ◌==◌, ◌&&◌, ◌||◌, Bool, nat_lt, ℤ, pos, ◌+ℤ◌, List, [], ◌∷◌, ◌++◌, map, sum_by, slice_index_or, codes, IsPermutation, IsSortedBy}
use Rattle.std.specs.List.{enumerate_from, flat_map}
use Rattle.std.specs.Fmt.{decimal, signed_decimal}
use Rattle.csv.specs.Writing.{default_writer, row_text}
use Rattle.pesp_problem.specs.Timetables.{Pesp, cost, slack}
use Rattle.pesp_problem.specs.declared.row.Row.{Row}
use Rattle.pesp_report.specs.declared.line.Line.{Line}

-- the label of the event at a place
abbrev pub label_at : List ℤ → ℕ → ℤ
label_at events place = slice_index_or events place (pos 0)

-- what the report tells of a row and its number
abbrev pub line_of_row : Pesp → List ℕ → ℕ × Row → Line
line_of_row p times (number, row) = record {
  row = number;
  label = row.label;
  tail = label_at p.events row.tail;
  head = label_at p.events row.head;
  duration = row.lower +ℤ pos (slack p.period times row);
  slack = slack p.period times row;
  weight = row.weight;
  weighted = row.weight * slack p.period times row;
}

-- one line for each row, numbered from 1
abbrev pub report_lines : Pesp → List ℕ → List Line
report_lines p times = map (line_of_row p times) (enumerate_from 1 p.rows)

-- the line of the greater weighted slack goes first, and of equal ones that of the lesser row number
abbrev pub goes_before : Line → Line → Bool
goes_before x y = nat_lt y.weighted x.weighted || ((x.weighted == y.weighted) && nat_lt x.row y.row)

-- the fields of the header, of a line and of the total
abbrev pub header : List (List ℕ)
header =
    codes "row" ∷ codes "label" ∷ codes "tail" ∷ codes "head" ∷ codes "duration" ∷ codes "slack" ∷ codes "weight" ∷ codes "weighted" ∷ []

-- the fields of a line
abbrev pub line_fields : Line → List (List ℕ)
line_fields l =
    decimal l.row ∷ signed_decimal l.label ∷ signed_decimal l.tail ∷ signed_decimal l.head ∷ signed_decimal l.duration ∷ decimal l.slack
    ∷ decimal l.weight ∷ decimal l.weighted ∷ []

-- the fields of the total: the sum of all slacks, and the cost
abbrev pub total_fields : ℕ → ℕ → List (List ℕ)
total_fields slacks total = codes "total" ∷ [] ∷ [] ∷ [] ∷ [] ∷ decimal slacks ∷ [] ∷ decimal total ∷ []

-- the sum of the slacks of all rows
abbrev pub slack_sum : Pesp → List ℕ → ℕ
slack_sum p times = sum_by (λ row. slack p.period times row) p.rows

-- records as csv writes them by default
abbrev pub records_text : List (List (List ℕ)) → List ℕ
records_text records = flat_map (row_text default_writer) records

-- the text of a report with these lines and sums
abbrev pub report_text : List Line → ℕ → ℕ → List ℕ
report_text lines slacks total = records_text (header ∷ (map line_fields lines ++ total_fields slacks total ∷ []))

-- a text is the report of times: the header, the lines of all rows in their order, and the total
pub record IsReport (p : Pesp) (times : List ℕ) (text : List ℕ) : Type 0 where
  pub lines : List Line
  pub all : IsPermutation (report_lines p times) lines
  pub falling : IsSortedBy goes_before lines
  pub whole : text ≡ report_text lines (slack_sum p times) (cost p.period p.rows times)
