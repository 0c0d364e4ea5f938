-- The report of a timetable with the names of the events.
use Rattle.std.specs.Prelude.{◌≡◌, ℕ, ℤ, List, [], ◌∷◌, ◌++◌, map, codes, IsPermutation, IsSortedBy}
use Rattle.pesp_problem.specs.Timetables.{Pesp, cost}
use Rattle.pesp_report.specs.Report.{goes_before, header, line_fields, report_lines, records_text, slack_sum, total_fields}
use Rattle.pesp_report.specs.declared.line.Line.{Line}

-- the fields of a report, and behind them the names of the two events
abbrev pub named_header : List (List ℕ)
named_header = header ++ codes "tail_name" ∷ codes "head_name" ∷ []

-- the fields of a line, and behind them the names of its two events
abbrev pub named_fields : (ℤ → List ℕ) → Line → List (List ℕ)
named_fields name l = line_fields l ++ name l.tail ∷ name l.head ∷ []

-- the fields of the total, and behind them two empty ones
abbrev pub named_total : ℕ → ℕ → List (List ℕ)
named_total slacks total = total_fields slacks total ++ [] ∷ [] ∷ []

-- the text of a report with these lines and sums
abbrev pub named_text : (ℤ → List ℕ) → List Line → ℕ → ℕ → List ℕ
named_text name lines slacks total = records_text (named_header ∷ (map (named_fields name) lines ++ named_total slacks total ∷ []))

-- a text is the report of times with names: the lines and sums of the report, each line with the names of its events
pub record IsNamedReport (p : Pesp) (times : List ℕ) (name : ℤ → List ℕ) (text : List ℕ) : Type 0 where
  pub lines : List Line
  pub all : IsPermutation (report_lines p times) lines
  pub falling : IsSortedBy goes_before lines
  pub whole : text ≡ named_text name lines (slack_sum p times) (cost p.period p.rows times)
