-- The activities that times violate, as they are told.
use Rattle.std.specs.Prelude.{ℕ, ℤ, ◌-◌, Bool, pos, ◌+ℤ◌, ◌-ℤ◌, int_lt, List, [], ◌∷◌, Option, Some, None, map, codes, if◌then◌else◌}
use Rattle.std.specs.List.{enumerate_from, filter_map}
use Rattle.std.specs.Fmt.{decimal, signed_decimal}
use Rattle.pesp_problem.specs.Timetables.{Pesp, AreTimes, slack}
use Rattle.pesp_problem.specs.declared.row.Row.{Row}
use Rattle.pesp_report.specs.Report.{label_at, records_text}
use Rattle.pesp_report.specs.Naming.{name_header, name_fields}
use Rattle.pesp_report.specs.declared.violation.Violation.{Violation}
use Rattle.pesp_report.specs.declared.refusal.ViolationsRefusal.{ViolationsRefusal}
use Rattle.pesp_report.specs.declared.refusal.ViolationsRefusal.TheVariants.{NotTimes, Memory, Write}

-- whether the slack of a row is above its span, so that the row isn't satisfied
abbrev pub is_violated : Pesp → List ℕ → Row → Bool
is_violated p times row = int_lt (row.upper -ℤ row.lower) (pos (slack p.period times row))

-- what is told of a row and its number; the excess is what the slack is above the span. Taken for a period less the duration is
-- below the least one, by what the slack lacks of a period
abbrev pub violation_of : Pesp → List ℕ → ℕ × Row → Violation
violation_of p times (number, row) = record {
  row = number;
  label = row.label;
  tail = label_at p.events row.tail;
  head = label_at p.events row.head;
  duration = row.lower +ℤ pos (slack p.period times row);
  lower = row.lower;
  upper = row.upper;
  excess = pos (slack p.period times row) -ℤ (row.upper -ℤ row.lower);
  short = p.period - slack p.period times row;
}

-- what is told of a row and its number where it is violated
abbrev pub violation_at : Pesp → List ℕ → ℕ × Row → Option Violation
violation_at p times (number, row) = if is_violated p times row then Some (violation_of p times (number, row)) else None

-- the violated rows in the order of the text, numbered from 1
abbrev pub violations_of : Pesp → List ℕ → List Violation
violations_of p times = filter_map (violation_at p times) (enumerate_from 1 p.rows)

-- by how much a row is too short or too long, whichever is less; the field of the other one is empty
abbrev pub short_field : Violation → List ℕ
short_field v = if int_lt v.excess (pos v.short) then [] else decimal v.short

-- by how much a row is too long, empty where it is too short by less
abbrev pub long_field : Violation → List ℕ
long_field v = if int_lt (pos v.short) v.excess then [] else signed_decimal v.excess

-- the fields of the header and of a violated row, with the names of its two events where names are told
abbrev pub violation_header : Option (ℤ → List ℕ) → List (List ℕ)
violation_header naming =
    codes "row" ∷ codes "label" ∷ codes "tail" ∷ codes "head" ∷ codes "duration" ∷ codes "lower" ∷ codes "upper" ∷ codes "excess" ∷ codes "short"
    ∷ codes "long" ∷ name_header naming

-- the fields of a violated row, and the names of its two events where names are told
abbrev pub violation_fields : Option (ℤ → List ℕ) → Violation → List (List ℕ)
violation_fields naming v =
    decimal v.row ∷ signed_decimal v.label ∷ signed_decimal v.tail ∷ signed_decimal v.head
    ∷ signed_decimal v.duration ∷ signed_decimal v.lower
    ∷ signed_decimal v.upper ∷ signed_decimal v.excess ∷ short_field v ∷ long_field v ∷ name_fields naming v.tail v.head

-- the header and these records
abbrev pub violations_text : Option (ℤ → List ℕ) → List Violation → List ℕ
violations_text naming violations = records_text (violation_header naming ∷ map (violation_fields naming) violations)

-- what a refusal says of the times
abbrev pub RefusesViolations : Pesp → List ℕ → ViolationsRefusal → Type 0
RefusesViolations p times NotTimes = AreTimes p times → ⊥
RefusesViolations p times Memory = AreTimes p times
RefusesViolations p times Write = AreTimes p times

-- a fact that holds where the writer is blamed
abbrev pub IfWriteFailed : ViolationsRefusal → Type 0 → Type 0
IfWriteFailed NotTimes fact = Unit {0}
IfWriteFailed Memory fact = Unit {0}
IfWriteFailed Write fact = fact

-- a fact that holds at every other refusal
abbrev pub UnlessWriteFailed : ViolationsRefusal → Type 0 → Type 0
UnlessWriteFailed NotTimes fact = fact
UnlessWriteFailed Memory fact = fact
UnlessWriteFailed Write fact = Unit {0}
