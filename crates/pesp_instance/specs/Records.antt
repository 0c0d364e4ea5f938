-- The records of a text that say something, each with its number.
use Rattle.std.specs.Prelude.{Bool, true, false, not, filter, ℕ, ◌==◌, ◌&&◌, ◌||◌, nat_le, List, [], ◌∷◌, Option, None, Some, slice_get, if◌then◌else◌}
use Rattle.std.specs.List.{enumerate_from, list_all, list_any}
use Rattle.csv.specs.Reading.{records, strip_bom}
use Rattle.csv.specs.declared.parser.Config.{Config}
use Rattle.csv.specs.declared.parser.Terminator.TheVariants as term
use Rattle.pesp_instance.specs.Number.{all_blank, past_blanks}

-- how the lines of a text are cut into fields: csv's defaults, with this delimiter
abbrev pub line_config : ℕ → Config
line_config delimiter = record {
  delimiter = delimiter;
  quote = 34;
  escape = None;
  double_quote = true;
  quoting = true;
  comment = None;
  terminator = term.CRLF;
}

-- whether a byte stands anywhere in a text
abbrev pub has_byte : ℕ → List ℕ → Bool
has_byte b text = list_any (λ c. c == b) text

-- ';' where a text has one, else tab where it has one, else ','
abbrev pub delimiter_of : List ℕ → ℕ
delimiter_of text = if has_byte 59 text then 59 else if has_byte 9 text then 9 else 44

-- the first byte of a record that is no blank, if its first field has one
abbrev pub lead_of : List (List ℕ) → Option ℕ
lead_of [] = None
lead_of (field ∷ fields) = slice_get (past_blanks field) 0

-- whether there is such a byte, and it passes a test
abbrev pub leads_with : (ℕ → Bool) → Option ℕ → Bool
leads_with test None = false
leads_with test (Some b) = test b

-- the letters A to Z and a to z
abbrev pub is_letter : ℕ → Bool
is_letter b = (nat_le 65 b && nat_le b 90) || (nat_le 97 b && nat_le b 122)

-- a record of blanks alone, or a comment
abbrev pub is_skipped : List (List ℕ) → Bool
is_skipped fields = list_all all_blank fields || leads_with (λ b. b == 35) (lead_of fields)

-- a record that names the columns, where it is the first that is not skipped: it begins with a letter
abbrev pub is_header : List (List ℕ) → Bool
is_header fields = leads_with is_letter (lead_of fields)

-- whether a numbered record says something
abbrev pub says_something : ℕ × List (List ℕ) → Bool
says_something record_at = not (is_skipped record_at.1)

-- records without the first one, where that is a header
abbrev pub past_header : List (ℕ × List (List ℕ)) → List (ℕ × List (List ℕ))
past_header [] = []
past_header (first ∷ rest) = if is_header first.1 then rest else first ∷ rest

-- the records of a text that say something, past the header, each with its number: they are numbered from 1 on, with
-- those that are left out
abbrev pub records_of : List ℕ → List (ℕ × List (List ℕ))
records_of text =
    past_header (filter says_something (enumerate_from 1 (records (line_config (delimiter_of (strip_bom text))) (strip_bom text))))
