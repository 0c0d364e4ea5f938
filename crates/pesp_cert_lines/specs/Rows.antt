-- The signed rows of a cycle line: how they are spelt, and how they are read.
use Rattle.std.specs.Prelude.{◌≡◌, ℕ, ◌+◌, ◌≤◌, Bool, true, false, ◌&&◌, ◌==◌, nat_le, if◌then◌else◌, Option, Some, None, MatchOption, Result, Ok, Err, List, [], ◌∷◌, length, drop, slice_index, decimal}
use Rattle.std.specs.List.{list_all}
use Rattle.pesp_problem.specs.declared.limits.TheConstants.{MOST_ROWS}
use Rattle.pesp_problem.specs.declared.row.SignedRow.{SignedRow}
use Rattle.pesp_stream.specs.Number.{natural_of}
use Rattle.pesp_cert_lines.specs.declared.rows.TheConstants.{MOST_WORDS}
use Rattle.pesp_cert_lines.specs.declared.fault.LineFault.{LineFault}
use Rattle.pesp_cert_lines.specs.declared.fault.LineFault.TheVariants.{Number, Limit}

-- a number that a row or a cycle may have
abbrev pub is_name : ℕ → Bool
is_name n = nat_le 1 n && nat_le n MOST_ROWS

-- each row has a number that a row may have
abbrev pub rows_are_named : List SignedRow → Bool
rows_are_named rs = list_all (λ r. is_name r.row) rs

-- ---- the spelling: `+` or `-` and the number

-- the word of a signed row
abbrev pub row_word : SignedRow → List ℕ
row_word r = (if r.plus then 43 else 45) ∷ decimal r.row

-- the words of signed rows
abbrev pub row_words : List SignedRow → List (List ℕ)
row_words [] = []
row_words (r ∷ rs) = row_word r ∷ row_words rs

-- ---- reading

-- the function of what two words say
abbrev pub both : {A B C : Type 0} → (A → B → C) → Option A → Option B → Option C
both f None o = None
both f (Some a) None = None
both f (Some a) (Some b) = Some (f a b)

-- a number, where it is spelt, with its sign
abbrev pub signed : Bool → Option ℕ → Option (ℕ × Bool)
signed plus None = None
signed plus (Some n) = Some (n, plus)

-- a sign and a natural
unfoldable pub spelt_row : List ℕ → Option (ℕ × Bool)
spelt_row w = if slice_index w 0 == 43 then signed true (natural_of (drop 1 w)) else
    if slice_index w 0 == 45 then signed false (natural_of (drop 1 w)) else None

-- the signed row of a number and a sign
abbrev pub row_made : ℕ × Bool → SignedRow
row_made p = record { row = p.0; plus = p.1 }

-- the rows that words spell
unfoldable pub rows_of : List (List ℕ) → Option (List SignedRow)
rows_of [] = Some []
rows_of (w ∷ ws) = both (λ p rs. row_made p ∷ rs) (spelt_row w) (rows_of ws)

-- the spelling first, then the limits
abbrev pub rows_within : Option (List SignedRow) → Result (List SignedRow) LineFault
rows_within None = Err Number
rows_within (Some rs) = if rows_are_named rs then Ok rs else Err Limit

-- how many they are, behind n others
abbrev pub counted_rows : ℕ → Bool → Option (List SignedRow) → Result ℕ LineFault
counted_rows n within None = Err Number
counted_rows n within (Some rs) = if within && rows_are_named rs then Ok (n + length rs) else Err Limit

-- how many they are, behind no others
abbrev pub count_of_rows : Option (List SignedRow) → Result ℕ LineFault
count_of_rows o = counted_rows 0 true o

-- ---- the rows that are left in a line that was judged

-- the signed rows that words spell, none where they spell no such rows
abbrev pub rows_left : Option (List SignedRow) → List SignedRow
rows_left None = []
rows_left (Some rs) = rs

-- whether words spell signed rows with numbers that rows may have
abbrev pub rows_are_good : Option (List SignedRow) → Bool
rows_are_good None = false
rows_are_good (Some rs) = rows_are_named rs

-- the words spell rows within their limits, and so many
pub record RowsAreGood (rows : Option (List SignedRow)) (number : ℕ) : Type 0 where
  pub good : rows_are_good rows ≡ true
  pub count : number ≡ length (rows_left rows)
  pub short : number ≤ MOST_WORDS

-- the first of the rows and the others, or there is none
abbrev pub BeginsRows : Option SignedRow → Option (List SignedRow) → Option (List SignedRow) → Type 0
BeginsRows r all rest = (rows_are_good rest ≡ true)
    × MatchOption r ((rows_left all ≡ []) × (rows_left rest ≡ [])) (λ x. rows_left all ≡ x ∷ rows_left rest)
