-- The marked rows of a walk's line: how they are spelt, and how they are read.
use Rattle.std.specs.Prelude.{◌≡◌, ℕ, ◌+◌, ◌-◌, ◌≤◌, Bool, true, false, ◌&&◌, ◌==◌, if◌then◌else◌, Option, Some, None, MatchOption, Result, Ok, Err, List, [], ◌∷◌, ◌++◌, length, take, slice_index}
use Rattle.std.specs.List.{list_all}
use Rattle.pesp_problem.specs.declared.marked.MarkedRow.{MarkedRow}
use Rattle.pesp_cert_lines.specs.declared.rows.TheConstants.{MOST_WORDS}
use Rattle.pesp_cert_lines.specs.declared.fault.LineFault.{LineFault}
use Rattle.pesp_cert_lines.specs.declared.fault.LineFault.TheVariants.{Number, Limit}
use Rattle.pesp_cert_lines.specs.Rows.{is_name, row_word, spelt_row, both}

-- ---- the spelling: a signed row, and `*` behind it where it is flipped

-- the mark of a flipped row, nothing for a plain one
abbrev pub star : Bool → List ℕ
star true = 42 ∷ []
star false = []

-- the word of a marked row
abbrev pub marked_word : MarkedRow → List ℕ
marked_word s = row_word s.signed ++ star s.flipped

-- the words of a walk, one for each marked row
abbrev pub marked_words : List MarkedRow → List (List ℕ)
marked_words [] = []
marked_words (s ∷ walk) = marked_word s ∷ marked_words walk

-- each row has a number that a row may have
abbrev pub are_named : List MarkedRow → Bool
are_named walk = list_all (λ s. is_name s.signed.row) walk

-- ---- reading

-- whether the last byte of a word is `*`
abbrev pub is_starred : List ℕ → Bool
is_starred w = slice_index w (length w - 1) == 42

-- a word without its last byte
abbrev pub but_last : List ℕ → List ℕ
but_last w = take (length w - 1) w

-- a number and a sign, where they are spelt, and whether the row is flipped
abbrev pub with_mark : Bool → Option (ℕ × Bool) → Option (ℕ × Bool × Bool)
with_mark flipped None = None
with_mark flipped (Some p) = Some (p.0, p.1, flipped)

-- the number, whether the sign is plus, and whether it is flipped
abbrev pub marked_at : List ℕ → Option (ℕ × Bool × Bool)
marked_at w = if is_starred w then with_mark true (spelt_row (but_last w)) else with_mark false (spelt_row w)

-- the marked row of a number, a sign and a mark
abbrev pub marked_made : ℕ × Bool × Bool → MarkedRow
marked_made p = record { signed = record { row = p.0; plus = p.1 }; flipped = p.2 }

-- the marked rows that words spell
unfoldable pub marked_of : List (List ℕ) → Option (List MarkedRow)
marked_of [] = Some []
marked_of (w ∷ ws) = both (λ p walk. marked_made p ∷ walk) (marked_at w) (marked_of ws)

-- the spelling first, then the limits
abbrev pub marked_within : Option (List MarkedRow) → Result (List MarkedRow) LineFault
marked_within None = Err Number
marked_within (Some walk) = if are_named walk then Ok walk else Err Limit

-- how many they are, behind n others
abbrev pub counted_marked : ℕ → Bool → Option (List MarkedRow) → Result ℕ LineFault
counted_marked n within None = Err Number
counted_marked n within (Some walk) = if within && are_named walk then Ok (n + length walk) else Err Limit

-- how many they are, behind no others
abbrev pub count_of_marked : Option (List MarkedRow) → Result ℕ LineFault
count_of_marked o = counted_marked 0 true o

-- ---- the marked rows that are left in a line that was judged

-- the marked rows that words spell, none where they spell no such rows
abbrev pub marked_left : Option (List MarkedRow) → List MarkedRow
marked_left None = []
marked_left (Some walk) = walk

-- whether words spell marked rows with numbers that rows may have
abbrev pub marked_are_good : Option (List MarkedRow) → Bool
marked_are_good None = false
marked_are_good (Some walk) = are_named walk

-- the words spell marked rows within their limits, and so many
pub record MarkedAreGood (rows : Option (List MarkedRow)) (number : ℕ) : Type 0 where
  pub good : marked_are_good rows ≡ true
  pub count : number ≡ length (marked_left rows)
  pub short : number ≤ MOST_WORDS

-- the first of the rows and the others, or there is none
abbrev pub BeginsMarked : Option MarkedRow → Option (List MarkedRow) → Option (List MarkedRow) → Type 0
BeginsMarked r all rest = (marked_are_good rest ≡ true)
    × MatchOption r ((marked_left all ≡ []) × (marked_left rest ≡ [])) (λ x. marked_left all ≡ x ∷ marked_left rest)
