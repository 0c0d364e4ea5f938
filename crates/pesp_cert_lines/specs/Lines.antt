-- One line at its place: what it says, or its first fault.
use Rattle.std.specs.Prelude.{◌≡◌, ℕ, Bool, true, false, ◌&&◌, not, ◌==◌, if◌then◌else◌, Option, Some, None, Result, Ok, Err, List, [], ◌∷◌, codes}
use Rattle.std.specs.Str.{bytes_eq}
use Rattle.pesp_stream.specs.Words.{words_of, line_of_words, has_empty}
use Rattle.pesp_cert_lines.specs.declared.kind.Kind.{Kind}
use Rattle.pesp_cert_lines.specs.declared.kind.Kind.TheVariants as kinds
use Rattle.pesp_cert_lines.specs.declared.fault.LineFault.{LineFault}
use Rattle.pesp_cert_lines.specs.declared.fault.LineFault.TheVariants as faults
use Rattle.pesp_cert_lines.specs.declared.item.Item.{Item}
use Rattle.pesp_cert_lines.specs.declared.item.Item.TheVariants.{Front}
use Rattle.pesp_cert_lines.specs.declared.progress.Progress.{Progress}
use Rattle.pesp_cert_lines.specs.Items.{kind_of, is_form, item_of, item_words, checked}
use Rattle.pesp_cert_lines.specs.Counts.{is_in_front, is_behind_front, allows, progress_after, keeps_counts, CanStand}

-- the longest line, in bytes before its LF
abbrev pub LONGEST : ℕ
LONGEST = 100000000

-- any fault of a line that has to be right is one of its form
abbrev pub as_line : Bool → Result Item LineFault → Result Item LineFault
as_line true (Ok item) = Ok item
as_line true (Err f) = Err faults.Line
as_line false r = r

-- what the words behind the first say, where a line of their kind may stand there and they have its form
abbrev pub kind_judged : Progress → List (List ℕ) → Option Kind → Result Item LineFault
kind_judged p ws None = Err faults.Line
kind_judged p ws (Some k) = if allows p k && is_form k ws then as_line (is_behind_front p.place p.shows k) (checked (item_of k ws)) else Err faults.Line

-- the first fault of the form, then of the numbers
abbrev pub words_judged : Progress → List (List ℕ) → Result Item LineFault
words_judged p [] = Err faults.Line
words_judged p (w ∷ ws) = if has_empty (w ∷ ws) then Err faults.Line else kind_judged p ws (kind_of w)

-- then of the counts
abbrev pub counted : Progress → Result Item LineFault → Result Item LineFault
counted p (Err f) = Err f
counted p (Ok item) = if keeps_counts (progress_after p item) then Ok item else Err faults.Limit

-- the first line of version 3, where it may stand
abbrev pub begins_front : Progress → List ℕ → Bool
begins_front p line = allows p kinds.Front && bytes_eq line (codes "pesp-certificate 3")

-- the end of a certificate whose tree isn't whole
abbrev pub is_cut : Progress → List ℕ → Bool
is_cut p line = bytes_eq line (codes "end") && not (p.needs == 0) && not (is_in_front p.place p.shows)

-- what a line says at its place without the counts, or its first fault
abbrev pub line_judged : Progress → List ℕ → Result Item LineFault
line_judged p line = if begins_front p line then Ok Front else words_judged p (words_of line)

-- what a line says at its place, or its first fault
unfoldable pub line_at : Progress → List ℕ → Result Item LineFault
line_at p line = if is_cut p line then Err faults.Truncated else counted p (line_judged p line)

-- ---- the same in words of the spelling

-- the line is the item's spelling, and the item may stand there
abbrev pub SpellsItem : Progress → List ℕ → Item → Type 0
SpellsItem p line item = (line ≡ line_of_words (item_words item)) × CanStand p item

-- what is read is spelt so, and what is spelt so is read
abbrev pub ReadsLine : Progress → List ℕ → Result Item LineFault → Type 0
ReadsLine p line r = (item : Item) → (r ≡ Ok item → SpellsItem p line item) × (SpellsItem p line item → r ≡ Ok item)
