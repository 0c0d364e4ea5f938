-- The words of a line.
use Rattle.std.specs.Prelude.{ℕ, Bool, false, ◌||◌, ◌==◌, List, [], ◌∷◌, ◌++◌, Option, Some, None, length, if◌then◌else◌}
use Rattle.std.specs.List.{slice_split}

-- whether b is the byte c
abbrev pub is_byte : ℕ → ℕ → Bool
is_byte c b = b == c

-- the pieces between the bytes c
abbrev pub pieces : ℕ → List ℕ → List (List ℕ)
pieces c text = slice_split (is_byte c) text

-- the words between single spaces
abbrev pub words_of : List ℕ → List (List ℕ)
words_of line = pieces 32 line

-- each word behind a space
abbrev pub spaced : List (List ℕ) → List ℕ
spaced [] = []
spaced (w ∷ ws) = (32 ∷ w) ++ spaced ws

-- the line of these words
abbrev pub line_of_words : List (List ℕ) → List ℕ
line_of_words [] = []
line_of_words (w ∷ ws) = w ++ spaced ws

-- whether one of the words is empty
abbrev pub has_empty : List (List ℕ) → Bool
has_empty [] = false
has_empty (w ∷ ws) = length w == 0 || has_empty ws

-- how many words there are, if none is empty
abbrev pub word_count : List (List ℕ) → Option ℕ
word_count ws = if has_empty ws then None else Some (length ws)

-- the pieces of what is left, if anything is
abbrev pub pieces_left : ℕ → Option (List ℕ) → List (List ℕ)
pieces_left c None = []
pieces_left c (Some text) = pieces c text

-- the pieces but for a last one that is empty
abbrev pub but_empty_end : List (List ℕ) → List (List ℕ)
but_empty_end [] = []
but_empty_end (p ∷ []) = if length p == 0 then [] else p ∷ []
but_empty_end (p ∷ q ∷ ps) = p ∷ but_empty_end (q ∷ ps)

-- the lines of a text, each without its LF; a last line without LF counts
abbrev pub lines_of_text : List ℕ → List (List ℕ)
lines_of_text text = but_empty_end (pieces 10 text)
