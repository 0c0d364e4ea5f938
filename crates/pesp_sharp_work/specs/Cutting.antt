-- Texts of works that stand one behind the other.
use Rattle.std.specs.Prelude.{◌≡◌, ℕ, List, [], ◌∷◌, ◌++◌, codes, Bool, false, ◌||◌, if◌then◌else◌}
use Rattle.std.specs.Str.{bytes_eq}
use Rattle.pesp_stream.specs.Words.{pieces}

-- the first piece is the first line of a front
abbrev pub begins_with_front : List (List ℕ) → Bool
begins_with_front [] = false
begins_with_front (piece ∷ pieces) = bytes_eq piece (codes "pesp-certificate 3")

-- What stands behind the first line `end`, or from a piece on further down with which a front begins. Pieces stand between line
-- feeds; the last one has none behind it and is no line.
abbrev pub behind_work : List (List ℕ) → List (List ℕ)
behind_work [] = []
behind_work (piece ∷ []) = [] ∷ []
behind_work (line ∷ next ∷ more) =
    if bytes_eq line (codes "end") || begins_with_front (next ∷ more) then next ∷ more else behind_work (next ∷ more)

-- a text is that of a work and a rest
abbrev pub IsTextCut : List ℕ → List ℕ → List ℕ → Type 0
IsTextCut text work rest = (text ≡ work ++ rest) × (pieces 10 rest ≡ behind_work (pieces 10 text))
