-- Working numbers that hold the net counts of a walk, and the places of those that are not 0.
use Rattle.std.specs.Prelude.{◌≡◌, ◌≢◌, ◌⊎◌, ℕ, ◌<◌, ◌==◌, List, [], ◌∷◌, ◌++◌, count_by, length, slice_index_or, ℤ, pos, All}
use Rattle.pesp_problem.specs.declared.row.SignedRow.{SignedRow}
use Rattle.pesp_problem.specs.Walks.{net_count}

-- the numbers are the net counts of a walk
abbrev pub AreCounts : List SignedRow → List ℤ → Type 0
AreCounts walk numbers = (i : ℕ) → i < length numbers → slice_index_or numbers i (pos 0) ≡ net_count walk i

-- one more place, unless its number is not 0: then it is among them
abbrev pub IsEntered : List ℕ → List ℕ → ℕ → ℤ → Type 0
IsEntered places places' place number = ((number ≢ pos 0) × (places' ≡ places)) ⊎ (places' ≡ places ++ place ∷ [])

-- the places of all numbers that are not 0
pub record ArePlaces (places : List ℕ) (numbers : List ℤ) : Type 0 where
  pub inside : All (λ place. place < length numbers) places
  pub named : (i : ℕ) → i < length numbers → count_by (λ place. place == i) places ≡ 0 → slice_index_or numbers i (pos 0) ≡ pos 0
