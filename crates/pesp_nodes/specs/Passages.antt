-- How the cycles of a table pass a row, and the multipliers of pairs by cycle.
use Rattle.std.specs.Prelude.{◌≡◌, ℕ, ◌+◌, ◌<◌, ◌≤◌, ◌⊎◌, List, [], ◌∷◌, ◌++◌, fold, length, slice_index_or, ℤ, pos, ◌+ℤ◌, unsigned_abs, All, if◌then◌else◌, ◌==◌}
use Rattle.pesp_problem.specs.declared.limits.TheConstants.{MOST_SIGNED_ROWS}
use Rattle.pesp_problem.specs.declared.row.SignedRow.{SignedRow}
use Rattle.pesp_problem.specs.declared.pair.Pair.{Pair}
use Rattle.pesp_problem.specs.Sums.{sum_below}
use Rattle.pesp_problem.specs.Walks.{net_count}
use Rattle.pesp_problem.specs.Nodes.{cycle_at}
use Rattle.pesp_nodes.specs.declared.passages.Passage.{Passage}

-- the sum of a term over a row's passages
abbrev pub sum_over : (ℕ → ℤ → ℤ) → List Passage → ℤ
sum_over term passages = fold (λ z e. z +ℤ term e.cycle e.count) (pos 0) passages

-- the passages of the row at place i
abbrev pub passages_at : List (List Passage) → ℕ → List Passage
passages_at by_row i = slice_index_or by_row i []

-- the passages of the row at place i by the first m cycles: what is 0 at 0 has the same sum over them as over these cycles
abbrev pub ArePassagesOf : ℕ → List (List SignedRow) → ℕ → List Passage → Type 0
ArePassagesOf m walks i passages = (term : ℕ → ℤ → ℤ) → ((c : ℕ) → term c (pos 0) ≡ pos 0)
    → sum_over term passages ≡ sum_below m (λ c. term (c + 1) (net_count (cycle_at walks c) i))

-- passages of cycles before this one, with small counts
abbrev pub AreBefore : ℕ → List Passage → Type 0
AreBefore cycle passages = All (λ e. (1 ≤ e.cycle) × (e.cycle < cycle) × (unsigned_abs e.count ≤ MOST_SIGNED_ROWS)) passages

-- a cycle passes the row so often: one passage more, or none where the count is 0
abbrev pub IsPassed : ℕ → ℤ → List Passage → List Passage → Type 0
IsPassed cycle count before after = ((after ≡ before) × (count ≡ pos 0)) ⊎ (after ≡ before ++ record { cycle = cycle; count = count } ∷ [])

-- the passages of each of n rows by the first m cycles
pub record ArePassages (n m : ℕ) (walks : List (List SignedRow)) (by_row : List (List Passage)) : Type 0 where
  pub long : length by_row ≡ n
  pub each : (i : ℕ) → i < n → ArePassagesOf m walks i (passages_at by_row i)

-- the multiplier that the pairs give to a cycle, 0 where none names it
abbrev pub mult_of : List Pair → ℕ → ℤ
mult_of [] c = pos 0
mult_of (pair ∷ pairs) c = (if pair.cycle == c then pair.mult else pos 0) +ℤ mult_of pairs c
