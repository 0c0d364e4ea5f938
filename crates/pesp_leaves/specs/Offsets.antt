-- The ranges of slacks that the code takes, and the offsets that they allow.
use Rattle.std.specs.Prelude.{◌≡◌, ℕ, ◌≤◌, List, length, ℤ, pos, ◌*ℤ◌, unsigned_abs}
use Rattle.pesp_problem.specs.Ranges.{AreSlackEnds}

-- a slack range for each of n rows, with ends that a cut can make
abbrev pub AreSlackRanges : ℕ → List (ℕ × ℕ) → Type 0
AreSlackRanges n slacks = (length slacks ≡ n) × AreSlackEnds slacks

-- the period times an offset is no more than a sum along a walk
abbrev pub IsSmallOffset : ℕ → ℤ → Type 0
IsSmallOffset period z = unsigned_abs (pos period *ℤ z) ≤ 10100000000000
