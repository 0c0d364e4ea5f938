-- Flows of rows, and what a row's slack costs beyond its flow and the gains.
use Rattle.std.specs.Prelude.{ℕ, ◌<◌, ◌≤◌, ◌^◌, List, length, slice_index_or, ℤ, pos, ◌-ℤ◌, ◌*ℤ◌, unsigned_abs, All}
use Rattle.std.specs.Int.{int_min}
use Rattle.pesp_problem.specs.declared.limits.TheConstants.{MOST_LOWER, MOST_ROWS, MOST_WEIGHT}
use Rattle.pesp_problem.specs.declared.arc.Arc.{Arc}
use Rattle.pesp_problem.specs.declared.rates.Rates.{Rates}

-- the number at a place, 0 past the end
abbrev pub number_at : List ℤ → ℕ → ℤ
number_at numbers i = slice_index_or numbers i (pos 0)

-- arcs of an instance, with bounds and weights within its limits
pub record AreSmallArcs (arcs : List Arc) : Type 0 where
  pub most : length arcs ≤ MOST_ROWS
  pub each : All (λ arc. (unsigned_abs arc.lower ≤ MOST_LOWER) × (arc.weight ≤ MOST_WEIGHT)) arcs

-- flows that a leaf can have
abbrev pub AreSmallFlows : List ℤ → Type 0
AreSmallFlows flows = (i : ℕ) → i < length flows → unsigned_abs (number_at flows i) ≤ 10 ^ 24

-- the lesser excess at the two ends of a range, by what the slack costs beyond the flow
abbrev pub lesser_excess : ℤ → ℕ × ℕ → Rates → ℤ
lesser_excess left range rates =
    int_min
    (left *ℤ pos range.0 -ℤ rates.flipped *ℤ (pos range.1 -ℤ pos range.0))
    (left *ℤ pos range.1 -ℤ rates.plain *ℤ (pos range.1 -ℤ pos range.0))
