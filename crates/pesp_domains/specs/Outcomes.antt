-- What propagation makes of sets of differences.
use Rattle.std.specs.Prelude.{◌≡◌, ℕ, ◌<◌, List, false}
use Rattle.pesp_problem.specs.Arcs.{Net}
use Rattle.pesp_problem.specs.Families.{Family, IsSupported, IsWithin, HasNoEmpty}
use Rattle.pesp_domains.specs.declared.outcome.Outcome.{Outcome}
use Rattle.pesp_domains.specs.declared.outcome.Outcome.TheVariants.{Stable, Empty}

-- the sets only shrank, and every supported family that was within them still is
pub record Shrinks (n : Net) (ranges : List (ℕ × ℕ)) (old new : Family) : Type 0 where
  pub within : IsWithin new old
  pub keeps : (s : Family) → IsSupported n ranges s → IsWithin s old → IsWithin s new

-- no set is empty, or this event's set is
abbrev pub IsOutcome : ℕ → Family → Outcome → Type 0
IsOutcome events s Stable = HasNoEmpty events s
IsOutcome events s (Empty event) = (event < events) × ((difference : ℕ) → s event difference ≡ false)

-- a stable answer leaves a supported family
abbrev pub LeavesSupported : Net → List (ℕ × ℕ) → Family → Outcome → Type 0
LeavesSupported n ranges s Stable = IsSupported n ranges s
LeavesSupported n ranges s (Empty event) = Unit {0}
