-- A set is narrowed to what has a partner in another.
use Rattle.std.specs.Prelude.{◌≡◌, ◌≢◌, ℕ, ◌+◌, ◌*◌, ◌%◌, ◌<◌, ◌≤◌, List, true, false}
use Rattle.pesp_problem.specs.Families.{Family}
use Rattle.pesp_truth.specs.Sets.{is_set, padded_period}

-- one of so many shifts leads, round the period, to a difference of the other event
abbrev pub HasPartner : ℕ → ℕ → ℕ → ℕ → Family → ℕ → Type 0
HasPartner period other first count s d = (j : ℕ) × (j < count) × (s other ((d + (first + j)) % period) ≡ true)

-- of one event's set exactly what has a partner is kept, and every other set is the same
pub record NarrowsFamily (period kept other first count : ℕ) (old new : Family) : Type 0 where
  pub else : (event d : ℕ) → event ≢ kept → new event d ≡ old event d
  pub was : (d : ℕ) → new kept d ≡ true → old kept d ≡ true
  pub found : (d : ℕ) → new kept d ≡ true → HasPartner period other first count old d
  pub all : (d : ℕ) → old kept d ≡ true → HasPartner period other first count old d → new kept d ≡ true

-- the least difference of an event, the period where there is none
pub record IsLeast (period event : ℕ) (s : Family) (least : ℕ) : Type 0 where
  pub most : least ≤ period
  pub below : (d : ℕ) → d < least → s event d ≡ false
  pub found : least < period → s event least ≡ true

-- of one event's set the difference from which a shift leads to a place was taken away, and nothing else was
pub record IsTaken (period kept shift place : ℕ) (old new : List ℕ) : Type 0 where
  pub difference : ℕ
  pub below : difference < period
  pub leads : (difference + shift) % period ≡ place
  pub gone : is_set new (kept * padded_period period + difference) ≡ false
  pub others : (other : ℕ) → other ≢ kept * padded_period period + difference → is_set new other ≡ is_set old other
