-- Sets of numbers below a period of at most 64, each as the bits of one word.
use Rattle.std.specs.Prelude.{◌≡◌, ◌≢◌, ℕ, ◌+◌, ◌%◌, ◌<◌, ◌≤◌, List, slice_index, min}
use Rattle.std.specs.Int.{bit_at}

-- the numbers of a word below the period
pub record IsCutBelow (period word new : ℕ) : Type 0 where
  pub inside : (d : ℕ) → d < period → bit_at new d ≡ bit_at word d
  pub above : (d : ℕ) → period ≤ d → bit_at new d ≡ 0

-- each number moved down by a shift, round the period
pub record IsTurned (period shift old new : ℕ) : Type 0 where
  pub inside : (d : ℕ) → d < period → bit_at new d ≡ bit_at old ((d + shift) % period)
  pub above : (d : ℕ) → period ≤ d → bit_at new d ≡ 0

-- one of so many shifts leads, round the period, to a number of the set
abbrev pub LeadsInto : ℕ → ℕ → ℕ → ℕ → ℕ → Type 0
LeadsInto period first count set d = (j : ℕ) × (j < count) × (bit_at set ((d + (first + j)) % period) ≡ 1)

-- exactly the numbers from which a shift leads to one of the set
pub record HavePartners (period first count set new : ℕ) : Type 0 where
  pub found : (d : ℕ) → bit_at new d ≡ 1 → LeadsInto period first count set d
  pub all : (d : ℕ) → d < period → LeadsInto period first count set d → bit_at new d ≡ 1
  pub above : (d : ℕ) → period ≤ d → bit_at new d ≡ 0

-- of one event's numbers those among others were kept, and nothing else is changed below the period
pub record SetIsKept (period event others : ℕ) (old new : List ℕ) : Type 0 where
  pub else : (i : ℕ) → i ≢ event → slice_index new i ≡ slice_index old i
  pub bits : (d : ℕ) → d < period → bit_at (slice_index new event) d ≡ min (bit_at (slice_index old event) d) (bit_at others d)
