-- Sets of numbers below the period as bits of 64-bit words, each set from a word's first bit on.
use Rattle.std.specs.Prelude.{ℕ, ◌+◌, ◌*◌, ◌/◌, ◌%◌, List, slice_index, nat_eq, nat_lt, Bool, ◌&&◌}
use Rattle.std.specs.Int.{bit_at}
use Rattle.pesp_problem.specs.Families.{Family}

-- the bit of a place
unfoldable pub is_set : List ℕ → ℕ → Bool
is_set words place = nat_eq (bit_at (slice_index words (place / 64)) (place % 64)) 1

-- how far the sets of two events are apart: the period, made up to whole words
unfoldable pub padded_period : ℕ → ℕ
padded_period period = (period + 63) / 64 * 64

-- the sets of the events in order
unfoldable pub family_at : ℕ → List ℕ → Family
family_at period words event difference = nat_lt difference period && is_set words (event * padded_period period + difference)
