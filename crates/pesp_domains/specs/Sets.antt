-- Sets of differences as rows of words, one row for each event, and what one arc takes from them.
use Rattle.std.specs.Prelude.{◌≡◌, ◌≢◌, ℕ, ◌+◌, ◌*◌, ◌<◌, ◌≤◌, List, slice_range, nat_eq, sum, Bool, true, false}
use Rattle.pesp_problem.specs.declared.arc.Arc.{Arc}
use Rattle.pesp_problem.specs.Families.{Family, IsSupportedBy, IsWithin}
use Rattle.pesp_domains.specs.Bits.{bit, KeepsSupported}

-- the words of an event's set
abbrev pub set_of : ℕ → List ℕ → ℕ → List ℕ
set_of width words event = slice_range words (event * width) (event * width + width)

-- the differences whose bits are set
abbrev pub family : ℕ → List ℕ → Family
family width words event difference = nat_eq (bit (set_of width words event) difference) 1

-- no bit from the period on
abbrev pub IsClear : ℕ → ℕ → List ℕ → Type 0
IsClear period width words = (event difference : ℕ) → period ≤ difference → bit (set_of width words event) difference ≡ 0

-- one set was narrowed, and no other
pub record Narrows (period width kept other first count : ℕ) (old new : List ℕ) : Type 0 where
  pub here : KeepsSupported period first count (set_of width old kept) (set_of width old other) (set_of width new kept)
  pub else : (event : ℕ) → event ≢ kept → set_of width new event ≡ set_of width old event

-- an arc's ends were narrowed to what it supports, and nothing else was lost
pub record Revises (period width : ℕ) (arc : Arc) (range : ℕ × ℕ) (old new : List ℕ) : Type 0 where
  pub supported : IsSupportedBy period arc range (family width new)
  pub within : IsWithin (family width new) (family width old)
  pub keeps : (s : Family) → IsSupportedBy period arc range s → IsWithin s (family width old) → IsWithin s (family width new)

-- no other set was changed; at each end it is known whether the set is another, and then the words have a smaller sum
pub record Changes (width : ℕ) (arc : Arc) (old new : List ℕ) (tail head : Bool) : Type 0 where
  pub else : (event : ℕ) → event ≢ arc.tail → event ≢ arc.head → set_of width new event ≡ set_of width old event
  pub tail_same : tail ≡ false → set_of width new arc.tail ≡ set_of width old arc.tail
  pub head_same : head ≡ false → set_of width new arc.head ≡ set_of width old arc.head
  pub tail_less : tail ≡ true → sum new < sum old
  pub head_less : head ≡ true → sum new < sum old
  pub most : sum new ≤ sum old
