-- What a visit of one row does to the sets at its ends.
use Rattle.std.specs.Prelude.{◌≡◌, ◌≢◌, ℕ, ◌<◌, true, false, List, sum, ◌≤◌, Option, Some, None}
use Rattle.pesp_problem.specs.declared.arc.Arc.{Arc}
use Rattle.pesp_problem.specs.Families.{Family, IsSupportedBy, IsWithin}
use Rattle.pesp_truth.specs.declared.visit.Narrowed.{Narrowed}
use Rattle.pesp_truth.specs.Sets.{family_at}

-- an event has a difference
abbrev pub HasSome : Family → ℕ → Type 0
HasSome s event = (difference : ℕ) × (s event difference ≡ true)

-- of two families the one's sets at both ends of a row lie in the other's
abbrev pub LiesAt : Arc → Family → Family → Type 0
LiesAt arc s t = (difference : ℕ) → ((s arc.tail difference ≡ true) → t arc.tail difference ≡ true)
    × ((s arc.head difference ≡ true) → t arc.head difference ≡ true)

-- no family that the row supports lies, at its ends, in the sets without being empty at one
abbrev pub RefutesAt : ℕ → Arc → ℕ × ℕ → Family → Type 0
RefutesAt period arc range sets = (s : Family) → IsSupportedBy period arc range s → LiesAt arc s sets
    → HasSome s arc.tail → HasSome s arc.head → ⊥

-- the row supports the sets at its ends, and nothing else was taken away
pub record RevisesFamily (period : ℕ) (arc : Arc) (range : ℕ × ℕ) (old new : Family) : Type 0 where
  pub supported : IsSupportedBy period arc range new
  pub within : IsWithin new old
  pub keeps : (s : Family) → IsSupportedBy period arc range s → LiesAt arc s old → LiesAt arc s new
  pub else : (event difference : ℕ) → event ≢ arc.tail → event ≢ arc.head → new event difference ≡ old event difference

-- at each end it is known whether the set is another, and then the words have a smaller sum
pub record TellsEnds (period : ℕ) (arc : Arc) (old new : List ℕ) (narrowed : Narrowed) : Type 0 where
  pub tail : narrowed.tail ≡ false → (difference : ℕ) → family_at period new arc.tail difference ≡ family_at period old arc.tail difference
  pub head : narrowed.head ≡ false → (difference : ℕ) → family_at period new arc.head difference ≡ family_at period old arc.head difference
  pub less_tail : narrowed.tail ≡ true → sum new < sum old
  pub less_head : narrowed.head ≡ true → sum new < sum old
  pub most : sum new ≤ sum old

-- the sets at both ends were narrowed and are not empty
pub record IsNarrowed (period : ℕ) (arc : Arc) (range : ℕ × ℕ) (old new : List ℕ) (narrowed : Narrowed) : Type 0 where
  pub revises : RevisesFamily period arc range (family_at period old) (family_at period new)
  pub tells : TellsEnds period arc old new narrowed
  pub some_tail : HasSome (family_at period new) arc.tail
  pub some_head : HasSome (family_at period new) arc.head

-- the row refutes the sets, or they were narrowed
abbrev pub IsVisit : ℕ → Arc → ℕ × ℕ → List ℕ → List ℕ → Option Narrowed → Type 0
IsVisit period arc range old new None = RefutesAt period arc range (family_at period old)
IsVisit period arc range old new (Some narrowed) = IsNarrowed period arc range old new narrowed
