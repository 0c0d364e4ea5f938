-- Families of sets of time differences, one for each event, and what it means that the rows support them.
use Rattle.std.specs.Prelude.{◌≡◌, ℕ, ◌<◌, ◌≤◌, List, length, Bool, true, pos, ◌-ℤ◌}
use Rattle.pesp_problem.specs.declared.arc.Arc.{Arc}
use Rattle.pesp_problem.specs.Timetables.{remainder}
use Rattle.pesp_problem.specs.Arcs.{Net, arc_at}
use Rattle.pesp_problem.specs.Nodes.{slack_range}
use Rattle.pesp_problem.specs.Forests.{IsFirstOf}

-- for each event, which differences to the first event of its component are in its set
abbrev pub Family : Type 0
Family = ℕ → ℕ → Bool

-- the differences lie below the period, and a component's first event has 0 alone
pub record IsFamily (n : Net) (events : ℕ) (s : Family) : Type 0 where
  pub below : (event difference : ℕ) → event < events → s event difference ≡ true → difference < n.period
  pub first : (event difference : ℕ) → event < events → IsFirstOf n.arcs event event → s event difference ≡ true → difference ≡ 0

-- the arc's remainder between two differences
abbrev pub remainder_of : ℕ → Arc → ℕ → ℕ → ℕ
remainder_of period arc at_tail at_head = remainder period (pos at_head -ℤ pos at_tail -ℤ arc.lower)

-- the remainder is in the range; at a loop the two differences are one
pub record ArePartners (period : ℕ) (arc : Arc) (range : ℕ × ℕ) (at_tail at_head : ℕ) : Type 0 where
  pub low : range.0 ≤ remainder_of period arc at_tail at_head
  pub high : remainder_of period arc at_tail at_head ≤ range.1
  pub loop : arc.tail ≡ arc.head → at_tail ≡ at_head

-- each difference at one end has a partner at the other
pub record IsSupportedBy (period : ℕ) (arc : Arc) (range : ℕ × ℕ) (s : Family) : Type 0 where
  pub tails : (at_tail : ℕ) → s arc.tail at_tail ≡ true
      → (at_head : ℕ) × (s arc.head at_head ≡ true) × ArePartners period arc range at_tail at_head
  pub heads : (at_head : ℕ) → s arc.head at_head ≡ true
      → (at_tail : ℕ) × (s arc.tail at_tail ≡ true) × ArePartners period arc range at_tail at_head

-- every arc supports the family under its slack range
abbrev pub IsSupported : Net → List (ℕ × ℕ) → Family → Type 0
IsSupported n ranges s = (i : ℕ) → i < length n.arcs → IsSupportedBy n.period (arc_at n.arcs i) (slack_range ranges i) s

-- each set lies in the other family's set
abbrev pub IsWithin : Family → Family → Type 0
IsWithin s t = (event difference : ℕ) → s event difference ≡ true → t event difference ≡ true

-- no set is empty
abbrev pub HasNoEmpty : ℕ → Family → Type 0
HasNoEmpty events s = (event : ℕ) → event < events → (difference : ℕ) × (s event difference ≡ true)

-- no family without an empty set is supported
abbrev pub NoFamilyIsSupported : Net → List (ℕ × ℕ) → ℕ → Type 0
NoFamilyIsSupported n ranges events = (s : Family) → IsFamily n events s → IsSupported n ranges s → HasNoEmpty events s → ⊥
