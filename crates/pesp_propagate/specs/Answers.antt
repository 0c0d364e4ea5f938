-- What propagation answers, and the differences of times.
use Rattle.std.specs.Prelude.{◌≡◌, ℕ, ◌<◌, List, true}
use Rattle.pesp_problem.specs.Arcs.{Net}
use Rattle.pesp_problem.specs.Timetables.{remainder, difference}
use Rattle.pesp_problem.specs.Families.{Family, IsSupported, IsWithin, HasNoEmpty}
use Rattle.pesp_problem.specs.Forests.{IsFirstOf}
use Rattle.pesp_domains.specs.declared.outcome.Outcome.{Outcome}
use Rattle.pesp_domains.specs.declared.outcome.Outcome.TheVariants.{Stable, Empty}

-- within these sets there is no supported family without an empty set
abbrev pub HasNone : Net → List (ℕ × ℕ) → ℕ → Family → Type 0
HasNone n ranges events sets = (s : Family) → IsSupported n ranges s → IsWithin s sets → HasNoEmpty events s → ⊥

-- the answer is that a set is empty
abbrev pub TellsEmpty : Outcome → Type 0
TellsEmpty Stable = ⊥
TellsEmpty (Empty event) = Unit {0}

-- each event's set has the difference, round the period, of its time to that of its component's first event
abbrev pub HasDifferences : Net → ℕ → List ℕ → Family → Type 0
HasDifferences n events times s = (event first : ℕ) → event < events → IsFirstOf n.arcs event first
    → s event (remainder n.period (difference times first event)) ≡ true
