-- What is known of the sets while rows are visited. n is the net, its ranges are those of a node.
use Rattle.std.specs.Prelude.{◌≡◌, ℕ, ◌+◌, ◌<◌, ◌≤◌, List, Option, Some, None, length, slice_index_or, sum, Bool, true, false}
use Rattle.pesp_problem.specs.declared.arc.Arc.{Arc}
use Rattle.pesp_problem.specs.Arcs.{Net, arc_at}
use Rattle.pesp_problem.specs.Nodes.{slack_range}
use Rattle.pesp_problem.specs.Families.{Family, IsFamily, IsSupportedBy, IsSupported, HasNoEmpty, NoFamilyIsSupported}
use Rattle.pesp_truth.specs.declared.rounds.Round.{Round}
use Rattle.pesp_truth.specs.declared.rounds.Round.TheVariants.{Emptied, Narrowed, Settled}
use Rattle.pesp_truth.specs.Sets.{family_at}

-- the net of these arcs and this period
abbrev pub net_at : ℕ → List Arc → Net
net_at period arcs = record { period = period; arcs = arcs }

-- a family without an empty set, in which every other lies that the rows support
pub record IsWide (n : Net) (ranges : List (ℕ × ℕ)) (events : ℕ) (sets : Family) : Type 0 where
  pub family : IsFamily n events sets
  pub some : HasNoEmpty events sets
  pub keeps : (s : Family) → IsFamily n events s → IsSupported n ranges s → HasNoEmpty events s
      → (event difference : ℕ) → event < events → s event difference ≡ true → sets event difference ≡ true

-- the mark of an event
abbrev pub is_marked : List Bool → ℕ → Bool
is_marked marks event = slice_index_or marks event false

-- no end of the row is marked
abbrev pub IsQuiet : List Bool → Arc → Type 0
IsQuiet marks arc = (is_marked marks arc.tail ≡ false) × (is_marked marks arc.head ≡ false)

-- each row without a marked end supports the sets
abbrev pub QuietRowsSupport : Net → List (ℕ × ℕ) → List Bool → Family → Type 0
QuietRowsSupport n ranges marks sets = (i : ℕ) → i < length n.arcs → IsQuiet marks (arc_at n.arcs i)
    → IsSupportedBy n.period (arc_at n.arcs i) (slack_range ranges i) sets

-- what a round shows
abbrev pub IsRound : Net → List (ℕ × ℕ) → ℕ → List ℕ → List ℕ → List Bool → Round → Type 0
IsRound n ranges events old new marks Emptied = NoFamilyIsSupported n ranges events
IsRound n ranges events old new marks Narrowed = IsWide n ranges events (family_at n.period new)
    × QuietRowsSupport n ranges marks (family_at n.period new) × (sum new < sum old)
IsRound n ranges events old new marks Settled = IsWide n ranges events (family_at n.period new)
    × IsSupported n ranges (family_at n.period new)

-- rows before a place that have no marked end now, and rows from there on that have none now and had none before
pub record InRound (n : Net) (ranges : List (ℕ × ℕ)) (before now : List Bool) (i : ℕ) (sets : Family) : Type 0 where
  pub done : (k : ℕ) → k < i → IsQuiet now (arc_at n.arcs k) → IsSupportedBy n.period (arc_at n.arcs k) (slack_range ranges k) sets
  pub left : (k : ℕ) → i ≤ k → k < length n.arcs → IsQuiet before (arc_at n.arcs k) → IsQuiet now (arc_at n.arcs k)
      → IsSupportedBy n.period (arc_at n.arcs k) (slack_range ranges k) sets

-- a row was visited where that may take something away
pub record Stepped (n : Net) (ranges : List (ℕ × ℕ)) (events : ℕ) (before was now : List Bool) (i : ℕ)
    (old new : List ℕ) (changed : Bool) : Type 0 where
  pub wide : IsWide n ranges events (family_at n.period new)
  pub round : InRound n ranges before now (i + 1) (family_at n.period new)
  pub less : changed ≡ true → sum new < sum old
  pub most : sum new ≤ sum old
  pub marks : changed ≡ false → (event : ℕ) → is_marked was event ≡ false → is_marked now event ≡ false

-- what a step at a row shows: that no family is supported, or what is known of the sets
abbrev pub IsRoundStep : Net → List (ℕ × ℕ) → ℕ → List Bool → List Bool → List Bool → ℕ → List ℕ → List ℕ → Option Bool → Type 0
IsRoundStep n ranges events before was now i old new None = NoFamilyIsSupported n ranges events
IsRoundStep n ranges events before was now i old new (Some changed) = Stepped n ranges events before was now i old new changed
