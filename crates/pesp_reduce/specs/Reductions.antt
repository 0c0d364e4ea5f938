-- Reduced networks, and what they keep of the instance.
use Rattle.std.specs.Prelude.{◌≡◌, ℕ, ◌+◌, ◌-◌, ◌<◌, List, length, map, pos, ◌+ℤ◌, ◌-ℤ◌, ◌↔◌, All, Contains, true, slice_index}
use Rattle.std.specs.List.Sorted.{IsStrictlyIncreasing}
use Rattle.pesp_problem.specs.declared.row.SignedRow.{SignedRow}
use Rattle.pesp_problem.specs.Timetables.{Pesp}
use Rattle.pesp_problem.specs.Arcs.{arc_at, arcs_of}
use Rattle.pesp_problem.specs.Walks.{AreRows, Leads, IsWalk, net_count, Names}
use Rattle.pesp_problem.specs.Forests.{IsBridge}
use Rattle.pesp_network.specs.Networks.{NetworkValue, net_row_at, arcs_of_network}
use Rattle.pesp_reduce.specs.declared.fate.Fate.{Fate}
use Rattle.pesp_reduce.specs.declared.fate.Fate.TheVariants.{Free, Contracted, Bridge, Kept}
use Rattle.pesp_reduce.specs.declared.contraction.Contraction.{Contraction}
use Rattle.pesp_problem.specs.Congruences.{IsSame}
use Rattle.pesp_reduce.specs.Rows.{IsFree, flag}
use Rattle.pesp_reduce.specs.Contracting.{IsContraction}
use Rattle.pesp_reduce.specs.Fates.{fate_at, mapped_row, kept_below}

-- an instance, what becomes of each of its rows, for each of its events the event that it becomes and how much later it
-- is than that one, and the network that is left
pub record ReducedValue : Type 0 where
  pub original : Pesp
  pub fates : List Fate
  pub stands : List ℕ
  pub shifts : List ℕ
  pub network : NetworkValue

-- each walk without free rows of weight 0 passes the row at a place as often one way as the other
abbrev pub IsOnNoCycle : Pesp → ℕ → Type 0
IsOnNoCycle p i = (walk : List SignedRow) → IsWalk (arcs_of p) walk
    → All (λ s. IsFree p.period (arc_at (arcs_of p) (s.row - 1)) → ⊥) walk → net_count walk i ≡ pos 0

-- what becomes of the row at a place: it is free and of weight 0; or it is fixed, and contracted; or it isn't fixed and is on
-- no cycle, and dropped; or it is on a cycle, and kept
abbrev pub IsFateOf : Pesp → ℕ → Fate → Type 0
IsFateOf p i Free = IsFree p.period (arc_at (arcs_of p) i)
IsFateOf p i Contracted = (IsFree p.period (arc_at (arcs_of p) i) → ⊥) × ((arc_at (arcs_of p) i).span ≡ 0)
IsFateOf p i Bridge = (IsFree p.period (arc_at (arcs_of p) i) → ⊥) × ((arc_at (arcs_of p) i).span ≡ 0 → ⊥) × IsOnNoCycle p i
IsFateOf p i Kept = (IsFree p.period (arc_at (arcs_of p) i) → ⊥) × (IsOnNoCycle p i → ⊥)

-- one fate for each row, and each is right
pub record AreFatesOf (p : Pesp) (fates : List Fate) : Type 0 where
  pub count : length fates ≡ length p.rows
  pub each : (i : ℕ) → i < length p.rows → IsFateOf p i (fate_at fates i)

-- by their origins the network's rows are the kept rows in order, each once
pub record AreKeptRows (r : ReducedValue) : Type 0 where
  pub rising : IsStrictlyIncreasing (map (λ row. row.origin) r.network.rows)
  pub all : (k : ℕ) → Names (length r.original.rows) k → fate_at r.fates (k - 1) ≡ Kept
      → Contains (map (λ row. row.origin) r.network.rows) k

-- contracted rows join the two events
abbrev pub AreJoinedByContracted : ReducedValue → ℕ → ℕ → Type 0
AreJoinedByContracted r a b = (way : List SignedRow) × AreRows (arcs_of r.original) way
    × All (λ s. fate_at r.fates (s.row - 1) ≡ Contracted) way × Leads (arcs_of r.original) a way b

-- each event becomes one of the network's, each of which some event becomes; two events become one exactly where contracted
-- rows join them; the shifts give each contracted row slack 0
pub record AreMerged (r : ReducedValue) : Type 0 where
  pub becomes : (a : ℕ) → a < length r.original.events → slice_index r.stands a < r.network.events
  pub from : (c : ℕ) → c < r.network.events → (a : ℕ) × (a < length r.original.events) × (slice_index r.stands a ≡ c)
  pub joined : (a b : ℕ) → a < length r.original.events → b < length r.original.events
      → (slice_index r.stands a ≡ slice_index r.stands b) ↔ AreJoinedByContracted r a b
  pub tight : (i : ℕ) → i < length r.original.rows → fate_at r.fates i ≡ Contracted
      → IsSame r.original.period (pos (slice_index r.shifts (arc_at (arcs_of r.original) i).head) -ℤ pos
      (slice_index r.shifts (arc_at (arcs_of r.original) i).tail)) (arc_at (arcs_of r.original) i).lower

-- for each event of the instance there is the event that it becomes, and its shift
pub record AreForEvents (r : ReducedValue) : Type 0 where
  pub stands : length r.stands ≡ length r.original.events
  pub shifts : length r.shifts ≡ length r.original.events

-- the parts of a reduced network fit together
pub record IsReduction (p : Pesp) (fates : List Fate) (whole : NetworkValue) (c : Contraction) (network : NetworkValue) : Type 0 where
  pub whole_period : whole.period ≡ p.period
  pub whole_events : whole.events ≡ length p.events
  pub whole_count : length whole.rows ≡ length p.rows
  pub fates_count : length fates ≡ length p.rows
  pub contraction : IsContraction p.period (length p.events) whole.rows c
  pub free : (i : ℕ) → i < length p.rows → fate_at fates i ≡ Free → IsFree p.period (arc_at (arcs_of p) i)
  pub others : (i : ℕ) → i < length p.rows → (fate_at fates i ≡ Free → ⊥)
      → (arc_at (arcs_of_network whole.rows) i ≡ arc_at (arcs_of p) i)
      × (IsFree p.period (arc_at (arcs_of p) i) → ⊥)
  pub contracted : (i : ℕ) → i < length p.rows → fate_at fates i ≡ Contracted → flag c.contracted.items i ≡ true
  pub flagged : (i : ℕ) → flag c.contracted.items i ≡ true → fate_at fates i ≡ Contracted
  pub bridges : (i : ℕ) (walk : List SignedRow) → i < length p.rows → fate_at fates i ≡ Bridge
      → IsWalk (arcs_of_network whole.rows) walk → net_count walk i ≡ pos 0
  pub loose : (i : ℕ) → i < length p.rows → fate_at fates i ≡ Bridge → (arc_at (arcs_of p) i).span ≡ 0 → ⊥
  pub kept : (i : ℕ) → i < length p.rows → fate_at fates i ≡ Kept → IsOnNoCycle p i → ⊥
  pub origins : (i : ℕ) → i < length p.rows → (net_row_at whole.rows i).origin ≡ i + 1
  pub period : network.period ≡ p.period
  pub events : network.events ≡ length c.firsts.items
  pub rows : network.rows ≡ kept_below fates (map (mapped_row c.stands.items c.shifts.items) whole.rows) (length p.rows)
  pub no_bridge : (row : ℕ) → Names (length network.rows) row → IsBridge (arcs_of_network network.rows) row → ⊥

-- the place, from 0, of the row of the instance from which the network's row at a place comes
abbrev pub origin_place : NetworkValue → ℕ → ℕ
origin_place n j = (net_row_at n.rows j).origin - 1

-- a row of the network: it is a kept row of the instance, with its span and weight, between the events that its ends
-- become; its lower bound is changed by the shifts of its two ends
pub record IsReducedRow (r : ReducedValue) (j : ℕ) : Type 0 where
  pub names : Names (length r.original.rows) (net_row_at r.network.rows j).origin
  pub kept : fate_at r.fates (origin_place r.network j) ≡ Kept
  pub tail : (net_row_at r.network.rows j).tail ≡ slice_index r.stands (arc_at (arcs_of r.original) (origin_place r.network j)).tail
  pub head : (net_row_at r.network.rows j).head ≡ slice_index r.stands (arc_at (arcs_of r.original) (origin_place r.network j)).head
  pub lower : (net_row_at r.network.rows j).lower
      ≡ ((arc_at (arcs_of r.original) (origin_place r.network j)).lower
      +ℤ pos (slice_index r.shifts (arc_at (arcs_of r.original) (origin_place r.network j)).tail))
      -ℤ pos (slice_index r.shifts (arc_at (arcs_of r.original) (origin_place r.network j)).head)
  pub span : (net_row_at r.network.rows j).span ≡ (arc_at (arcs_of r.original) (origin_place r.network j)).span
  pub weight : (net_row_at r.network.rows j).weight ≡ (arc_at (arcs_of r.original) (origin_place r.network j)).weight

-- no walk along contracted rows alone passes a row more often one way than the other
abbrev pub HaveNoContractedCycle : ReducedValue → Type 0
HaveNoContractedCycle r = (walk : List SignedRow) (i : ℕ) → IsWalk (arcs_of r.original) walk
    → All (λ s. fate_at r.fates (s.row - 1) ≡ Contracted) walk → net_count walk i ≡ pos 0

-- contracted rows have slack 0
abbrev pub AreTightAtContracted : ReducedValue → (ℕ → ℕ) → Type 0
AreTightAtContracted r slacks = (i : ℕ) → i < length r.original.rows → fate_at r.fates i ≡ Contracted → slacks i ≡ 0

-- the slacks of the network's rows, each that of the row from which it comes
abbrev pub left_slacks : ReducedValue → (ℕ → ℕ) → ℕ → ℕ
left_slacks r slacks j = slacks (origin_place r.network j)
