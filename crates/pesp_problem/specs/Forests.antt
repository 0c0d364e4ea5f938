-- Spanning forests, bridges and fundamental walks. Rows are named by their numbers, from 1.
use Rattle.std.specs.Prelude.{◌≡◌, ℕ, ◌-◌, ◌≤◌, List, [], ◌∷◌, length, map, pos, true, nat_eq, All, Contains}
use Rattle.std.specs.List.{IsDistinct}
use Rattle.std.specs.List.Sorted.{IsStrictlyIncreasing}
use Rattle.pesp_problem.specs.declared.row.SignedRow.{SignedRow}
use Rattle.pesp_problem.specs.declared.arc.Arc.{Arc}
use Rattle.pesp_problem.specs.Walks.{Names, AreRows, start, Leads, IsWalk, net_count}

-- the way passes these rows alone
abbrev pub KeepsTo : List ℕ → List SignedRow → Type 0
KeepsTo rows way = All (λ s. Contains rows s.row) way

-- no walk along these rows alone passes a row more often one way than the other
abbrev pub HaveNoCycle : List Arc → List ℕ → Type 0
HaveNoCycle arcs rows = (walk : List SignedRow) (i : ℕ) → IsWalk arcs walk → KeepsTo rows walk → net_count walk i ≡ pos 0

-- where a way leads, a way along these rows leads too
abbrev pub JoinAll : List Arc → List ℕ → Type 0
JoinAll arcs rows = (a b : ℕ) (way : List SignedRow) → AreRows arcs way → Leads arcs a way b
    → (other : List SignedRow) × KeepsTo rows other × Leads arcs a other b

-- rows, none of them twice, that have no cycle and join what the arcs join
pub record IsSpanningForest (arcs : List Arc) (rows : List ℕ) : Type 0 where
  pub exist : All (Names (length arcs)) rows
  pub once : IsDistinct nat_eq rows
  pub no_cycle : HaveNoCycle arcs rows
  pub joins : JoinAll arcs rows

-- each walk passes the row as often one way as the other
abbrev pub IsBridge : List Arc → ℕ → Type 0
IsBridge arcs row = (walk : List SignedRow) → IsWalk arcs walk → net_count walk (row - 1) ≡ pos 0

-- the row under a plus sign, and then rows of the forest alone, back to where it begins
pub record IsFundamental (arcs : List Arc) (forest : List ℕ) (row : ℕ) (walk : List SignedRow) : Type 0 where
  pub closes : IsWalk arcs walk
  pub back : List SignedRow
  pub begins : walk ≡ record { row = row; plus = true } ∷ back
  pub keeps : KeepsTo forest back

-- the number of the row with which a walk begins
abbrev pub own_row : List SignedRow → ℕ
own_row [] = 0
own_row (s ∷ walk) = s.row

-- one fundamental walk for each row outside the forest, by rising row
pub record AreFundamental (arcs : List Arc) (forest : List ℕ) (table : List (List SignedRow)) : Type 0 where
  pub each : All (λ walk. IsFundamental arcs forest (own_row walk) walk) table
  pub rising : IsStrictlyIncreasing (map own_row table)
  pub outside : (row : ℕ) → Names (length arcs) row → (Contains forest row → ⊥) → Contains (map own_row table) row
  pub others : (row : ℕ) → Contains (map own_row table) row → Contains forest row → ⊥

-- no event and no row twice
abbrev pub IsSimple : List Arc → List SignedRow → Type 0
IsSimple arcs walk = IsDistinct nat_eq (map (start arcs) walk) × IsDistinct nat_eq (map (λ s. s.row) walk)

-- a way joins the two events
abbrev pub AreJoined : List Arc → ℕ → ℕ → Type 0
AreJoined arcs a b = (way : List SignedRow) × AreRows arcs way × Leads arcs a way b

-- the first event, in order, of those that are joined with this one
pub record IsFirstOf (arcs : List Arc) (event first : ℕ) : Type 0 where
  pub joined : AreJoined arcs event first
  pub least : (other : ℕ) → AreJoined arcs event other → first ≤ other
