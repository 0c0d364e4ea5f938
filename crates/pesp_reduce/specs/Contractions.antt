-- What the contraction of fixed rows keeps.
use Rattle.std.specs.Prelude.{◌≡◌, ℕ, ◌+◌, ◌-◌, ◌<◌, ◌≤◌, List, length, map, slice_index, Bool, true, pos, ◌-ℤ◌, All, Contains}
use Rattle.pesp_problem.specs.declared.arc.Arc.{Arc}
use Rattle.pesp_problem.specs.declared.row.SignedRow.{SignedRow}
use Rattle.pesp_problem.specs.Walks.{IsWalk, net_count}
use Rattle.pesp_problem.specs.Forests.{IsFirstOf, IsSpanningForest}
use Rattle.pesp_network.specs.declared.row.NetRow.{NetRow}
use Rattle.pesp_network.specs.Networks.{net_row_at, arcs_of_network}
use Rattle.pesp_problem.specs.Congruences.{IsSame}
use Rattle.pesp_reduce.specs.Rows.{flag, row_or_loop, fixed_row}

-- no walk along the flagged rows alone passes a row more often one way than the other
abbrev pub HaveNoCycleAt : List Arc → List Bool → Type 0
HaveNoCycleAt arcs flags = (walk : List SignedRow) (i : ℕ) → IsWalk arcs walk
    → All (λ s. flag flags (s.row - 1) ≡ true) walk → net_count walk i ≡ pos 0

-- each of the first events has a number, that of the first event that is joined with it; no two first events have one number
pub record IsStanding (arcs : List Arc) (events : ℕ) (stands firsts : List ℕ) : Type 0 where
  pub stands_count : length stands ≡ events
  pub firsts_count : length firsts ≤ events
  pub stands_below : (e : ℕ) → e < events → slice_index stands e < length firsts
  pub firsts_below : (c : ℕ) → c < length firsts → slice_index firsts c < events
  pub first : (e : ℕ) → e < events → IsFirstOf arcs e (slice_index firsts (slice_index stands e))
  pub own : (c : ℕ) → c < length firsts → slice_index stands (slice_index firsts c) ≡ c

-- the flagged rows are fixed, have no cycle, and join what all fixed rows join; the tree has them alone, and loops
pub record AreTree (rows tree : List NetRow) (flags : List Bool) : Type 0 where
  pub flags_count : length flags ≡ length rows
  pub tree_count : length tree ≡ length rows
  pub fixed : (i : ℕ) → flag flags i ≡ true → (i < length rows) × ((net_row_at rows i).span ≡ 0)
  pub no_cycle : HaveNoCycleAt (arcs_of_network rows) flags
  pub parts : (i : ℕ) → net_row_at tree i ≡ row_or_loop (flag flags i) (net_row_at rows i)

-- shifts below the period that give each flagged row slack 0
pub record AreShifts (period events : ℕ) (rows : List NetRow) (flags : List Bool) (shifts : List ℕ) : Type 0 where
  pub count : length shifts ≡ events
  pub below : All (λ t. t < period) shifts
  pub tight : (i : ℕ) → flag flags i ≡ true
      → IsSame period (pos (slice_index shifts (net_row_at rows i).head) -ℤ pos
      (slice_index shifts (net_row_at rows i).tail)) (net_row_at rows i).lower

-- both ends of each fixed row have one number
abbrev pub AreTogether : List NetRow → List ℕ → Type 0
AreTogether rows stands = (i : ℕ) → i < length rows → (net_row_at rows i).span ≡ 0
    → slice_index stands (net_row_at rows i).tail ≡ slice_index stands (net_row_at rows i).head

-- the rows are flagged whose numbers these are
pub record AreFlags (count : ℕ) (numbers : List ℕ) (flags : List Bool) : Type 0 where
  pub count_is : length flags ≡ count
  pub only : (i : ℕ) → flag flags i ≡ true → Contains numbers (i + 1)
  pub all : (k : ℕ) → Contains numbers k → flag flags (k - 1) ≡ true

-- those rows are flagged that are in one spanning forest of the fixed rows
abbrev pub AreForestFlags : List NetRow → List Bool → Type 0
AreForestFlags rows flags = (forest : List ℕ) × IsSpanningForest (arcs_of_network (map fixed_row rows)) forest
    × AreFlags (length rows) forest flags
