-- Activities that conflict: no times keep them all (irreducible infeasible sets: Chinneck 2008). Rows are named by their numbers, from 1.
use Rattle.std.specs.Prelude.{◌≢◌, ℕ, ◌-◌, List, map, slice_index, All}
use Rattle.pesp_problem.specs.declared.row.Row.{Row}
use Rattle.pesp_problem.specs.Timetables.{Pesp, row_at, AreTimes, IsSatisfied}

-- the times satisfy the row of this number
abbrev pub KeepsRow : Pesp → List ℕ → ℕ → Type 0
KeepsRow p times row = IsSatisfied p times (row_at p.rows (row - 1))

-- one time for each event, at which each listed row is satisfied
abbrev pub KeepsRows : Pesp → List ℕ → List ℕ → Type 0
KeepsRows p listed times = AreTimes p times × All (KeepsRow p times) listed

-- every list of times violates one of these rows
abbrev pub AreInConflict : Pesp → List ℕ → Type 0
AreInConflict p listed = (times : List ℕ) → KeepsRows p listed times → ⊥

-- some times keep all other listed rows
abbrev pub IsNeeded : Pesp → List ℕ → ℕ → Type 0
IsNeeded p listed row = (times : List ℕ) × AreTimes p times × All (λ other. other ≢ row → KeepsRow p times other) listed

-- a row whose slack costs nothing
abbrev pub unweighted : Row → Row
unweighted row = record row { weight = 0 }

-- the listed rows at no cost
abbrev pub unweighted_rows : List Row → List ℕ → List Row
unweighted_rows rows listed = map (λ row. unweighted (row_at rows (row - 1))) listed

-- the instance that has the listed rows alone, at no cost; its events stay
abbrev pub only_rows : Pesp → List ℕ → Pesp
only_rows p listed = record { period = p.period; events = p.events; rows = unweighted_rows p.rows listed }

-- the listed numbers at these places, from 1
abbrev pub chosen : List ℕ → List ℕ → List ℕ
chosen listed places = map (λ place. slice_index listed (place - 1)) places
