-- The rows that cross a cut, as entries of its list.
use Rattle.std.specs.Prelude.{◌≡◌, ℕ, zero, suc, ◌+◌, ◌<◌, ◌≤◌, List, [], ◌∷◌, ◌++◌, length, map, slice_index, slice_index_or, ℤ, All, Bool, true, false}
use Rattle.pesp_problem.specs.declared.limits.TheConstants.{MOST_PERIOD, MOST_ROWS}
use Rattle.pesp_problem.specs.declared.arc.Arc.{Arc}
use Rattle.pesp_problem.specs.Arcs.{arc_at}
use Rattle.pesp_propagate.specs.declared.crossing.Crossing.{Crossing}
use Rattle.pesp_propagate.specs.declared.crossing.Entry.{Entry}
use Rattle.pesp_propagate.specs.Shifts.{IsCrossing}

-- the row of an entry, with its slack
abbrev pub crossing_of : List Arc → List ℕ → Entry → Crossing
crossing_of arcs slacks e = record {
  slack = slice_index slacks e.row;
  span = (arc_at arcs e.row).span;
  weight = (arc_at arcs e.row).weight;
  inward = e.inward;
}

-- the row of an entry is there, and keeps its limits
pub record IsEntry (period : ℕ) (arcs : List Arc) (slacks : List ℕ) (e : Entry) : Type 0 where
  pub row : e.row < length arcs
  pub slack : e.row < length slacks
  pub limits : IsCrossing period (crossing_of arcs slacks e)

-- the rows of these entries, with their slacks
abbrev pub crossings_of : List Arc → List ℕ → List Entry → List Crossing
crossings_of arcs slacks entries = map (crossing_of arcs slacks) entries

-- the period, the entries and the working numbers keep the limits under which the costs of all shifts are told
pub record AreForShifts (period : ℕ) (arcs : List Arc) (slacks : List ℕ) (entries : List Entry) (costs bars : List ℤ) : Type 0 where
  pub some : 0 < period
  pub most : period ≤ MOST_PERIOD
  pub few : length entries ≤ MOST_ROWS
  pub costs_long : length costs ≡ period + 1
  pub bars_long : length bars ≡ period + 1
  pub each : All (IsEntry period arcs slacks) entries

-- what a row adds to the list of a side, whether its head and its tail are on the side
abbrev pub entry_if : ℕ → Bool → Bool → List Entry
entry_if i true true = []
entry_if i true false = record { row = i; inward = true } ∷ []
entry_if i false true = record { row = i; inward = false } ∷ []
entry_if i false false = []

-- those of the first rows that cross between the side and the rest
abbrev pub cut_entries : (ℕ → Bool) → List Arc → ℕ → List Entry
cut_entries side arcs zero = []
cut_entries side arcs (suc i) = cut_entries side arcs i ++ entry_if i (side (arc_at arcs i).head) (side (arc_at arcs i).tail)

-- what a place past the end is read as
abbrev pub no_entry : Entry
no_entry = record { row = 0; inward = false }

-- the entry at a place, from 0
abbrev pub cut_entry_at : List Entry → ℕ → Entry
cut_entry_at entries k = slice_index_or entries k no_entry
