-- What becomes of rows, and the rows that are kept.
use Rattle.std.specs.Prelude.{◌≡◌, ℕ, zero, suc, ◌+◌, ◌<◌, List, length, [], ◌∷◌, ◌++◌, slice_index, slice_index_or, Bool, true, false, pos, ◌+ℤ◌, ◌-ℤ◌, if◌then◌else◌}
use Rattle.pesp_problem.specs.declared.arc.Arc.{Arc}
use Rattle.pesp_problem.specs.Forests.{IsBridge}
use Rattle.pesp_network.specs.declared.row.NetRow.{NetRow}
use Rattle.pesp_network.specs.Networks.{net_row_at}
use Rattle.pesp_reduce.specs.declared.fate.Fate.{Fate}
use Rattle.pesp_reduce.specs.declared.fate.Fate.TheVariants.{Free, Contracted, Bridge, Kept}
use Rattle.pesp_reduce.specs.Rows.{is_free, flag}

-- what becomes of the row at a place, from 0
abbrev pub fate_at : List Fate → ℕ → Fate
fate_at fates i = slice_index_or fates i Free

-- whether a row with this fate is kept
abbrev pub is_kept : Fate → Bool
is_kept Free = false
is_kept Contracted = false
is_kept Bridge = false
is_kept Kept = true

-- what becomes of the row k of which some are contracted and these arcs are left
abbrev pub IsFate : ℕ → NetRow → Bool → List Arc → ℕ → Fate → Type 0
IsFate period row contracted left k Free = is_free period row ≡ true
IsFate period row contracted left k Contracted = (is_free period row ≡ false) × (contracted ≡ true)
IsFate period row contracted left k Bridge = (is_free period row ≡ false) × (contracted ≡ false) × IsBridge left k
IsFate period row contracted left k Kept = (is_free period row ≡ false) × (contracted ≡ false) × (IsBridge left k → ⊥)

-- what the fates of rows are told by
pub record AreFates (period : ℕ) (rows : List NetRow) (flags : List Bool) (left : List Arc) (fates : List Fate) : Type 0 where
  pub each : (i : ℕ) → i < length rows → IsFate period (net_row_at rows i) (flag flags i) left (i + 1) (fate_at fates i)

-- a row between the events that its ends become; its lower bound is changed by the shifts of its two ends
abbrev pub mapped_row : List ℕ → List ℕ → NetRow → NetRow
mapped_row stands shifts row = record {
  tail = slice_index stands row.tail;
  head = slice_index stands row.head;
  lower = (row.lower +ℤ pos (slice_index shifts row.tail)) -ℤ pos (slice_index shifts row.head);
  span = row.span;
  weight = row.weight;
  origin = row.origin;
}

-- the kept ones of the first n rows, in order
abbrev pub kept_below : List Fate → List NetRow → ℕ → List NetRow
kept_below fates rows zero = []
kept_below fates rows (suc n) = kept_below fates rows n ++ (if is_kept (fate_at fates n) then net_row_at rows n ∷ [] else [])
