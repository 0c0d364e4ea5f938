-- What becomes of rows, and the rows that are kept.
use Rattle.std.specs.Prelude.{◌≡◌, ℕ, List, length, Bool}
use Rattle.pesp_network.specs.declared.row.NetRow.{NetRow}
use Rattle.pesp_network.specs.Networks.{arcs_of_network}
use Rattle.pesp_reduce.specs.declared.parts.Kept.{Kept}
use Rattle.pesp_reduce.specs.Fates.{AreFates, kept_below}

-- one fate for each of the given rows of which the flagged ones are contracted and others left, and the kept ones of these
pub record FatesAreKept (period : ℕ) (given : List NetRow) (flags : List Bool) (left : List NetRow) (k : Kept) : Type 0 where
  pub count : length k.fates.items ≡ length given
  pub fates : AreFates period given flags (arcs_of_network left) k.fates.items
  pub rows : k.network.rows ≡ kept_below k.fates.items left (length left)
