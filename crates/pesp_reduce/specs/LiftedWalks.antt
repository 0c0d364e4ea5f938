-- Walks of what is left as walks of the instance: contracted rows are put in between the rows that are kept.
use Rattle.std.specs.Prelude.{◌≡◌, ℕ, ◌+◌, ◌-◌, ◌<◌, ◌⊎◌, List, length, map, filter, slice_index, slice_index_or, ℤ, ◌*ℤ◌, Bool, false, not, if◌then◌else◌, ◌==◌, nat_eq, All}
use Rattle.std.specs.List.{IsDistinct}
use Rattle.pesp_problem.specs.declared.arc.Arc.{Arc}
use Rattle.pesp_problem.specs.declared.row.SignedRow.{SignedRow}
use Rattle.pesp_problem.specs.Arcs.{arc_at, over_arcs}
use Rattle.pesp_problem.specs.Walks.{Names, IsWalk, net_count}
use Rattle.pesp_problem.specs.Forests.{IsSimple}
use Rattle.pesp_network.specs.declared.row.NetRow.{NetRow}
use Rattle.pesp_network.specs.Networks.{net_row_at, arcs_of_network}
use Rattle.pesp_reduce.specs.declared.fate.Fate.{Fate}
use Rattle.pesp_reduce.specs.declared.fate.Fate.TheVariants.{Contracted, Kept}
use Rattle.pesp_reduce.specs.declared.contraction.Contraction.{Contraction}
use Rattle.pesp_reduce.specs.Rows.{flag}
use Rattle.pesp_reduce.specs.Contractions.{AreTree, IsStanding, AreTogether}
use Rattle.pesp_reduce.specs.Fates.{fate_at, is_kept}

-- the row from which a signed row of what is left comes, under the same sign
abbrev pub original_row : List NetRow → SignedRow → SignedRow
original_row left s = record { row = (net_row_at left (s.row - 1)).origin; plus = s.plus }

-- the row is kept
abbrev pub passes_kept : List Fate → SignedRow → Bool
passes_kept fates s = is_kept (fate_at fates (s.row - 1))

-- the row is kept or contracted
abbrev pub IsKeptOrContracted : List Fate → SignedRow → Type 0
IsKeptOrContracted fates s = (fate_at fates (s.row - 1) ≡ Kept) ⊎ (fate_at fates (s.row - 1) ≡ Contracted)

-- the sum of net count times lower bound
abbrev pub lower_sum : List Arc → List SignedRow → ℤ
lower_sum arcs walk = over_arcs arcs (λ i. net_count walk i *ℤ (arc_at arcs i).lower)

-- the walk passes no row twice
abbrev pub HasNoRowTwice : List SignedRow → Type 0
HasNoRowTwice walk = IsDistinct nat_eq (map (λ s. s.row) walk)

-- ---- between rows that are contracted and rows that aren't

-- the signed row isn't of a contracted row
abbrev pub is_other : List Bool → SignedRow → Bool
is_other flags s = not (flag flags (s.row - 1))

-- what a place past the end is read as
abbrev pub no_signed_row : SignedRow
no_signed_row = record { row = 0; plus = false }

-- the signed row at a place, from 0
abbrev pub passed_at : List SignedRow → ℕ → SignedRow
passed_at walk i = slice_index_or walk i no_signed_row

-- the signed row at a place, the first at the end
abbrev pub passed_in_turn : List SignedRow → ℕ → SignedRow
passed_in_turn walk i = if i == length walk then passed_at walk 0 else passed_at walk i

-- the signed row after that at a place, the first after the last
abbrev pub row_after : List SignedRow → ℕ → SignedRow
row_after walk i = passed_in_turn walk (i + 1)

-- contracted rows of these rows, and the numbers of the events that become one
pub record IsContractionOf (whole : List NetRow) (c : Contraction) : Type 0 where
  pub tree : AreTree whole c.tree.rows c.contracted.items
  pub standing : IsStanding (arcs_of_network c.tree.rows) c.tree.events c.stands.items c.firsts.items
  pub together : AreTogether whole c.stands.items
  pub tails : All (λ row. row.tail < c.tree.events) whole
  pub heads : All (λ row. row.head < c.tree.events) whole

-- each row that is left comes from another row that isn't contracted, between the events that its ends become
pub record AreLeftOf (whole : List NetRow) (c : Contraction) (left : List NetRow) : Type 0 where
  pub names : (j : ℕ) → j < length left → Names (length whole) (net_row_at left j).origin
  pub other : (j : ℕ) → j < length left → flag c.contracted.items ((net_row_at left j).origin - 1) ≡ false
  pub tails : (j : ℕ) → j < length left → (net_row_at left j).tail
      ≡ slice_index c.stands.items (net_row_at whole ((net_row_at left j).origin - 1)).tail
  pub heads : (j : ℕ) → j < length left → (net_row_at left j).head
      ≡ slice_index c.stands.items (net_row_at whole ((net_row_at left j).origin - 1)).head
  pub apart : (j k : ℕ) → j < length left → k < length left → (net_row_at left j).origin ≡ (net_row_at left k).origin → j ≡ k

-- a walk closes, and passes beside contracted rows those from which the rows of another one come, in order; no row twice
-- where the other passes no event and no row twice
pub record IsLiftOf (whole : List NetRow) (flags : List Bool) (left : List NetRow) (walk lifted : List SignedRow) : Type 0 where
  pub closes : IsWalk (arcs_of_network whole) lifted
  pub others : filter (is_other flags) lifted ≡ map (original_row left) walk
  pub simple : IsSimple (arcs_of_network left) walk → HasNoRowTwice lifted
