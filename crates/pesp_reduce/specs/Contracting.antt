-- The contraction of the fixed rows of a network.
use Rattle.std.specs.Prelude.{◌≡◌, ℕ, List}
use Rattle.pesp_network.specs.declared.row.NetRow.{NetRow}
use Rattle.pesp_network.specs.Networks.{arcs_of_network}
use Rattle.pesp_reduce.specs.declared.contraction.Contraction.{Contraction}
use Rattle.pesp_reduce.specs.Contractions.{IsStanding, AreTree, AreShifts, AreTogether}

-- a tree of fixed rows that joins what all fixed rows join, shifts at which its rows have slack 0, and a number for each event
pub record IsContraction (period events : ℕ) (rows : List NetRow) (c : Contraction) : Type 0 where
  pub tree_period : c.tree.period ≡ period
  pub tree_events : c.tree.events ≡ events
  pub tree : AreTree rows c.tree.rows c.contracted.items
  pub shifts : AreShifts period events rows c.contracted.items c.shifts.items
  pub standing : IsStanding (arcs_of_network c.tree.rows) events c.stands.items c.firsts.items
  pub together : AreTogether rows c.stands.items
