-- Which limit was met where nothing is answered.
use Rattle.std.specs.Prelude.{◌≡◌, ◌⊎◌, ⊤, ℕ, ◌+◌, ◌*◌, ◌<◌, ◌≤◌, List, length, All}
use Rattle.pesp_problem.specs.declared.limits.TheConstants.{MOST_PAIRS}
use Rattle.pesp_problem.specs.declared.row.SignedRow.{SignedRow}
use Rattle.pesp_problem.specs.Timetables.{Pesp}
use Rattle.pesp_problem.specs.Forests.{IsSpanningForest, AreFundamental, IsSimple}
use Rattle.pesp_network.specs.Networks.{arcs_of_network}
use Rattle.pesp_nodes.specs.Problems.{ProblemValue, IsSmallTable}
use Rattle.pesp_tree.specs.States.{State}
use Rattle.pesp_tree.specs.Certificates.{IsProblemOf}
use Rattle.pesp_reduce.specs.Reductions.{ReducedValue}
use Rattle.pesp_branching.specs.Lifted.{IsReduced, AreLifted, IsFrugal}
use Rattle.pesp_branching.specs.Turns.{IsWorked}
use Rattle.pesp_turns.specs.Growing.{Grows}
use Rattle.pesp_turns.specs.Endings.{IsTreeFull}
use Rattle.pesp_search.specs.declared.refusal.SolveRefusal.{SolveRefusal}
use Rattle.pesp_search.specs.declared.refusal.SolveRefusal.TheVariants.{Memory, TableTooLarge, PairsTooMany}

-- the walks, or these as they are lifted, pass a limit of tables
abbrev pub AreLarge : ReducedValue → List (List SignedRow) → Type 0
AreLarge left walks = (IsSmallTable walks → ⊥) ⊎ ((table : List (List SignedRow)) × AreLifted left walks table × (IsSmallTable table → ⊥))

-- what is left of the instance has a spanning forest whose fundamental walks do so
pub record HasLargeTable (p : Pesp) : Type 0 where
  pub left : ReducedValue
  pub original : left.original ≡ p
  pub reduced : IsReduced left
  pub spans : IsSpanningForest (arcs_of_network left.network.rows) left.network.forest
  pub walks : List (List SignedRow)
  pub fundamental : AreFundamental (arcs_of_network left.network.rows) left.network.forest walks
  pub simple : All (IsSimple (arcs_of_network left.network.rows)) walks
  pub large : AreLarge left walks

-- a tree without a branch grew by at most so many, and with one branch more, or none, at a leaf that is lent it would pass a limit
pub record FillsTree (p : ProblemValue) (steps : ℕ) : Type 0 where
  pub many : MOST_PAIRS < (steps + 1) * length p.table
  pub first : State
  pub worked : IsWorked p 0 first
  pub used : ℕ
  pub few : used ≤ steps
  pub last : State
  pub grows : Grows p used first last
  pub full : IsTreeFull p last

-- a problem of the instance, with a frugal table, has such a tree
pub record HasFullTree (p : Pesp) (steps : ℕ) : Type 0 where
  pub problem : ProblemValue
  pub of : IsProblemOf p problem
  pub frugal : IsFrugal problem.table
  pub fills : FillsTree problem steps

-- the limit of this refusal was met
abbrev pub MeetsLimit : Pesp → ℕ → SolveRefusal → Type 0
MeetsLimit p steps Memory = ⊤
MeetsLimit p steps TableTooLarge = HasLargeTable p
MeetsLimit p steps PairsTooMany = HasFullTree p steps
