-- How the search for an instance begins.
use Rattle.std.specs.Prelude.{◌≡◌, ◌≤◌, length}
use Rattle.pesp_problem.specs.Timetables.{Pesp}
use Rattle.pesp_tree.specs.States.{BoardValue, opening}
use Rattle.pesp_tree.specs.Certificates.{IsProblemOf}
use Rattle.pesp_reduce.specs.Reductions.{ReducedValue}
use Rattle.pesp_branching.specs.Lifted.{IsFrugal}
use Rattle.pesp_turns.specs.declared.search.Search.{Search}
use Rattle.pesp_turns.specs.Knowing.{IsKnown}
use Rattle.pesp_turns.specs.Settling.{IsSearched}

-- an opening board, whose problem is the instance's, with the lifted walks of what is left of it
pub record IsNewBoard (instance : Pesp) (r : ReducedValue) (board : BoardValue) : Type 0 where
  pub opening : board.state ≡ opening
  pub of : IsProblemOf instance board.problem
  pub searched : IsSearched board.problem r
  pub frugal : IsFrugal board.problem.table
  pub few : length board.problem.table ≤ length instance.rows

-- a search on such a board, with what is known of its problem
pub record IsBegun (instance : Pesp) (search : Search) : Type 0 where
  pub board : IsNewBoard instance search.known.reduced search.board
  pub original : search.known.reduced.original ≡ instance
  pub known : IsKnown search.board.problem search.known
