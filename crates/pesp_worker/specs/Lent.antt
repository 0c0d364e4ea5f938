-- A board that takes a certificate up and lends all its open leaves.
use Rattle.std.specs.Prelude.{◌≡◌, List}
use Rattle.pesp_problem.specs.Timetables.{Pesp}
use Rattle.pesp_truth.specs.Certificates.{Content}
use Rattle.pesp_nodes.specs.Problems.{ProblemValue}
use Rattle.pesp_tree.specs.declared.job.Job.{Job}
use Rattle.pesp_tree.specs.States.{State}
use Rattle.pesp_tree.specs.Adopting.{Adopts, LendsEach}
use Rattle.pesp_tree.specs.Certificates.{IsProblemOf}

-- the problem is the instance's with the base's cycles; from the base's tree and times each open leaf is lent, in preorder, as these jobs
pub record IsLentFrom (instance : Pesp) (base : Content) (p : ProblemValue) (jobs : List Job) (state : State) : Type 0 where
  pub of : IsProblemOf instance p
  pub cycles : p.table ≡ base.cycles
  pub opening : State
  pub adopts : Adopts base opening
  pub lends : LendsEach p opening jobs state
