-- What a search that goes on from a certificate answers.
use Rattle.std.specs.Prelude.{◌≡◌, ℕ, ◌+◌, ◌≤◌, None}
use Rattle.pesp_problem.specs.Timetables.{Pesp}
use Rattle.pesp_truth.specs.Certificates.{Content, IsValid, lines_of, least_of, cost_of}
use Rattle.pesp_nodes.specs.Problems.{ProblemValue}
use Rattle.pesp_tree.specs.States.{State, IsAtMost}
use Rattle.pesp_tree.specs.Adopting.{Adopts}
use Rattle.pesp_tree.specs.Certificates.{IsProblemOf, IsCertificateOf}
use Rattle.pesp_branching.specs.Rooms.{branch_lines}
use Rattle.pesp_turns.specs.Growing.{Grows}
use Rattle.pesp_turns.specs.declared.resume_ending.ResumeEnding.{ResumeEnding}
use Rattle.pesp_turns.specs.ResumeEndings.{IsEndedAs}

-- the problem is the instance's with the base's cycles, and the state has the base's tree and times
pub record IsTakenUp (instance : Pesp) (base : Content) (p : ProblemValue) (state : State) : Type 0 where
  pub of : IsProblemOf instance p
  pub cycles : p.table ≡ base.cycles
  pub adopts : Adopts base state

-- a valid certificate of what a board knows in a state
pub record IsCertified (instance : Pesp) (p : ProblemValue) (state : State) (content : Content) : Type 0 where
  pub is_certificate : IsCertificateOf p instance.events state content
  pub valid : IsValid None instance content

-- the certificate of a state to which the events of a board lead from the base, with so many splits of at most so many;
-- it is valid, its bound isn't below the base's, no bound standing above every number, its cost isn't above the base's,
-- and its tree has as many branches more; and either all splits are used up, or nothing is left to split, or a limit is
-- met, or the watcher ended it
pub record IsResumed (instance : Pesp) (base : Content) (steps : ℕ) (stopped : Type 0) (used : ℕ) (ending : ResumeEnding)
    (content : Content) : Type 0 where
  pub problem : ProblemValue
  pub opening : State
  pub begins : IsTakenUp instance base problem opening
  pub state : State
  pub grows : Grows problem used opening state
  pub ended : IsEndedAs problem steps stopped opening state used ending
  pub certified : IsCertified instance problem state content
  pub few : used ≤ steps
  pub valid : IsValid None instance content
  pub bound : IsAtMost (least_of base.answer) (least_of content.answer)
  pub cost : IsAtMost (cost_of content.answer) (cost_of base.answer)
  pub branches : branch_lines (lines_of content) ≡ branch_lines (lines_of base) + used
