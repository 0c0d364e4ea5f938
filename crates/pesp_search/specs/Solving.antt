-- What the solver answers.
use Rattle.std.specs.Prelude.{◌≡◌, ⊤, ℕ, ◌+◌, ◌*◌, ◌<◌, ◌≤◌, List, length, Option, IsSomeAnd, None}
use Rattle.pesp_problem.specs.declared.limits.TheConstants.{MOST_PAIRS, MOST_SIGNED_ROWS}
use Rattle.pesp_problem.specs.Timetables.{Pesp, IsTimetable, cost}
use Rattle.pesp_problem.specs.Arcs.{net_of}
use Rattle.pesp_problem.specs.Nodes.{root}
use Rattle.pesp_truth.specs.declared.answer.Answer.TheVariants.{Bounded}
use Rattle.pesp_truth.specs.Certificates.{Content, IsValid, cost_of}
use Rattle.pesp_branching.specs.Rooms.{room}
use Rattle.pesp_branching.specs.Turns.{IsOpenAnswer, HasBranches}
use Rattle.pesp_branching.specs.Lifted.{IsFrugal}
use Rattle.pesp_search.specs.Rooting.{IsRootSupported}
use Rattle.pesp_search.specs.Singles.{IsAboveSingles}
use Rattle.pesp_search.specs.declared.refusal.SolveRefusal.{SolveRefusal}
use Rattle.pesp_search.specs.declared.refusal.SolveRefusal.TheVariants.{Memory, TableTooLarge, PairsTooMany}

-- a valid certificate for the instance, after so many splits of at most so many
pub record IsSolved (p : Pesp) (steps used : ℕ) (content : Content) : Type 0 where
  pub valid : IsValid None p content
  pub few : used ≤ steps
  pub finished : IsOpenAnswer content.answer → used ≡ steps
  pub supported : IsOpenAnswer content.answer → IsRootSupported (net_of p) content.cycles
  pub least : (l : ℕ) (cost : Option ℕ) → content.answer ≡ Bounded l cost → IsAboveSingles (net_of p) content.cycles l
  pub branches : HasBranches (net_of p) content used
  pub frugal : IsFrugal content.cycles
  pub room : used < room (net_of p) content.cycles (root (net_of p) content.cycles)

-- where the times are a timetable of the instance, the answer has a cost, at most theirs
abbrev pub CostsNoMore : Pesp → List ℕ → Content → Type 0
CostsNoMore p times content = IsTimetable p times → IsSomeAnd (cost_of content.answer) (λ c. c ≤ cost p.period p.rows times)

-- when nothing is answered
abbrev pub IsSearchRefusal : Pesp → ℕ → SolveRefusal → Type 0
IsSearchRefusal p steps Memory = ⊤
IsSearchRefusal p steps TableTooLarge = MOST_SIGNED_ROWS < length p.rows * length p.rows
IsSearchRefusal p steps PairsTooMany = MOST_PAIRS < (steps + 1) * length p.rows
