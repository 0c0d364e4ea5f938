-- Times of a problem's network, and when they are judged rightly.
use Rattle.std.specs.Prelude.{◌≡◌, ℕ, List, Option, Some, None}
use Rattle.pesp_problem.specs.NetTimetables.{IsNetTimetable, net_cost}
use Rattle.pesp_nodes.specs.Problems.{ProblemValue, problem_net}

-- the cost of times that are a timetable of the problem's network, none for others
abbrev pub Judges : ProblemValue → List ℕ → Option ℕ → Type 0
Judges p times None = IsNetTimetable (problem_net p) p.network.events times → ⊥
Judges p times (Some cost) = IsNetTimetable (problem_net p) p.network.events times × (cost ≡ net_cost (problem_net p) times)
