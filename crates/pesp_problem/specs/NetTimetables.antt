-- Timetables of a net and what they cost: those of an instance, said of its arcs.
use Rattle.std.specs.Prelude.{◌≡◌, ℕ, ◌*◌, ◌<◌, ◌≤◌, List, length, All, sum_by}
use Rattle.pesp_problem.specs.Arcs.{Net, arc_slack}

-- one time below the period for each of so many events, at which the slack of each arc is at most its span
pub record IsNetTimetable (n : Net) (events : ℕ) (times : List ℕ) : Type 0 where
  pub count : length times ≡ events
  pub below : All (λ t. t < n.period) times
  pub slacks : All (λ arc. arc_slack n.period times arc ≤ arc.span) n.arcs

-- the sum of weight times slack
abbrev pub net_cost : Net → List ℕ → ℕ
net_cost n times = sum_by (λ arc. arc.weight * arc_slack n.period times arc) n.arcs
