-- When the time of a search is over, and which looks at it are told.
use Rattle.std.specs.Prelude.{◌≢◌, ◌⊎◌, ℕ, ◌≤◌, Option, Some, None}
use Rattle.pesp_looks.specs.declared.milestones.Milestones.{Milestones}

-- seconds are counted, a clock was read, and by its reading no fewer have gone
abbrev pub AreOver : Option ℕ → Option ℕ → Type 0
AreOver (Some most) (Some gone) = most ≤ gone
AreOver (Some most) None = ⊥
AreOver None _ = ⊥

-- so many steps were due to be told, or the cost isn't the one that was told last
abbrev pub IsMilestone : Milestones → ℕ → Option ℕ → Type 0
IsMilestone m steps cost = (m.due ≤ steps) ⊎ (m.cost ≢ cost)
