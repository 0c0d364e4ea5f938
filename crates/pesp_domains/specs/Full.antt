-- Full sets.
use Rattle.std.specs.Prelude.{◌≡◌, ℕ, ◌<◌, ◌↔◌, true}
use Rattle.pesp_problem.specs.Arcs.{Net}
use Rattle.pesp_problem.specs.Families.{Family}
use Rattle.pesp_problem.specs.Forests.{IsFirstOf}

-- a component's first event has 0 alone, and every other event has every difference
pub record IsFull (n : Net) (events : ℕ) (s : Family) : Type 0 where
  pub first : (event difference : ℕ) → event < events → IsFirstOf n.arcs event event → (s event difference ≡ true) ↔ (difference ≡ 0)
  pub others : (event difference : ℕ) → event < events → (IsFirstOf n.arcs event event → ⊥)
      → (s event difference ≡ true) ↔ (difference < n.period)
