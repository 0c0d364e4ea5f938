-- Levels on their way up, and the edges that lifted them last.
use Rattle.std.specs.Prelude.{◌≡◌, ℕ, ◌+◌, ◌-◌, ◌<◌, ◌≤◌, List, length}
use Rattle.pesp_bound.specs.declared.edge.Edge.{Edge}
use Rattle.pesp_bound.specs.Settling.{edge_at, at}

-- by is the edge that set an event's level last, from 1, or 0; t is when that was
pub record LevelsGrown (edges : List Edge) (h by t : ℕ → ℕ) (now : ℕ) : Type 0 where
  pub root : (x : ℕ) → by x ≡ 0 → h x ≡ 0
  pub row : (x : ℕ) → by x ≤ length edges
  pub from : (x : ℕ) → 0 < by x → (edge_at edges (by x - 1)).start ≡ x
  pub holds : (x : ℕ) → 0 < by x → h x + (edge_at edges (by x - 1)).loss
      ≤ h (edge_at edges (by x - 1)).finish + (edge_at edges (by x - 1)).gain
  pub strict : (x : ℕ) → 0 < by x → t x ≤ t (edge_at edges (by x - 1)).finish
      → h x + (edge_at edges (by x - 1)).loss + 1 ≤ h (edge_at edges (by x - 1)).finish
      + (edge_at edges (by x - 1)).gain
  pub times : (x : ℕ) → t x ≤ now

-- at some times the levels grew in this way
abbrev pub LevelsAreGrown : List Edge → List ℕ → List ℕ → Type 0
LevelsAreGrown edges level by = (t : ℕ → ℕ) × (now : ℕ) × LevelsGrown edges (at level) (at by) t now
