-- Forests with roots.
use Rattle.std.specs.Prelude.{◌≡◌, ◌≢◌, ℕ, ◌-◌, ◌<◌, ◌≤◌, List, length, Contains, zero, suc, Bool, true, false, ◌==◌, if◌then◌else◌}
use Rattle.std.specs.List.{AllPairs}
use Rattle.pesp_problem.specs.declared.arc.Arc.{Arc}
use Rattle.pesp_problem.specs.Arcs.{arc_at, HasEnds}
use Rattle.pesp_problem.specs.ArcLimits.{HaveEnds}

-- for each event: the event above it, the number of the row that joins the two, or 0 at a root, the depth, and the root
pub record Roots : Type 0 where
  pub up : ℕ → ℕ
  pub by : ℕ → ℕ
  pub depth : ℕ → ℕ
  pub root : ℕ → ℕ

-- the rows that join events upwards are a forest, and it joins the ends of each row
pub record AreRoots (n : ℕ) (arcs : List Arc) (r : Roots) : Type 0 where
  pub row : (x : ℕ) → x < n → r.by x ≤ length arcs
  pub ends : (x : ℕ) → x < n → 0 < r.by x → HasEnds (arc_at arcs (r.by x - 1)) x (r.up x)
  pub above : (x : ℕ) → x < n → 0 < r.by x → r.up x < n
  pub climbs : (x : ℕ) → x < n → 0 < r.by x → r.depth (r.up x) < r.depth x
  pub same_root : (x : ℕ) → x < n → 0 < r.by x → r.root (r.up x) ≡ r.root x
  pub own_root : (x : ℕ) → x < n → r.by x ≡ 0 → r.root x ≡ x
  pub inside : HaveEnds n arcs
  pub spans : (i : ℕ) → i < length arcs → r.root (arc_at arcs i).tail ≡ r.root (arc_at arcs i).head

-- some event is joined upwards by this row
abbrev pub IsTreeRow : ℕ → Roots → ℕ → Type 0
IsTreeRow n r k = (x : ℕ) × (x < n) × (0 < r.by x) × (r.by x ≡ k)

-- the list has the rows that join events upwards, each once, and no others
pub record AreTreeRows (n : ℕ) (r : Roots) (forest : List ℕ) : Type 0 where
  pub apart : AllPairs (λ a b. a ≢ b) forest
  pub listed : (x : ℕ) → x < n → 0 < r.by x → Contains forest (r.by x)
  pub joined : (k : ℕ) → Contains forest k → IsTreeRow n r k

-- c is met within so many steps upwards from x
unfoldable pub meets : Roots → ℕ → ℕ → ℕ → Bool
meets r zero c x = x == c
meets r (suc fuel) c x = if x == c then true else (if r.by x == 0 then false else meets r fuel c (r.up x))

-- x is c or hangs below it
unfoldable pub below : Roots → ℕ → ℕ → Bool
below r c x = meets r (r.depth x) c x
