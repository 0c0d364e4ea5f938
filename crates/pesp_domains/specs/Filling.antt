-- Full sets as words.
use Rattle.std.specs.Prelude.{◌≡◌, ℕ, ◌<◌, ◌≤◌, ◌↔◌, List}
use Rattle.pesp_problem.specs.Arcs.{Net}
use Rattle.pesp_problem.specs.Forests.{IsFirstOf}
use Rattle.pesp_domains.specs.Bits.{bit}
use Rattle.pesp_domains.specs.Sets.{set_of}
use Rattle.pesp_domains.specs.Domains.{width_of}

-- a set as it is before anything is known
pub record IsFullSet (n : Net) (event : ℕ) (set : List ℕ) : Type 0 where
  pub clear : (d : ℕ) → n.period ≤ d → bit set d ≡ 0
  pub first : (d : ℕ) → IsFirstOf n.arcs event event → (bit set d ≡ 1) ↔ (d ≡ 0)
  pub others : (d : ℕ) → (IsFirstOf n.arcs event event → ⊥) → (bit set d ≡ 1) ↔ (d < n.period)

-- the sets of the events below a count are full
abbrev pub AreFull : Net → ℕ → List ℕ → Type 0
AreFull n count words = (event : ℕ) → event < count → IsFullSet n event (set_of (width_of n.period) words event)
