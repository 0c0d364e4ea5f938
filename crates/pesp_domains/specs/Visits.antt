-- Rows that are visited one after another while others wait. t is the period, xs and ys are the words of all sets.
use Rattle.std.specs.Prelude.{◌≡◌, ◌≢◌, ℕ, ◌<◌, ◌≤◌, ◌⊎◌, List, length, slice_index, sum, true, false, All, Contains, Option, Some, None, vec_len}
use Rattle.pesp_problem.specs.declared.arc.Arc.{Arc}
use Rattle.pesp_problem.specs.Arcs.{Net, arc_at}
use Rattle.pesp_problem.specs.Nodes.{slack_range}
use Rattle.pesp_problem.specs.Families.{Family, IsSupportedBy}
use Rattle.pesp_domains.specs.declared.waiting.Waiting.{Waiting}
use Rattle.pesp_domains.specs.Sets.{set_of, family, Revises}
use Rattle.pesp_domains.specs.Domains.{width_of}
use Rattle.pesp_domains.specs.Waiting.{waits_at}
use Rattle.pesp_domains.specs.Outcomes.{Shrinks}

-- the net of these arcs and this period
abbrev pub net_at : ℕ → List Arc → Net
net_at t arcs = record { period = t; arcs = arcs }

-- the sets that the words hold, as a family
abbrev pub sets_at : ℕ → List ℕ → Family
sets_at t xs = family (width_of t) xs

-- each row that doesn't wait supports the sets
abbrev pub RestIsSupported : ℕ → List Arc → List (ℕ × ℕ) → Waiting → List ℕ → Type 0
RestIsSupported t arcs ranges waiting xs = (row : ℕ) → row < length arcs → waits_at waiting row ≡ false
    → IsSupportedBy t (arc_at arcs row) (slack_range ranges row) (sets_at t xs)

-- the sets at both ends of an arc are the same
pub record HasSameEnds (t : ℕ) (arc : Arc) (xs ys : List ℕ) : Type 0 where
  pub tail : set_of (width_of t) ys arc.tail ≡ set_of (width_of t) xs arc.tail
  pub head : set_of (width_of t) ys arc.head ≡ set_of (width_of t) xs arc.head

-- what a visit of a row does to the sets
pub record VisitsRow (t : ℕ) (arcs : List Arc) (ranges : List (ℕ × ℕ)) (row : ℕ) (xs ys : List ℕ) : Type 0 where
  pub revises : Revises t (width_of t) (arc_at arcs row) (slack_range ranges row) xs ys
  pub most : sum ys ≤ sum xs

-- where a row doesn't wait after a visit of another, it didn't wait before, and the sets at its ends are the same;
-- and only where a set is another does some row begin to wait
pub record Visited (t : ℕ) (arcs : List Arc) (row : ℕ) (xs ys : List ℕ) (before after : Waiting) : Type 0 where
  pub rest : (other : ℕ) → other < length arcs → other ≢ row → waits_at after other ≡ false
      → (waits_at before other ≡ false) × HasSameEnds t (arc_at arcs other) xs ys
  pub long : vec_len after.flags ≡ vec_len before.flags
  pub listed : (other : ℕ) → waits_at after other ≡ true
      → ((other ≢ row) × (waits_at before other ≡ true)) ⊎ Contains after.rows.items other
  pub kept : (other : ℕ) → Contains before.rows.items other → Contains after.rows.items other
  pub below : All (λ other. other < vec_len before.flags) before.rows.items → All (λ other. other < vec_len before.flags) after.rows.items
  pub quiet : (sum ys < sum xs) ⊎ (after.rows.items ≡ before.rows.items)

-- the set of an event is empty
abbrev pub IsEmptyAt : ℕ → ℕ → List ℕ → ℕ → Type 0
IsEmptyAt t events xs event = (event < events) × ((difference : ℕ) → sets_at t xs event difference ≡ false)

-- a visit names an event whose set is empty, or all is well
abbrev pub IsRowVisit : ℕ → ℕ → List Arc → ℕ → List ℕ → List ℕ → Waiting → Waiting → Option ℕ → Type 0
IsRowVisit t events arcs row xs ys before after (Some event) = IsEmptyAt t events ys event
IsRowVisit t events arcs row xs ys before after None = Visited t arcs row xs ys before after

-- the rows of a line were visited up to a place, while others began to wait
pub record Passed (t : ℕ) (arcs : List Arc) (ranges : List (ℕ × ℕ)) (line : List ℕ) (i : ℕ) (xs ys : List ℕ)
    (before after : Waiting) : Type 0 where
  pub shrinks : Shrinks (net_at t arcs) ranges (sets_at t xs) (sets_at t ys)
  pub most : sum ys ≤ sum xs
  pub supported : RestIsSupported t arcs ranges before xs → RestIsSupported t arcs ranges after ys
  pub long : vec_len after.flags ≡ vec_len before.flags
  pub listed : (row : ℕ) → waits_at after row ≡ true
      → ((k : ℕ) × (i ≤ k) × (k < length line) × (slice_index line k ≡ row)) ⊎ Contains after.rows.items row
  pub below : All (λ row. row < vec_len before.flags) after.rows.items
  pub quiet : (sum ys < sum xs) ⊎ (after.rows.items ≡ before.rows.items)

-- visits of all rows of a line name an event whose set is empty, or all is well
abbrev pub IsPass : ℕ → ℕ → List Arc → List (ℕ × ℕ) → List ℕ → List ℕ → List ℕ → Waiting → Waiting → Option ℕ → Type 0
IsPass t events arcs ranges line xs ys before after (Some event) = IsEmptyAt t events ys event
IsPass t events arcs ranges line xs ys before after None = Passed t arcs ranges line (length line) xs ys before after
