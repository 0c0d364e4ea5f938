-- Rooted spanning forests, with the events in preorder.
use Rattle.std.specs.Prelude.{◌≡◌, ◌≢◌, ℕ, ◌+◌, ◌-◌, ◌<◌, ◌≤◌, ◌⊎◌, List, length, vec_len, All, Contains, slice_index, if◌then◌else◌, ◌==◌}
use Rattle.std.specs.List.{AllPairs}
use Rattle.pesp_problem.specs.declared.limits.TheConstants.{MOST_ROWS}
use Rattle.pesp_problem.specs.declared.arc.Arc.{Arc}
use Rattle.pesp_problem.specs.Walks.{Names}
use Rattle.pesp_network.specs.declared.parts.Forest.{Forest}
use Rattle.pesp_network.specs.Growing.{at}
use Rattle.pesp_problem.specs.Arcs.{arc_at, tail_of, head_of, HasEnds}
use Rattle.pesp_problem.specs.ArcLimits.{HaveEnds}

-- y is x or lies below it
abbrev pub Under : Forest → ℕ → ℕ → Type 0
Under g x y = (at g.place.items x ≤ at g.place.items y) × (at g.place.items y ≤ at g.last.items x)

-- trees of rows of the tails T and the heads H between n events
pub record IsRooted (n m : ℕ) (T H : ℕ → ℕ) (g : Forest) : Type 0 where
  pub seen_below : (x : ℕ) → 0 < at g.place.items x → x < n
  pub places : (x : ℕ) → at g.place.items x ≤ vec_len g.order
  pub order_at : (i : ℕ) → i < vec_len g.order → at g.place.items (at g.order.items i) ≡ i + 1
  pub place_at : (x : ℕ) → 0 < at g.place.items x → at g.order.items (at g.place.items x - 1) ≡ x
  pub by_row : (x : ℕ) → at g.by.items x ≤ m
  pub by_ends : (x : ℕ) → 0 < at g.by.items x → ((T (at g.by.items x) ≡ x)
      × (H (at g.by.items x) ≡ at g.up.items x)) ⊎ ((H (at g.by.items x) ≡ x)
      × (T (at g.by.items x) ≡ at g.up.items x))
  pub by_seen : (x : ℕ) → 0 < at g.by.items x → 0 < at g.place.items (at g.up.items x)
  pub climbs : (x : ℕ) → 0 < at g.by.items x → at g.place.items (at g.up.items x) < at g.place.items x
  pub same_root : (x : ℕ) → 0 < at g.by.items x → at g.root.items (at g.up.items x) ≡ at g.root.items x
  pub own_root : (x : ℕ) → 0 < at g.place.items x → at g.by.items x ≡ 0 → at g.root.items x ≡ x
  pub root_first : (x : ℕ) → 0 < at g.place.items x → at g.root.items x ≤ x
  pub inner_up : (x y : ℕ) → 0 < at g.place.items x → 0 < at g.by.items y → x ≢ y → Under g x y → Under g x (at g.up.items y)
  pub inner_down : (x y : ℕ) → 0 < at g.place.items x → 0 < at g.by.items y → x ≢ y → Under g x (at g.up.items y) → Under g x y
  pub inner_root : (x y : ℕ) → 0 < at g.place.items x → 0 < at g.place.items y → at g.by.items y ≡ 0 → Under g x y → x ≡ y
  pub lasts : (x : ℕ) → 0 < at g.place.items x → at g.place.items x ≤ at g.last.items x

-- the number of the k-th of these rows, and 0 for 0
abbrev pub row_number_of : List ℕ → ℕ → ℕ
row_number_of numbers k = if k == 0 then 0 else slice_index numbers (k - 1)

-- every event is in a tree
pub record IsGrown (n : ℕ) (arcs : List Arc) (g : Forest) : Type 0 where
  pub grown : IsRooted n (length arcs) (tail_of arcs) (head_of arcs) g
  pub all_seen : (x : ℕ) → x < n → 0 < at g.place.items x
  pub events : vec_len g.up ≡ n
  pub ends : HaveEnds n arcs
  pub few : length arcs ≤ MOST_ROWS

-- both ends of the row are in one tree
abbrev pub IsMetBy : List Arc → Forest → ℕ → Type 0
IsMetBy arcs g k = at g.root.items (tail_of arcs k) ≡ at g.root.items (head_of arcs k)

-- a spanning forest: both ends of each row are in one tree
pub record IsForest (n : ℕ) (arcs : List Arc) (g : Forest) : Type 0 where
  pub grown : IsRooted n (length arcs) (tail_of arcs) (head_of arcs) g
  pub all_seen : (x : ℕ) → x < n → 0 < at g.place.items x
  pub events : vec_len g.up ≡ n
  pub ends : HaveEnds n arcs
  pub few : length arcs ≤ MOST_ROWS
  pub met : (k : ℕ) → Names (length arcs) k → IsMetBy arcs g k

-- the row joins some event to the one above it
abbrev pub IsTreeRow : Forest → ℕ → Type 0
IsTreeRow g r = (x : ℕ) × (0 < at g.by.items x) × (at g.by.items x ≡ r)

-- these are the rows of the forest, each once
pub record AreTreeRows (n : ℕ) (g : Forest) (rows : List ℕ) : Type 0 where
  pub apart : AllPairs (λ a b. a ≢ b) rows
  pub tree : All (IsTreeRow g) rows
  pub all : (x : ℕ) → x < n → 0 < at g.by.items x → Contains rows (at g.by.items x)

-- ---- places that are reached

-- v is the place of an event at or below x, or of one to which a row leads from there, other than the row to the event above
abbrev pub IsReachedPlace : List Arc → Forest → ℕ → ℕ → Type 0
IsReachedPlace arcs g x v = ((z : ℕ) × Under g x z × (v ≡ at g.place.items z))
    ⊎ ((z : ℕ) × (j : ℕ) × (y : ℕ) × Under g x z × Names (length arcs) j × HasEnds (arc_at arcs (j - 1)) z y
    × (at g.by.items z ≡ j → ⊥) × (v ≡ at g.place.items y))

-- the first and the last place that are reached from each event
pub record AreReaches (n : ℕ) (arcs : List Arc) (g : Forest) (low high : List ℕ) : Type 0 where
  pub row_low : (j x y : ℕ) → Names (length arcs) j → HasEnds (arc_at arcs (j - 1)) x y → (at g.by.items x ≡ j → ⊥)
      → at low x ≤ at g.place.items y
  pub row_high : (j x y : ℕ) → Names (length arcs) j → HasEnds (arc_at arcs (j - 1)) x y
      → (at g.by.items x ≡ j → ⊥) → at g.place.items y ≤ at high x
  pub up_low : (x : ℕ) → 0 < at g.by.items x → at low (at g.up.items x) ≤ at low x
  pub up_high : (x : ℕ) → 0 < at g.by.items x → at high x ≤ at high (at g.up.items x)
  pub low_reached : (x : ℕ) → x < n → IsReachedPlace arcs g x (at low x)
  pub high_reached : (x : ℕ) → x < n → IsReachedPlace arcs g x (at high x)

-- the first rows up to i are taken in
pub record ReachesRows (n : ℕ) (arcs : List Arc) (g : Forest) (i : ℕ) (low high : List ℕ) : Type 0 where
  pub row_low : (j x y : ℕ) → Names (length arcs) j → j ≤ i → HasEnds (arc_at arcs (j - 1)) x y
      → (at g.by.items x ≡ j → ⊥) → at low x ≤ at g.place.items y
  pub row_high : (j x y : ℕ) → Names (length arcs) j → j ≤ i → HasEnds (arc_at arcs (j - 1)) x y
      → (at g.by.items x ≡ j → ⊥) → at g.place.items y ≤ at high x
  pub low_reached : (x : ℕ) → x < n → IsReachedPlace arcs g x (at low x)
  pub high_reached : (x : ℕ) → x < n → IsReachedPlace arcs g x (at high x)

-- a and b were taken in at x
pub record TakesPlaces (low high low2 high2 : List ℕ) (x a b : ℕ) : Type 0 where
  pub low_less : (z : ℕ) → at low2 z ≤ at low z
  pub high_more : (z : ℕ) → at high z ≤ at high2 z
  pub low_here : at low2 x ≤ a
  pub high_here : b ≤ at high2 x
  pub low_is : (z : ℕ) → (at low2 z ≡ at low z) ⊎ ((z ≡ x) × (at low2 z ≡ a))
  pub high_is : (z : ℕ) → (at high2 z ≡ at high z) ⊎ ((z ≡ x) × (at high2 z ≡ b))

-- the events of a later place than i have told the events above them
pub record TakesUp (n : ℕ) (arcs : List Arc) (g : Forest) (i : ℕ) (low high : List ℕ) : Type 0 where
  pub rows_in : ReachesRows n arcs g (length arcs) low high
  pub up_low : (x : ℕ) → 0 < at g.by.items x → i < at g.place.items x → at low (at g.up.items x) ≤ at low x
  pub up_high : (x : ℕ) → 0 < at g.by.items x → i < at g.place.items x → at high x ≤ at high (at g.up.items x)
